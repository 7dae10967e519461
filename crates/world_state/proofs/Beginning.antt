-- A world that begins.
use Rattle.std.proofs.Common.{◌≡◌, List, [], None, refl}
use Rattle.smart_base.specs.Views.{View}
use Rattle.smart_base.specs.declared.limits.TheConstants.{CLIENTS}
use Rattle.smart_service.specs.Services.{Meaning}
use Rattle.world_ledger.specs.Choices.{Choices}
use Rattle.world_ledger.specs.Ledgers.{LedgerState}
use Rattle.world_rules.specs.Worlds.{World, Host, begun, hosts_from, clients_from}
use Rattle.world_rules.specs.declared.line.Header.{Header}
use Rattle.client_quorum.specs.declared.client.Client.{Client}

pub begins : {S : Type 0} (m : Meaning S) (header : Header) (view : View) (hosts : List (Host S)) (clients : List Client) (l : LedgerState) (c : Choices) (w : World S)
    → w ≡ record { view = c.first; period = header.period; hosts = hosts; clients = clients; sent = l.sent; marked = l.marked; mark = 0; chosen = c.list; accepted = []; told = []; faulty = []; rogue = []; ending = None }
    → view ≡ header.view → hosts ≡ hosts_from m view header.period view.members → clients ≡ clients_from view CLIENTS 0 → l ≡ record { sent = []; marked = [] } → c ≡ record { first = view; list = [] } → w ≡ begun m header
begins m header view hosts clients l c w is view_is hosts_are clients_are ledger_is chosen_is = rw (is, hosts_are, clients_are, ledger_is, chosen_is, view_is) refl
