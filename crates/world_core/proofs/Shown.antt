-- What a line tells that shows the members and the clients.
use Rattle.std.proofs.Common.{◌≡◌, ℕ, ◌++◌, ◌∙◌, List, append_assoc, ap}
use Rattle.std.specs.List.{flat_map}
use Rattle.client_quorum.specs.declared.client.Client.{Client}
use Rattle.world_rules.specs.Worlds.{Host, World, shown_host, shown_client, shows}
use Rattle.world_rules.specs.declared.line.OutLine.{OutLine}

pub shown : {S : Type 0} {v w : World S} (faulty : List ℕ) (hosts : List (Host S)) (clients : List Client) (first last : List OutLine) → v ≡ w → faulty ≡ v.faulty → hosts ≡ v.hosts
    → clients ≡ v.clients → first ≡ v.told ++ flat_map (shown_host faulty) hosts → last ≡ first ++ flat_map shown_client clients → ◌≡◌ {A = World S} (record v { told = last }) (shows w)
shown {v = v} faulty hosts clients first last is faulty_is hosts_are clients_are first_is last_is =
    rw (last_is, first_is, faulty_is, hosts_are, clients_are) (ap (λ told. record v { told = told }) (append_assoc v.told _ _)) ∙ ap (λ x. shows x) is
