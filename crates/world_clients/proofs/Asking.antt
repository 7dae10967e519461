-- What a client sends again, by whether a request waits.
use Rattle.std.proofs.Common.{◌≡◌, Option, Some, None, refl}
use Rattle.std.specs.Prelude.{option_map}
use Rattle.smart_base.specs.Views.{present}
use Rattle.smart_statements.specs.Kinds.{requests}
use Rattle.smart_statements.specs.declared.statement.Request.{Request}
use Rattle.replica_rules.specs.Seals.{signed}
use Rattle.node_rules.specs.declared.node.Target.TheVariants as targets
use Rattle.client_quorum.specs.declared.client.Client.{Client}
use Rattle.world_rules.specs.Secrets.{group_secret}
use Rattle.world_rules.specs.Worlds.{World, asked_in, heard_by, client_repeats}
use Rattle.world_clients.specs.Asking.{repeats_by}

-- a client that sends the request that waits
pub repeats_waiting : {S : Type 0} (w : World S) (c : Client) (waiting : Option Request)
    → repeats_by w c.id (heard_by (present c.views) (asked_in w.clients) targets.View) (option_map (λ (q : Request). signed requests group_secret c.id q) waiting) ≡ client_repeats w c waiting
repeats_waiting w c None = refl
repeats_waiting w c (Some q) = refl
