-- Hosts that stand along one list.
use Rattle.std.proofs.Common.{◌≡◌, ◌+◌, ◌≤◌, List, length, Some, take}
use Rattle.smart_base.specs.Lists.{Each}
use Rattle.smart_base.specs.Views.{View}
use Rattle.smart_statements.specs.Batches.{Batch}
use Rattle.smart_service.specs.Services.{Meaning}
use Rattle.replica_rules.specs.Replicas.{state, batch_at}
use Rattle.world_rules.specs.Worlds.{Host, World}

-- a host's replica is the state of a front of the list, and the batch that waits is the list's next
pub record Aligned {S : Type 0} (m : Meaning S) (view : View) (chosen : List Batch) (h : Host S) : Type 0 where
  pub within : h.node.replica.place ≤ length chosen
  pub replica : h.node.replica ≡ state m view (take h.node.replica.place chosen)
  pub waiting : (batch : Batch) → h.node.waiting ≡ Some batch → batch_at chosen (h.node.replica.place + 1) ≡ Some batch

pub record AllAligned {S : Type 0} (m : Meaning S) (w : World S) : Type 0 where
  pub hosts : Each (Aligned m w.view w.chosen) w.hosts
