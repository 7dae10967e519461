use Rattle.std.proofs.Common.{◌≡◌, false, drop}
use Rattle.app_count.specs.Counts.{counting}
use Rattle.replica_rules.specs.Replicas.{after_batches, state}
use Rattle.script_play.proofs.totals.state_sum.Given as goal

-- the rest of the list leads to the state after all of it
abbrev pub invariant-loop-batch : goal.invariant-loop-batch
invariant-loop-batch l =
    record {
      ready : l.replica.spent ≡ false;
      leads : after_batches counting l.replica.replica (drop l.batch-index l.list) ≡ state counting l.view l.list;
    }
