-- What a delivery makes of a node before it is told, and what it gives.
use Rattle.std.specs.Prelude.{false, length, Option, Some, None}
use Rattle.smart_service.specs.Services.{Meaning}
use Rattle.smart_statements.specs.Batches.{Batch}
use Rattle.replica_rules.specs.Replicas.{delivered, executed_lines}
use Rattle.replica_rules.specs.Pools.{settled}
use Rattle.node_rules.specs.Nodes.{Node, next_place, enters}
use Rattle.node_replica.specs.Begun.{number_begun}
use Rattle.node_replica.specs.declared.delivers.Executed.{Executed}

-- the node after its waiting batch was executed, before the delivery is told; the batch may begin a view
unfoldable pub executed : {S : Type 0} → Meaning S → Node S → Option Batch → Node S
executed m n None = n
executed m n (Some batch) =
    let replica = delivered m n.replica batch in
    enters n (record n { replica = replica; waiting = None; pool = settled replica.table n.pool; impatient = false })

-- the event of a delivery, the lines of the executed requests, and the number of the view that began, if one did
abbrev pub execution : {S : Type 0} → Meaning S → Node S → Option Batch → Option Executed
execution m n None = None
execution m n (Some batch) =
    Some (record {
      delivery = record { place = next_place n; batch = batch; executed = length (executed_lines m n.replica batch) };
      lines = executed_lines m n.replica batch;
      begun = number_begun n.replica.views (delivered m n.replica batch).views;
    })
