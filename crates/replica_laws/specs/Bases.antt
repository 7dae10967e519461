-- The replica from which a node's deliveries go on: the one that it began with, or took over last.
use Rattle.std.specs.Prelude.{Bool, List, [], ◌∷◌, ◌++◌, is_some, if◌then◌else◌}
use Rattle.std.specs.List.{flat_map, list_any}
use Rattle.smart_statements.specs.declared.entry.NodeEvent.{NodeEvent}
use Rattle.smart_service.specs.Services.{Meaning}
use Rattle.smart_service.specs.Tables.{kept_in}
use Rattle.smart_service.specs.declared.replica.Replica.{Replica}
use Rattle.smart_service.specs.declared.table.Execution.{Execution}
use Rattle.replica_rules.specs.Replicas.{executed_lines}
use Rattle.node_rules.specs.Nodes.{Node}
use Rattle.node_rules.specs.Steps.{step_of}
use Rattle.node_rules.specs.Deliveries.{delivery_in, installed_in}
use Rattle.node_rules.specs.declared.node.Delivery.{Delivery}
use Rattle.node_rules.specs.declared.node.Fired.{Fired}

-- events of a step in which the node took over a replica
abbrev pub has_installed : List Fired → Bool
has_installed fired = list_any (λ (f : Fired). is_some (installed_in f)) fired

-- the base after an event: the replica that the node took over in it, if it did. Such a step delivers nothing.
abbrev pub base_after : {S : Type 0} → Meaning S → Replica S → Node S → NodeEvent → Replica S
base_after m base n event = if has_installed (step_of m n event).fired then (step_of m n event).node.replica else base

-- the base after a list of events
abbrev pub base_of : {S : Type 0} → Meaning S → Replica S → Node S → List NodeEvent → Replica S
base_of m base n [] = base
base_of m base n (e ∷ es) = base_of m (base_after m base n e) (step_of m n e).node es

-- the executions that a step adds to those which a node knows: those of what it delivers, or those that the table of a replica has which it
-- takes over
abbrev pub lines_after : {S : Type 0} → Meaning S → Node S → NodeEvent → List Execution
lines_after m n event =
    if has_installed (step_of m n event).fired then kept_in (step_of m n event).node.replica.table
    else flat_map (λ (d : Delivery). executed_lines m n.replica d.batch) (flat_map delivery_in (step_of m n event).fired)

-- those of a list of events
abbrev pub lines_of : {S : Type 0} → Meaning S → Node S → List NodeEvent → List Execution
lines_of m n [] = []
lines_of m n (e ∷ es) = lines_after m n e ++ lines_of m (step_of m n e).node es
