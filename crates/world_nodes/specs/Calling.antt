-- A device call at a node, and what the node hears then.
use Rattle.std.specs.Prelude.{ℕ, Option, Some, None}
use Rattle.smart_statements.specs.declared.entry.NodeEvent.{NodeEvent}
use Rattle.world_rules.specs.Worlds.{Course, Host, World, hears_firm, disk_called}
use Rattle.world_nodes.specs.Idling.{steps}

-- the world after the node at an index took an event, if there is one
abbrev pub steps_if : {S : Type 0} → Course S → ℕ → World S → Option (Host S) → Option NodeEvent → World S
steps_if course i w h None = w
steps_if course i w h (Some event) = steps course i event w h

-- the world after a call of the store at an index, and after its node heard what is firm
abbrev pub calls : {S : Type 0} → Course S → ℕ → World S → Option (Host S) → World S
calls course i w None = w
calls course i w (Some h) = hears_firm course i w (disk_called course h)
