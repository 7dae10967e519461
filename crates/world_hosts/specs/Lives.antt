-- The restart of a node from what a host's devices hold.
use Rattle.std.specs.Prelude.{ℕ, Option, Some, None}
use Rattle.smart_base.specs.Views.{View}
use Rattle.smart_service.specs.Services.{Meaning}
use Rattle.node_rules.specs.Nodes.{Node}
use Rattle.node_rules.specs.Reopening.{reopened_from, damage_of}
use Rattle.node_rules.specs.declared.node.Parts.{Parts}
use Rattle.world_rules.specs.Secrets.{group_secret}
use Rattle.world_rules.specs.Worlds.{Host, parts_held, host_resumed}
use Rattle.world_rules.specs.declared.line.OutLine.{OutLine}
use Rattle.world_rules.specs.declared.line.OutLine.TheVariants as outs

-- the node after a restart from parts, if none is damaged
abbrev pub node_from : {S : Type 0} → Meaning S → View → ℕ → ℕ → Parts → Option ℕ → Option (Node S)
node_from m view period id parts (Some damage) = None
node_from m view period id parts None = Some (reopened_from m group_secret id view period parts)

-- the node after a restart from what a host's devices hold
abbrev pub node_in : {S : Type 0} → Meaning S → View → ℕ → Host S → Option (Node S)
node_in m view period h = node_from m view period h.node.id (parts_held h) (damage_of m group_secret view (parts_held h))

-- the host after a restart, if there is a node
abbrev pub host_with : {S : Type 0} → Host S → Option (Node S) → Host S
host_with h None = h
host_with h (Some n) = host_resumed h n

-- what a restart from so many entries tells
abbrev pub told_with : {S : Type 0} → ℕ → ℕ → Option (Node S) → Option OutLine
told_with id count None = None
told_with id count (Some n) = Some (outs.Restarted id n.replica.place count)
