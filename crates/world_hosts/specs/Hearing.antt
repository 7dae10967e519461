-- What a node hears of its store, whether a step of it was idle, and the segment of its deliveries.
use Rattle.std.specs.Prelude.{◌-◌, nat_lt, Bool, true, false, List, [], ◌∷◌, Option, Some, None, if◌then◌else◌}
use Rattle.smart_statements.specs.declared.entry.NodeEvent.{NodeEvent}
use Rattle.smart_statements.specs.declared.entry.NodeEvent.TheVariants.{Firm}
use Rattle.node_rules.specs.Deliveries.{Segment}
use Rattle.node_rules.specs.declared.node.Fired.{Fired}
use Rattle.world_rules.specs.Worlds.{Host}

-- the number of firm entries of its life, if they are more than the node knows
abbrev pub firmness : {S : Type 0} → Host S → Option NodeEvent
firmness h = if nat_lt h.node.firm h.store.firm then Some (Firm (h.store.firm - h.node.restored)) else None

-- a step in which no rule fired
abbrev pub is_idle : List Fired → Bool
is_idle [] = true
is_idle (rule ∷ rules) = false

-- a host whose present segment of deliveries is this one
abbrev pub with_segment : {S : Type 0} → Host S → Segment → Host S
with_segment h s = record h { resumed = s.began; delivered = s.delivered; earlier = s.earlier }
