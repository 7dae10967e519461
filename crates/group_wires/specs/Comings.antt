-- What comes to the parties of a group, by the trails of those that send.
use Rattle.std.specs.Prelude.{◌≡◌, ◌⊎◌, ℕ, List, [], ◌∷◌}
use Rattle.std.specs.List.{flat_map}
use Rattle.smart_base.specs.Lists.{Each}
use Rattle.node_rules.specs.declared.node.Target.{Target}
use Rattle.trail.specs.declared.event.TrailEvent.{TrailEvent}
use Rattle.group_ends.specs.Carried.{carried}
use Rattle.group_ends.specs.Ports.{ends, CarriesFirst}
use Rattle.group_wires.specs.declared.row.Row.{Row}
use Rattle.group_wires.specs.Wires.{at}

-- Each link of each row carries a front of what its party's trail sends to its end and does not tell as lost.
abbrev pub AreCarried : List (List TrailEvent) → List Row → Type 0
AreCarried [] [] = Unit {0}
AreCarried [] (row ∷ rows) = ⊥
AreCarried (events ∷ trails) [] = ⊥
AreCarried (events ∷ trails) (row ∷ rows) = Each (CarriesFirst events) row.ports.items × AreCarried trails rows

-- At this index each row has a link to this end, or none.
abbrev pub LeadsTo : ℕ → Target → Row → Type 0
LeadsTo index end row = (at index (ends row.ports.items) ≡ end ∷ []) ⊎ (at index (ends row.ports.items) ≡ [])

-- what some trails send to an end and do not tell as lost
abbrev pub all_carried : Target → List (List TrailEvent) → List (List ℕ)
all_carried end trails = flat_map (carried end) trails
