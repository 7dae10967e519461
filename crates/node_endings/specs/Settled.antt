-- A node that has done all that was due.
use Rattle.std.specs.Prelude.{◌≡◌, List, [], ◌∷◌, ◌++◌, length, false, is_some, None}
use Rattle.smart_service.specs.Services.{Meaning}
use Rattle.node_rules.specs.Nodes.{Node}
use Rattle.node_rules.specs.Steps.{first_leaving}
use Rattle.trail.specs.declared.event.TrailEvent.{TrailEvent}
use Rattle.trail.specs.declared.event.TrailEvent.TheVariants.{End}
use Rattle.trail_rules.specs.Replays.{core_steps, replay}
use Rattle.node_played.specs.Lives.{IsEndLast}

module _ {S : Type 0} where
  -- No batch waits, all entries are firm, and no message is held that leaves.
  pub record IsSettled (n : Node S) : Type 0 where
    pub none_waits : is_some n.waiting ≡ false
    pub all_firm : n.firm ≡ length n.entries
    pub none_leaves : first_leaving n.firm n.held ≡ None

  -- A trail that ends with End, behind events whose replay is settled. No event stands behind any End.
  pub record EndsSettled (m : Meaning S) (opening : Node S) (trail : List TrailEvent) : Type 0 where
    pub before : List TrailEvent
    pub is : trail ≡ before ++ End ∷ []
    pub last : IsEndLast trail
    pub settled : IsSettled (replay (core_steps m) opening before)
