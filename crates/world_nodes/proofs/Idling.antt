-- What idle nodes tell.
use Rattle.std.proofs.Common.{◌≡◌, ℕ, Bool, List, [], ◌∷◌, Some, refl, ap}
use Rattle.std.specs.Prelude.{slice_get}
use Rattle.smart_statements.specs.declared.entry.NodeEvent.{NodeEvent}
use Rattle.node_rules.specs.declared.node.Fired.{Fired}
use Rattle.world_rules.specs.Worlds.{Course, Host, World, stepped, telling_all, told_idle}
use Rattle.world_rules.specs.declared.line.OutLine.{OutLine}
use Rattle.world_hosts.specs.Hearing.{is_idle}
use Rattle.world_nodes.specs.Idling.{steps, tries, is_idle_at, idle_lines}

-- a node is idle where no rule fired
pub told_idle_is : (id : ℕ) (fired : List Fired) → idle_lines id (is_idle fired) ≡ told_idle id fired
told_idle_is id [] = refl
told_idle_is id (rule ∷ rules) = refl

-- an event at an index, by what each part of it says
pub tried_at : {S : Type 0} (course : Course S) (i : ℕ) (event : NodeEvent) (w x w' : World S) (h : Host S) (id : ℕ) (idle : Bool)
    → slice_get w.hosts i ≡ Some h → id ≡ h.node.id → idle ≡ is_idle_at course event (slice_get w.hosts i) → x ≡ steps course i event w (slice_get w.hosts i)
    → w' ≡ telling_all x (idle_lines id idle) → w' ≡ tries course i event w (slice_get w.hosts i)
tried_at course i event w x w' h id idle there id_is idle_is x_is is =
    rw (is, x_is, idle_is, id_is, there)
    (ap (λ (lines : List OutLine). telling_all (stepped course w i h (course.step h.node event)) lines) (told_idle_is h.node.id (course.step h.node event).fired))
