-- A device call, and then what the node hears.
use Rattle.std.proofs.Common.{◌≡◌, ℕ, zero, suc, ◌<◌, Bool, true, false, List, [], ◌∷◌, ◌++◌, Option, Some, None, refl, ap, cond, length, ◌∙◌, arith}
use Rattle.std.specs.Prelude.{slice_get, slice_set, get_or, nat_lt, ◌-◌}
use Rattle.std.specs.List.{flat_map}
use Rattle.smart_statements.specs.declared.entry.NodeEvent.{NodeEvent}
use Rattle.smart_statements.specs.declared.entry.NodeEvent.TheVariants.{Firm}
use Rattle.node_rules.specs.Nodes.{next_place, view_of}
use Rattle.node_rules.specs.Steps.{Outcome, leaving}
use Rattle.world_rules.specs.Worlds.{Course, Host, World, disk_called, stepped, sends_all, meets, snapshot_in, hears_firm, host_after, chosen_with, ending_few, told_drop, told_fired}
use Rattle.world_hosts.specs.Hearing.{firmness}
use Rattle.world_nodes.specs.Calling.{steps_if, calls}

set_twice : {A : Type 0} (xs : List A) (i : ℕ) (a b : A) → slice_set (slice_set xs i a) i b ≡ slice_set xs i b
set_twice [] i a b = refl
set_twice (x ∷ xs) zero a b = refl
set_twice {A = A} (x ∷ xs) (suc i) a b = ap (λ (ys : List A). x ∷ ys) (set_twice xs i a b)

-- what is put at an index stands there
pub get_set : {A : Type 0} (xs : List A) (i : ℕ) (a : A) → i < length xs → slice_get (slice_set xs i a) i ≡ Some a
get_set [] i a within = absurd (omega arith)
get_set (x ∷ xs) zero a within = refl
get_set (x ∷ xs) (suc i) a within = get_set xs i a (omega arith)

-- and is read there
pub read_set : {A : Type 0} (xs : List A) (i : ℕ) (a d : A) → i < length xs → get_or (slice_set xs i a) i d ≡ a
read_set [] i a d within = absurd (omega arith)
read_set (x ∷ xs) zero a d within = refl
read_set (x ∷ xs) (suc i) a d within = read_set xs i a d (omega arith)

-- a step behind a change of its host
stepped_set : {S : Type 0} (course : Course S) (w : World S) (i : ℕ) (h : Host S) (o : Outcome S) → stepped course (record w { hosts = slice_set w.hosts i h }) i h o ≡ stepped course w i h o
unfolding stepped
stepped_set {S = S} course w i h o =
    ap (λ (hs : List (Host S)). sends_all h.node.id (view_of o.node)
    (meets
    (record w {
      hosts = hs;
      chosen = chosen_with w.chosen (next_place o.node) o.node.waiting;
      told = w.told ++ (told_drop h.node.id o.dropped ++ flat_map (told_fired h.node.id) o.fired);
      ending = ending_few w.view (chosen_with w.chosen (next_place o.node) o.node.waiting) w.faulty w.ending;
    })
    (flat_map snapshot_in o.fired))
    (leaving o.node.firm o.node.held)) (set_twice w.hosts i h (host_after course h o))

heard : {S : Type 0} (course : Course S) (i : ℕ) (w : World S) (h : Host S) (more : Bool)
    → steps_if course i (record w { hosts = slice_set w.hosts i h }) (Some h) (cond more (Some (Firm (h.store.firm - h.node.restored))) None)
    ≡ cond more (stepped course w i h (course.step h.node (Firm (h.store.firm - h.node.restored)))) (record w { hosts = slice_set w.hosts i h })
heard course i w h true = stepped_set course w i h (course.step h.node (Firm (h.store.firm - h.node.restored)))
heard course i w h false = refl

-- what a node hears behind a call of its store
pub called_then : {S : Type 0} (course : Course S) (i : ℕ) (w : World S) (h : Host S) → i < length w.hosts
    → steps_if course i (record w { hosts = slice_set w.hosts i h }) (slice_get (slice_set w.hosts i h) i) (firmness h) ≡ hears_firm course i w h
called_then {S = S} course i w h within =
    ap (λ (found : Option (Host S)). steps_if course i (record w { hosts = slice_set w.hosts i h }) found (firmness h)) (get_set w.hosts i h within)
    ∙ heard course i w h (nat_lt h.node.firm h.store.firm)

-- a call at an index, by what each part of it says
pub called_at : {S : Type 0} (course : Course S) (i : ℕ) (w x w' : World S) (h h' : Host S) (event : Option NodeEvent) → i < length w.hosts
    → slice_get w.hosts i ≡ Some h → h' ≡ disk_called course h → x ≡ record w { hosts = slice_set w.hosts i h' } → event ≡ firmness (disk_called course h)
    → w' ≡ steps_if course i x (slice_get x.hosts i) event → w' ≡ calls course i w (slice_get w.hosts i)
called_at course i w x w' h h' event within there host_is x_is event_is is =
    rw (is, x_is, event_is, host_is, there) (called_then course i w (disk_called course h) within)
