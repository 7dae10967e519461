-- An event at a node, behind the text that it completes.
use Rattle.std.proofs.Common.{◌≡◌, ℕ, Bool, true, false, List, Option, Some, None, refl, ap, sym, ◌∙◌, cond}
use Rattle.std.specs.Prelude.{slice_get}
use Rattle.smart_statements.specs.declared.entry.NodeEvent.{NodeEvent}
use Rattle.node_rules.specs.Transfers.{completed_by}
use Rattle.world_rules.specs.Worlds.{Course, Host, World, is_halted, meets, stepped}
use Rattle.world_nodes.specs.Idling.{steps, met_at, takes_at}

-- the text is met, and the node stays
pub met_by : {S : Type 0} (i : ℕ) (event : NodeEvent) (w x w' : World S) (h : Host S) (texts : List (List ℕ)) → slice_get w.hosts i ≡ Some h → texts ≡ completed_by h.node event → x ≡ w → w' ≡ meets x texts
    → w' ≡ met_at event w (slice_get w.hosts i)
met_by i event w x w' h texts there texts_are x_is is = rw (is, x_is, texts_are, there) refl

-- no host changes
pub met_hosts : {S : Type 0} (event : NodeEvent) (w : World S) (found : Option (Host S)) → (met_at event w found).hosts ≡ w.hosts
met_hosts event w None = refl
met_hosts event w (Some h) = refl

steps_on : {A : Type 0} (over : Bool) (x y : A) → over ≡ false → y ≡ cond over x y
steps_on true x y none = absurd (cc)
steps_on false x y none = refl

stops_on : {A : Type 0} (over : Bool) (x y : A) → over ≡ true → x ≡ cond over x y
stops_on true x y all = refl
stops_on false x y all = absurd (cc)

halted_with : {S : Type 0} (course : Course S) (i : ℕ) (event : NodeEvent) (w x : World S) (found : Option (Host S)) → x ≡ met_at event w found → is_halted x ≡ true → x ≡ takes_at course i event w found
halted_with course i event w x None x_is over = x_is
halted_with course i event w x (Some h) x_is over =
    let m = meets w (completed_by h.node event) in
    x_is ∙ stops_on (is_halted m) m (stepped course m i h (course.step h.node event)) (ap (λ v. is_halted v) (sym x_is) ∙ over)

-- a play that has ended goes no further
pub halted_at : {S : Type 0} (course : Course S) (i : ℕ) (event : NodeEvent) (w x : World S) → x ≡ met_at event w (slice_get w.hosts i) → is_halted x ≡ true
    → x ≡ takes_at course i event w (slice_get w.hosts i)
halted_at course i event w x x_is over = halted_with course i event w x (slice_get w.hosts i) x_is over

taken_with : {S : Type 0} (course : Course S) (i : ℕ) (event : NodeEvent) (w x w' : World S) (found : Option (Host S)) → x ≡ met_at event w found → is_halted x ≡ false
    → w' ≡ steps course i event x found → w' ≡ takes_at course i event w found
taken_with course i event w x w' None x_is on is = is ∙ x_is
taken_with course i event w x w' (Some h) x_is on is =
    let m = meets w (completed_by h.node event) in
    is ∙ (ap (λ v. stepped course v i h (course.step h.node event)) x_is
    ∙ steps_on (is_halted m) m (stepped course m i h (course.step h.node event)) (ap (λ v. is_halted v) (sym x_is) ∙ on))

-- and else the node takes its step
pub taken_at : {S : Type 0} (course : Course S) (i : ℕ) (event : NodeEvent) (w x w' : World S) → x ≡ met_at event w (slice_get w.hosts i) → is_halted x ≡ false
    → w' ≡ steps course i event x (slice_get x.hosts i) → w' ≡ takes_at course i event w (slice_get w.hosts i)
taken_at course i event w x w' x_is on is =
    let same = ap (λ v. slice_get v.hosts i) x_is ∙ ap (λ hs. slice_get hs i) (met_hosts event w (slice_get w.hosts i)) in
    taken_with course i event w x w' (slice_get w.hosts i) x_is on (is ∙ ap (λ found. steps course i event x found) same)
