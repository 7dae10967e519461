-- Hosts that are read at an index, and put there.
use Rattle.std.proofs.Common.{◌≡◌, ℕ, zero, suc, ◌<◌, List, [], ◌∷◌, ◌++◌, Some, refl, ap, sym, ◌∙◌, length, arith}
use Rattle.std.specs.Prelude.{slice_get, slice_set, get_or, Result, Ok, Err, IfOk, OnOk, OnErr}
use Rattle.std.specs.List.{flat_map}
use Rattle.std.proofs.lemmas.Option.{slice_get-get_or}
use Rattle.smart_service.specs.Services.{Meaning}
use Rattle.smart_statements.specs.declared.entry.NodeEvent.{NodeEvent}
use Rattle.node_rules.specs.Nodes.{next_place}
use Rattle.node_rules.specs.Kept.{core_step}
use Rattle.world_rules.specs.Worlds.{Host, World, core_course, host_after, chosen_with, told_drop, told_fired}
use Rattle.world_ledger.specs.Choices.{Choices}
use Rattle.world_rules.specs.declared.line.OutLine.{OutLine}
use Rattle.world_nodes.specs.Idling.{stepped_in}
use Rattle.world_nodes.proofs.Stepping.{same_host}
use Rattle.world_nodes.proofs.Stopping.{set_same}

-- something stands at an index within a list
pub at_there : {A : Type 0} (xs : List A) (i : ℕ) (P : Type 0) → i < length xs → ((a : A) → slice_get xs i ≡ Some a → P) → P
at_there [] i P within holds = absurd (omega arith)
at_there (x ∷ xs) zero P within holds = holds x refl
at_there (x ∷ xs) (suc i) P within holds = at_there xs i P (omega arith) holds

-- what was read at an index of a list stands at that index of the same list
pub read_there : {A : Type 0} (xs ys : List A) (i : ℕ) (x d : A) → ys ≡ xs → i < length xs → x ≡ get_or ys i d → slice_get xs i ≡ Some x
read_there xs ys i x d same within read =
    let at : i < length ys = rw same within in
    ap (λ zs. slice_get zs i) (sym same) ∙ (slice_get-get_or ys i d at ∙ ap (λ y. Some y) (sym read))

-- it is the one that stands there
pub read_is : {S : Type 0} (w w0 : World S) (i : ℕ) (h h0 d : Host S) → w ≡ w0 → i < length w0.hosts → h0 ≡ get_or w.hosts i d → slice_get w0.hosts i ≡ Some h → h0 ≡ h
read_is w w0 i h h0 d same within read there =
    same_host w0.hosts i h0 h (read_there w0.hosts w.hosts i h0 d (ap (λ v. v.hosts) same) within read) there

-- what is put at an index is within
pub set_within : {A : Type 0} (xs : List A) (i : ℕ) (a : A) → i < length xs → i < length (slice_set xs i a)
set_within [] i a within = absurd (omega arith)
set_within (x ∷ xs) zero a within = omega arith
set_within (x ∷ xs) (suc i) a within = let more = set_within xs i a (omega arith) in omega arith

-- a world in which a host was changed
pub put_at : {S R E : Type 0} (result : Result R E) (w w0 : World S) (i : ℕ) (h h0 h' : Host S) (f : Host S → Host S) → w ≡ w0 → h0 ≡ h → OnOk result (h' ≡ f h0)
    → OnOk result (record w { hosts = slice_set w.hosts i h' } ≡ record w0 { hosts = slice_set w0.hosts i (f h) })
put_at (Err e) w w0 i h h0 h' f same is done = tt
put_at (Ok r) w w0 i h h0 h' f same is done = rw (done, is, same) refl

-- one in which a host was changed by what the world has
pub put_in : {S R E : Type 0} (result : Result R E) (w w0 : World S) (i : ℕ) (h h0 h' : Host S) (f : World S → Host S → Host S) → w ≡ w0 → h0 ≡ h → OnOk result (h' ≡ f w h0)
    → OnOk result (record w { hosts = slice_set w.hosts i h' } ≡ record w0 { hosts = slice_set w0.hosts i (f w0 h) })
put_in (Err e) w w0 i h h0 h' f same is done = tt
put_in (Ok r) w w0 i h h0 h' f same is done = rw (done, is, same) refl

-- what is given of a host
pub told_in : {S R E : Type 0} (result : Result R E) (w w0 : World S) (h h0 : Host S) (f : World S → Host S → R) → w ≡ w0 → h0 ≡ h → IfOk result (λ r. r ≡ f w h0) → IfOk result (λ r. r ≡ f w0 h)
told_in (Err e) w w0 h h0 f same is done = tt
told_in (Ok r) w w0 h h0 f same is done = rw (done, is, same) refl

-- a world in which a host is put back
pub put_back : {S : Type 0} (w w0 : World S) (i : ℕ) (h h' d : Host S) → w ≡ w0 → i < length w0.hosts → h ≡ get_or w.hosts i d → h' ≡ h → record w { hosts = slice_set w.hosts i h' } ≡ w0
put_back {S = S} w w0 i h h' d same within read is =
    let at : i < length w.hosts = rw (ap (λ (v : World S). v.hosts) same) within in
    ap (λ (k : Host S). record w { hosts = slice_set w.hosts i k }) is
    ∙ (ap (λ (hs : List (Host S)). record w { hosts = hs }) (set_same w.hosts i h (slice_get-get_or w.hosts i d at ∙ ap (λ y. Some y) (sym read))) ∙ same)

-- one in which nothing has changed, behind an error
pub kept_at : {S R E : Type 0} (result : Result R E) (w w0 : World S) (i : ℕ) (h h' d : Host S) → w ≡ w0 → i < length w0.hosts → h ≡ get_or w.hosts i d → OnErr result (h' ≡ h)
    → OnErr result (record w { hosts = slice_set w.hosts i h' } ≡ w0)
kept_at (Err e) w w0 i h h' d same within read is = put_back w w0 i h h' d same within read is
kept_at (Ok r) w w0 i h h' d same within read is = tt

-- one in which a node took a step
pub put_step : {S : Type 0} (m : Meaning S) (event : NodeEvent) (w w0 : World S) (i : ℕ) (h h0 h' : Host S) (chosen : Choices) (told : List OutLine) → w ≡ w0 → h0 ≡ h
    → h' ≡ host_after (core_course m) h0 (core_step m h0.node event)
    → chosen ≡ record { first = w.view; list = chosen_with w.chosen (next_place (core_step m h0.node event).node) (core_step m h0.node event).node.waiting }
    → told ≡ w.told ++ (told_drop h0.node.id (core_step m h0.node event).dropped ++ flat_map (told_fired h0.node.id) (core_step m h0.node event).fired)
    → record w { view = chosen.first; hosts = slice_set w.hosts i h'; chosen = chosen.list; told = told } ≡ stepped_in (core_course m) i w0 h (core_step m h.node event)
put_step m event w w0 i h h0 h' chosen told same is host_is chosen_is told_is = rw (host_is, chosen_is, told_is, is, same) refl
