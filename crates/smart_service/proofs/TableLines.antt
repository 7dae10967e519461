-- Lines of the table that ascend by client.
use Rattle.std.proofs.Common.{◌≡◌, ℕ, zero, suc, ◌<◌, ◌≤◌, ◌==◌, Bool, true, false, ltb, get_or, slice_set, List, [], ◌∷◌, length, if◌then◌else◌, Option, Some, None, refl, sym, ap, subst, ◌∙◌, arith}
use Rattle.std.specs.List.{insert}
use Rattle.std.specs.List.Sorted.{IsPartitionedBy, IsPartitionPoint}
use Rattle.std.proofs.lemmas.Bool.Decides.{nat_tests}
use Rattle.std.proofs.lemmas.List.{get_or_default}
use Rattle.std.proofs.lemmas.List.Sorted.{IsNonDecreasingBy-from_all_adjacent, IsPartitionedBy-ltb}
use Rattle.std.proofs.lemmas.Bool.{eqb-true, eq-eqb, ltb-true, false_from_ne_true}
use Rattle.smart_service.specs.Tables.{last_seq, kept_reply, line_for, with_line, Above, Ascends, lines_before, Found, Missing}
use Rattle.smart_service.specs.declared.table.TableLine.{TableLine}

-- ---- the place that a binary search finds

above : (client : ℕ) (lines : List TableLine) → Above client lines → Ascends lines
above client [] h = tt
above client (line ∷ lines) h = h.1

adjacent : (lines : List TableLine) → Ascends lines → (k : ℕ) (d : TableLine) → suc k < length lines
    → (get_or lines k d).last.client ≤ (get_or lines (suc k) d).last.client
adjacent [] h k d within = absurd (omega (arith, within))
adjacent (line ∷ []) h k d within = absurd (omega (arith, within))
adjacent (line ∷ next ∷ lines) h zero d within = omega (arith, h.0)
adjacent (line ∷ next ∷ lines) h (suc k) d within = adjacent (next ∷ lines) h.1 k d (omega (arith, within))

-- the clients before one stand before those that are not before it
pub parted : (lines : List TableLine) (client : ℕ) → Ascends lines → IsPartitionedBy (λ line. ltb line.last.client client) lines
parted lines client h =
    IsPartitionedBy-ltb (λ line. line.last.client) lines client (IsNonDecreasingBy-from_all_adjacent (λ line. line.last.client) lines
    (λ k d within. subst (λ (next : ℕ). (get_or lines k d).last.client ≤ (get_or lines next d).last.client) {x = suc k} (omega arith) (adjacent lines h k d (omega (arith, within)))))

-- a place with the clients before one on its left and all others on its right is the one sought
pub place_is : (lines : List TableLine) (client i : ℕ) → i ≤ length lines
    → IsPartitionPoint (λ line. ltb line.last.client client ≡ true) (λ line. ltb line.last.client client ≡ false) lines i → i ≡ lines_before lines client
place_is [] client i within h = omega (arith, within)
place_is (line ∷ lines) client zero within h = rw (h.1 0 line (omega arith) (omega arith)) refl
place_is (line ∷ lines) client (suc i) within h =
    rw (h.0 0 line (omega arith) (omega arith))
    (ap suc (place_is lines client i (omega (arith, within)) (λ k d low high. h.0 (suc k) d (omega arith) (omega (arith, high)), λ k d low high. h.1 (suc k) d (omega (arith, low)) (omega (arith, high)))))

-- ---- the line at the place

differs : (m n : ℕ) → ltb m n ≡ true → (m == n) ≡ false
differs m n lt = grind (arith, nat_tests)

behind : (m n : ℕ) → ltb m n ≡ true → ltb n m ≡ false
behind m n lt = grind (arith, nat_tests)

ahead : (m n : ℕ) → ltb m n ≡ false → (m == n) ≡ false → ltb n m ≡ true
ahead m n ge other = grind (arith, nat_tests)

no_line : (client least : ℕ) (lines : List TableLine) → client ≤ least → Above least lines → line_for lines client ≡ None
no_line client least [] le h = refl
no_line client least (line ∷ lines) le h =
    rw (differs_below client line.last.client (omega (arith, le, h.0))) (no_line client line.last.client lines (omega (arith, le, h.0)) h.1)
  where
    differs_below : (m n : ℕ) → m < n → (n == m) ≡ false
    differs_below m n lt = grind (arith, nat_tests, lt)

there-step : (line : TableLine) (lines : List TableLine) (client k : ℕ) (d : TableLine) (before : Bool) → ltb line.last.client client ≡ before
    → (k < length lines → ((get_or lines k d).last.client == client) ≡ true → line_for lines client ≡ Some (get_or lines k d))
    → (if before then suc k else 0) < length (line ∷ lines)
    → ((get_or (line ∷ lines) (if before then suc k else 0) d).last.client == client) ≡ true
    → line_for (line ∷ lines) client ≡ Some (get_or (line ∷ lines) (if before then suc k else 0) d)
there-step line lines client k d true lt more within same = rw (differs line.last.client client lt) (more (omega (arith, within)) same)
there-step line lines client k d false lt more within same = rw same refl

there : (lines : List TableLine) (client : ℕ) (d : TableLine) → lines_before lines client < length lines
    → ((get_or lines (lines_before lines client) d).last.client == client) ≡ true
    → line_for lines client ≡ Some (get_or lines (lines_before lines client) d)
there [] client d within same = absurd (omega (arith, within))
there (line ∷ lines) client d within same =
    there-step line lines client (lines_before lines client) d (ltb line.last.client client) refl (there lines client d) within same

past-step : (line : TableLine) (lines : List TableLine) (client k : ℕ) (before : Bool) → ltb line.last.client client ≡ before
    → (k ≡ length lines → line_for lines client ≡ None) → (if before then suc k else 0) ≡ length (line ∷ lines) → line_for (line ∷ lines) client ≡ None
past-step line lines client k true lt more end = rw (differs line.last.client client lt) (more (omega (arith, end)))
past-step line lines client k false lt more end = absurd (omega (arith, end))

-- where all clients stand before one, it has no line
past : (lines : List TableLine) (client : ℕ) → lines_before lines client ≡ length lines → line_for lines client ≡ None
past [] client end = refl
past (line ∷ lines) client end =
    past-step line lines client (lines_before lines client) (ltb line.last.client client) refl (past lines client) end

other-step : (line : TableLine) (lines : List TableLine) (client k : ℕ) (d : TableLine) (before : Bool) → Ascends (line ∷ lines) → ltb line.last.client client ≡ before
    → (((get_or lines k d).last.client == client) ≡ false → k < length lines → line_for lines client ≡ None)
    → ((get_or (line ∷ lines) (if before then suc k else 0) d).last.client == client) ≡ false
    → (if before then suc k else 0) < length (line ∷ lines) → line_for (line ∷ lines) client ≡ None
other-step line lines client k d true h lt more other within = rw (differs line.last.client client lt) (more other (omega (arith, within)))
other-step line lines client k d false h ge more other within =
    rw other (no_line client line.last.client lines (at_most line.last.client client ge) h)
  where
    at_most : (m n : ℕ) → ltb m n ≡ false → n ≤ m
    at_most m n ge = grind (arith, nat_tests)

-- where the line at the place is another's, a client has none
not_there : (lines : List TableLine) (client : ℕ) (d : TableLine) → Ascends lines
    → ((get_or lines (lines_before lines client) d).last.client == client) ≡ false → lines_before lines client < length lines → line_for lines client ≡ None
not_there [] client d h other within = refl
not_there (line ∷ lines) client d h other within =
    other-step line lines client (lines_before lines client) d (ltb line.last.client client) h refl (not_there lines client d (above line.last.client lines h)) other within

-- ---- what the search finds

module _ (lines : List TableLine) (client at : ℕ) (place : at ≡ lines_before lines client) where
  pub found : (d : TableLine) → at < length lines → ((get_or lines at d).last.client == client) ≡ true → Found lines client at
  found d within same = record {
    place = place;
    within = within;
    same = λ e. subst (λ (line : TableLine). (line.last.client == client) ≡ true) (get_or_default lines at d e within) same;
  }

  pub missing_past : at ≡ length lines → Missing lines client at
  missing_past end = record { place = place; within = omega (arith, end); none = past lines client (sym place ∙ end) }

  pub missing_other : (d : TableLine) → Ascends lines → at < length lines → ((get_or lines at d).last.client == client) ≡ false → Missing lines client at
  missing_other d h within other = record {
    place = place;
    within = omega (arith, within);
    none = not_there lines client d h (subst (λ (k : ℕ). ((get_or lines k d).last.client == client) ≡ false) place other) (subst (λ (k : ℕ). k < length lines) place within);
  }

-- the line that was found
pub line_found : (lines : List TableLine) (client at : ℕ) (d : TableLine) → Found lines client at → line_for lines client ≡ Some (get_or lines at d)
line_found lines client at d f =
    subst (λ (k : ℕ). line_for lines client ≡ Some (get_or lines k d)) (sym f.place)
    (there lines client d (subst (λ (k : ℕ). k < length lines) f.place f.within) (subst (λ (k : ℕ). ((get_or lines k d).last.client == client) ≡ true) f.place (f.same d)))

-- the number in a line, 0 if there is none
abbrev pub seq_of : Option TableLine → ℕ
seq_of None = 0
seq_of (Some line) = line.last.seq

seq-step : (line : TableLine) (lines : List TableLine) (client : ℕ) (same : Bool) → last_seq lines client ≡ seq_of (line_for lines client)
    → (if same then line.last.seq else last_seq lines client) ≡ seq_of (if same then Some line else line_for lines client)
seq-step line lines client true e = refl
seq-step line lines client false e = e

-- the last number stands in the client's line
pub seq_in_line : (lines : List TableLine) (client : ℕ) → last_seq lines client ≡ seq_of (line_for lines client)
seq_in_line [] client = refl
seq_in_line (line ∷ lines) client = seq-step line lines client (line.last.client == client) (seq_in_line lines client)

-- ---- the reply that is kept

-- the reply of the number in a client's line
pub kept_here : (lines : List TableLine) (client seq : ℕ) (line : TableLine) → line_for lines client ≡ Some line → line.last.seq ≡ seq → kept_reply lines client seq ≡ Some line.last
kept_here lines client seq line found same = rw (seq_in_line lines client, found, eq-eqb seq line.last.seq (sym same)) refl

-- and none of another
pub kept_not : (lines : List TableLine) (client seq : ℕ) (line : TableLine) → line_for lines client ≡ Some line → (line.last.seq ≡ seq → ⊥) → kept_reply lines client seq ≡ None
kept_not lines client seq line found other =
    rw (seq_in_line lines client, found, false_from_ne_true (seq == line.last.seq) (λ same. other (sym (eqb-true seq line.last.seq same)))) refl

-- ---- a line put into the table

put-step : (old : TableLine) (olds : List TableLine) (line : TableLine) (k : ℕ) (d : TableLine) (before : Bool) → ltb old.last.client line.last.client ≡ before
    → (k < length olds → ((get_or olds k d).last.client == line.last.client) ≡ true → slice_set olds k line ≡ with_line olds line)
    → (if before then suc k else 0) < length (old ∷ olds)
    → ((get_or (old ∷ olds) (if before then suc k else 0) d).last.client == line.last.client) ≡ true
    → slice_set (old ∷ olds) (if before then suc k else 0) line ≡ with_line (old ∷ olds) line
put-step old olds line k d true lt more within same =
    rw (differs old.last.client line.last.client lt, behind old.last.client line.last.client lt) (ap (λ (lines : List TableLine). old ∷ lines) (more (omega (arith, within)) same))
put-step old olds line k d false ge more within same = rw same refl

put : (lines : List TableLine) (line d : TableLine) → lines_before lines line.last.client < length lines
    → ((get_or lines (lines_before lines line.last.client) d).last.client == line.last.client) ≡ true
    → slice_set lines (lines_before lines line.last.client) line ≡ with_line lines line
put [] line d within same = absurd (omega (arith, within))
put (old ∷ olds) line d within same =
    put-step old olds line (lines_before olds line.last.client) d (ltb old.last.client line.last.client) refl (put olds line d) within same

-- a client's new line comes in place of the one that was found
pub put_found : (lines : List TableLine) (line : TableLine) (at : ℕ) → Found lines line.last.client at → slice_set lines at line ≡ with_line lines line
put_found lines line at f =
    rw f.place
    (put lines line line (subst (λ (k : ℕ). k < length lines) f.place f.within) (subst (λ (k : ℕ). ((get_or lines k line).last.client == line.last.client) ≡ true) f.place (f.same line)))

new-step : (old : TableLine) (olds : List TableLine) (line : TableLine) (k : ℕ) (before same : Bool) → ltb old.last.client line.last.client ≡ before
    → (old.last.client == line.last.client) ≡ same → (line_for olds line.last.client ≡ None → insert olds k line ≡ with_line olds line)
    → (if same then Some old else line_for olds line.last.client) ≡ None
    → insert (old ∷ olds) (if before then suc k else 0) line ≡ with_line (old ∷ olds) line
new-step old olds line k before true lt e more none = absurd cc
new-step old olds line k true false lt e more none =
    rw (e, behind old.last.client line.last.client lt) (ap (λ (lines : List TableLine). old ∷ lines) (more none))
new-step old olds line k false false ge e more none = rw (e, ahead old.last.client line.last.client ge e) refl

new : (lines : List TableLine) (line : TableLine) → line_for lines line.last.client ≡ None → insert lines (lines_before lines line.last.client) line ≡ with_line lines line
new [] line none = refl
new (old ∷ olds) line none =
    new-step old olds line (lines_before olds line.last.client) (ltb old.last.client line.last.client) (old.last.client == line.last.client) refl refl (new olds line) none

-- a client's first line comes where it belongs
pub put_missing : (lines : List TableLine) (line : TableLine) (at : ℕ) → Missing lines line.last.client at → insert lines at line ≡ with_line lines line
put_missing lines line at m = rw m.place (new lines line m.none)

between : (m n : ℕ) → (m == n) ≡ false → ltb n m ≡ false → m < n
between m n e ge = grind (arith, nat_tests)

above-step : (least : ℕ) (old : TableLine) (olds : List TableLine) (line : TableLine) (same before : Bool) → (old.last.client == line.last.client) ≡ same
    → ltb line.last.client old.last.client ≡ before → least < line.last.client → Above least (old ∷ olds)
    → (old.last.client < line.last.client → Above old.last.client (with_line olds line))
    → Above least (if same then line ∷ olds else if before then line ∷ old ∷ olds else old ∷ with_line olds line)
above-step least old olds line true before e lt low h more = (low, subst (λ (k : ℕ). Above k olds) (eqb-true old.last.client line.last.client e) h.1)
above-step least old olds line false true e lt low h more = (low, (ltb-true line.last.client old.last.client lt, h.1))
above-step least old olds line false false e ge low h more = (h.0, more (between old.last.client line.last.client e ge))

above_with : (least : ℕ) (lines : List TableLine) (line : TableLine) → least < line.last.client → Above least lines → Above least (with_line lines line)
above_with least [] line low h = (low, tt)
above_with least (old ∷ olds) line low h =
    above-step least old olds line (old.last.client == line.last.client) (ltb line.last.client old.last.client) refl refl low h (λ later. above_with old.last.client olds line later h.1)

ascends-step : (old : TableLine) (olds : List TableLine) (line : TableLine) (same before : Bool) → (old.last.client == line.last.client) ≡ same
    → ltb line.last.client old.last.client ≡ before → Ascends (old ∷ olds) → (old.last.client < line.last.client → Above old.last.client (with_line olds line))
    → Ascends (if same then line ∷ olds else if before then line ∷ old ∷ olds else old ∷ with_line olds line)
ascends-step old olds line true before e lt h more = subst (λ (k : ℕ). Above k olds) (eqb-true old.last.client line.last.client e) h
ascends-step old olds line false true e lt h more = (ltb-true line.last.client old.last.client lt, h)
ascends-step old olds line false false e ge h more = more (between old.last.client line.last.client e ge)

-- the table ascends with a line too
pub ascends_with : (lines : List TableLine) (line : TableLine) → Ascends lines → Ascends (with_line lines line)
ascends_with [] line h = tt
ascends_with (old ∷ olds) line h =
    ascends-step old olds line (old.last.client == line.last.client) (ltb line.last.client old.last.client) refl refl h (λ later. above_with old.last.client olds line later h)
