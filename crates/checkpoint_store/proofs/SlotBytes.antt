-- What a crash leaves in a slot while it is closed, filled and opened.
use Rattle.std.proofs.Common.{◌≡◌, ◌≢◌, inl, inr, ⊎_elim, ℕ, ◌+◌, ◌<◌, Bool, true, false, cond, nat_lt, eqb, List, [], ◌∷◌, ◌++◌, length, get_or, take, drop, Some, None, refl, sym, ◌∙◌, ap, arith, take-append-drop}
use Rattle.std.proofs.lemmas.Bool.{cases_eq, eqb-true}
use Rattle.std.proofs.lemmas.Bool.Decides.{nat_tests}
use Rattle.smart_base.specs.Cuts.{Cut, number_at}
use Rattle.disk_model.specs.Cells.{IsImage, settled, written}
use Rattle.disk_model.proofs.Images.{image_front, image_byte}
use Rattle.store_form.specs.Spelling.{checkpoint_text}
use Rattle.store_form.specs.Reading.{all_of, checkpoint_at}
use Rattle.store_form.specs.Laws.{checkpoint_law}
use Rattle.store_form.specs.declared.checkpoint.Checkpoint.{Checkpoint}
use Rattle.checkpoint_store.specs.Slots.{same, counted, slot_of, by_gate, instead_of}
use Rattle.checkpoint_store.specs.SlotJobs.{IsFor, Leaves}

same_refl : (b : Bool) → same b b ≡ true
same_refl true = refl
same_refl false = refl

pub slot_again : (odd : Bool) (p : Checkpoint) (rest : List ℕ) → IsFor odd p → slot_of odd (1 ∷ (checkpoint_text p ++ rest)) ≡ Some p
slot_again odd p rest for =
    let d : Cut = record { at = 0 + length (checkpoint_text p); left = rest } in
    let positive : nat_lt 0 p.generation ≡ true = above p.generation for.fits.some in
    ap (counted odd) (checkpoint_law.again (all_of (checkpoint_text p ++ rest)) p d for.fits.spelled (record { left = refl; at = refl }))
    ∙ rw (positive, for.uses, same_refl odd) refl
  where
    above : (n : ℕ) → 0 < n → nat_lt 0 n ≡ true
    above n lt = grind (arith, nat_tests)

pub shut : (odd : Bool) (gate : ℕ) (rest : List ℕ) → gate ≢ 1 → slot_of odd (gate ∷ rest) ≡ None
shut odd gate rest differs = by (eqb gate 1) refl
  where
    by : (t : Bool) → eqb gate 1 ≡ t → cond t (counted odd (checkpoint_at (all_of rest))) None ≡ None
    by true is = absurd (differs (eqb-true gate 1 is))
    by false is = refl

-- a gate that is not closed
pub torn : (odd : Bool) (gate : ℕ) (rest : List ℕ) → gate ≢ 0 → instead_of odd (gate ∷ rest) ≡ slot_of odd (1 ∷ rest)
torn odd gate rest differs = by (eqb gate 0) refl
  where
    by : (t : Bool) → eqb gate 0 ≡ t → cond t None (slot_of odd (1 ∷ rest)) ≡ slot_of odd (1 ∷ rest)
    by true is = absurd (differs (eqb-true gate 0 is))
    by false is = refl

pub alone : (odd : Bool) → slot_of odd (1 ∷ []) ≡ None
unfolding checkpoint_at number_at
alone odd = refl

-- whatever a crash makes of a gate
pub any_gate : (odd : Bool) (gate : ℕ) (rest : List ℕ) → Leaves odd None (slot_of odd (1 ∷ rest)) (gate ∷ rest)
any_gate odd gate rest =
    ⊎_elim (λ (zero_is : gate ≡ 0). rw (zero_is) (inl (shut odd 0 rest (omega arith), refl)))
    (λ (not_zero : gate ≢ 0).
    ⊎_elim (λ (one : gate ≡ 1). inr (inr (ap (λ (b : ℕ). slot_of odd (b ∷ rest)) one, torn odd gate rest not_zero)))
    (λ (other : gate ≢ 1). inr (inl (shut odd gate rest other, torn odd gate rest not_zero)))
    (cases_eq gate 1))
    (cases_eq gate 0)

-- ---- what each call may leave

-- nothing is pending
pub as_it_is : (odd : Bool) (bytes : List ℕ) → Leaves odd None (by_gate odd bytes) bytes
as_it_is odd [] = inl (refl, refl)
as_it_is odd (gate ∷ rest) = any_gate odd gate rest

-- a byte over the gate
pub over_gate : (odd : Bool) (y : ℕ) (bytes c : List ℕ) → IsImage (written 0 (y ∷ []) (settled bytes)) c → Leaves odd None (by_gate odd bytes) c
over_gate odd y (x ∷ rest) c is =
    let parts : c ≡ get_or c 0 0 ∷ rest = image_byte 0 y (x ∷ rest) c (omega arith) is in
    rw (parts) (any_gate odd (get_or c 0 0) rest)
over_gate odd y [] [] is = inl (refl, refl)
over_gate odd y [] (b ∷ []) is = any_gate odd b []
over_gate odd y [] (b ∷ d ∷ c) is = absurd (omega (arith, is.no_longer))

-- a closed gate
pub closed : (odd : Bool) (rest : List ℕ) → Leaves odd None None (0 ∷ rest)
closed odd rest = inl (shut odd 0 rest (omega arith), refl)

-- filling behind it
pub filled : (odd : Bool) (bytes rest c : List ℕ) → IsImage (written 1 bytes (settled (0 ∷ rest))) c → Leaves odd None None c
filled odd bytes rest c is =
    let front : take 1 c ≡ 0 ∷ [] = image_front 1 bytes (0 ∷ rest) c (omega arith) is in
    let parts : c ≡ 0 ∷ drop 1 c = sym (take-append-drop 1 c) ∙ ap (λ (l : List ℕ). l ++ drop 1 c) front in
    rw (parts) (closed odd (drop 1 c))
