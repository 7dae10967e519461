-- Which byte is told as wrong, and that none is exactly where a crash may leave the bytes.
use Rattle.std.proofs.Common.{◌≡◌, ◌≢◌, ◌⊎◌, inl, inr, ⊎_elim, ℕ, zero, suc, ◌+◌, ◌<◌, ◌≤◌, ◌==◌, nat_lt, nat_le, Bool, true, false, not, ◌&&◌, cond, List, length, get_or, Option, Some, None, refl, sym, ap, ◌∙◌, subst, arith}
use Rattle.std.proofs.lemmas.Bool.{ltb-true, lt-ltb, leb-true, le-leb, lt-leb, eqb-false, ne_eqb, cases_eq, and_parts, and_from, and_left, and_right, not-true, not_from_false, cond-true, cond-false, false_from_ne_true}
use Rattle.disk_model.specs.Cells.{Cells, IsImage, IsWrongAt, NoneWrong, IsWrong, covers}
use Rattle.world_rules.specs.Wrong.{is_wrong_at, first_from, or_length, wrong_in}

-- ---- the first of some numbers that passes a test

found_first : (p : ℕ → Bool) (count i at : ℕ) → i ≤ at → at < i + count → p at ≡ true → ((k : ℕ) → i ≤ k → k < at → p k ≡ false) → first_from p count i ≡ Some at
found_first p zero i at low high is none = absurd (omega arith)
found_first p (suc count) i at low high is none =
    ⊎_elim
    (λ (same : i ≡ at). cond-true (p i) (Some i) (first_from p count (i + 1)) (ap p same ∙ is) ∙ ap Some same)
    (λ (other : i ≢ at).
    cond-false (p i) (Some i) (first_from p count (i + 1)) (none i (omega arith) (omega arith)) ∙ found_first p count (i + 1) at (omega arith) (omega arith) is (λ k from upto. none k (omega arith) upto))
    (cases_eq i at)

found_none : (p : ℕ → Bool) (count i : ℕ) → ((k : ℕ) → i ≤ k → k < i + count → p k ≡ false) → first_from p count i ≡ None
found_none p zero i none = refl
found_none p (suc count) i none =
    cond-false (p i) (Some i) (first_from p count (i + 1)) (none i (omega arith) (omega arith)) ∙ found_none p count (i + 1) (λ k low high. none k (omega arith) (omega arith))

none_passes : (p : ℕ → Bool) (count i : ℕ) → first_from p count i ≡ None → (k : ℕ) → i ≤ k → k < i + count → p k ≡ false
none_passes p zero i is k low high = absurd (omega arith)
none_passes p (suc count) i is k low high = by (p i) refl is (λ none other. none_passes p count (i + 1) none k (omega arith) (omega arith))
  where
    by : (t : Bool) → p i ≡ t → cond t (Some i) (first_from p count (i + 1)) ≡ None → (first_from p count (i + 1) ≡ None → k ≢ i → p k ≡ false) → p k ≡ false
    by true here none rest = absurd cc
    by false here none rest = ⊎_elim (λ (same : k ≡ i). ap p same ∙ here) (λ (other : k ≢ i). rest none other) (cases_eq k i)

-- ---- one byte

module _ (s : Cells) (image : List ℕ) where
  wrong_true : (i : ℕ) → IsWrongAt s image i → is_wrong_at s image i ≡ true
  wrong_true i w =
      and_from (nat_lt i s.shortest && not (covers s.touched i)) (not (get_or image i 0 == get_or s.now i 0))
      (and_from (nat_lt i s.shortest) (not (covers s.touched i)) (lt-ltb i s.shortest w.below) (not_from_false (covers s.touched i) w.untouched))
      (not_from_false (get_or image i 0 == get_or s.now i 0) (ne_eqb (get_or image i 0) (get_or s.now i 0) w.differs))

  true_wrong : (i : ℕ) → i < length image → is_wrong_at s image i ≡ true → IsWrongAt s image i
  true_wrong i there is =
      let outer = and_parts (nat_lt i s.shortest && not (covers s.touched i)) (not (get_or image i 0 == get_or s.now i 0)) is in
      let inner = and_parts (nat_lt i s.shortest) (not (covers s.touched i)) outer.0 in
      record {
        there = there;
        below = ltb-true i s.shortest inner.0;
        untouched = not-true (covers s.touched i) inner.1;
        differs = eqb-false (get_or image i 0) (get_or s.now i 0) (not-true (get_or image i 0 == get_or s.now i 0) outer.1);
      }

  wrong_false : (i : ℕ) → i < length image → (IsWrongAt s image i → ⊥) → is_wrong_at s image i ≡ false
  wrong_false i there right = false_from_ne_true (is_wrong_at s image i) (λ is. right (true_wrong i there is))

  -- ---- all of them

  first_byte : (at : ℕ) → NoneWrong s image at → IsWrongAt s image at → first_from (is_wrong_at s image) (length image) 0 ≡ Some at
  first_byte at none here =
      found_first (is_wrong_at s image) (length image) 0 at (omega arith) (omega (arith, here.there)) (wrong_true at here) (λ k low high. wrong_false k (omega (arith, here.there)) (none k high))

  no_byte : NoneWrong s image (length image) → first_from (is_wrong_at s image) (length image) 0 ≡ None
  no_byte none = found_none (is_wrong_at s image) (length image) 0 (λ k low high. wrong_false k (omega arith) (none k (omega arith)))

  told_length : (length image < s.shortest) ⊎ (s.greatest < length image) → or_length s image None ≡ Some (length image)
  told_length (inl short) =
      cond-false (nat_le s.shortest (length image) && nat_le (length image) s.greatest) None (Some (length image))
      (and_left (nat_le s.shortest (length image)) (nat_le (length image) s.greatest) (lt-leb s.shortest (length image) short))
  told_length (inr long) =
      cond-false (nat_le s.shortest (length image) && nat_le (length image) s.greatest) None (Some (length image))
      (and_right (nat_le s.shortest (length image)) (nat_le (length image) s.greatest) (lt-leb (length image) s.greatest long))

  -- a byte is wrong, and none before it
  pub wrong_byte : (at : ℕ) → NoneWrong s image at → IsWrongAt s image at → wrong_in s image ≡ Some at
  unfolding wrong_in
  wrong_byte at none here = ap (or_length s image) (first_byte at none here)

  -- only their length is wrong
  pub wrong_length : NoneWrong s image (length image) → (length image < s.shortest) ⊎ (s.greatest < length image) → wrong_in s image ≡ Some (length image)
  unfolding wrong_in
  wrong_length none by_length = ap (or_length s image) (no_byte none) ∙ told_length by_length

  -- bytes that are no image
  pub wrong-found : (at : ℕ) → IsWrong s image at → wrong_in s image ≡ Some at
  wrong-found at w =
      ⊎_elim
      (λ (here : IsWrongAt s image at). wrong_byte at w.first here)
      (λ (by_length : (at ≡ length image) × ((length image < s.shortest) ⊎ (s.greatest < length image))).
      wrong_length (subst (λ (n : ℕ). NoneWrong s image n) by_length.0 w.first) by_length.1 ∙ ap Some (sym by_length.0))
      w.here

  -- what a crash may leave
  pub wrong-none : IsImage s image → wrong_in s image ≡ None
  unfolding wrong_in
  wrong-none is =
      ap (or_length s image) (no_byte (λ k lt w. w.differs (is.same k w.below w.untouched)))
      ∙ cond-true (nat_le s.shortest (length image) && nat_le (length image) s.greatest) None (Some (length image))
      (and_from (nat_le s.shortest (length image)) (nat_le (length image) s.greatest) (le-leb s.shortest (length image) is.no_shorter) (le-leb (length image) s.greatest is.no_longer))

  pub none-wrong : wrong_in s image ≡ None → IsImage s image
  unfolding wrong_in
  none-wrong told = by (first_from (is_wrong_at s image) (length image) 0) refl told
    where
      as_long : (t : Bool) → (nat_le s.shortest (length image) && nat_le (length image) s.greatest) ≡ t → cond t None (Some (length image)) ≡ None
          → (s.shortest ≤ length image) × (length image ≤ s.greatest)
      as_long true fits none =
          let both = and_parts (nat_le s.shortest (length image)) (nat_le (length image) s.greatest) fits in
          (leb-true s.shortest (length image) both.0, leb-true (length image) s.greatest both.1)
      as_long false fits none = absurd cc

      by : (o : Option ℕ) → first_from (is_wrong_at s image) (length image) 0 ≡ o → or_length s image o ≡ None → IsImage s image
      by (Some at) found none = absurd cc
      by None found none =
          let long = as_long (nat_le s.shortest (length image) && nat_le (length image) s.greatest) refl none in
          record {
            no_shorter = long.0;
            no_longer = long.1;
            same = λ i lt untouched. equal i (omega (arith, long.0)) lt untouched (none_passes (is_wrong_at s image) (length image) 0 found i (omega arith) (omega (arith, long.0)));
          }
        where
          equal : (i : ℕ) → i < length image → i < s.shortest → covers s.touched i ≡ false → is_wrong_at s image i ≡ false → get_or image i 0 ≡ get_or s.now i 0
          equal i there below untouched right =
              ⊎_elim
              (λ (same : get_or image i 0 ≡ get_or s.now i 0). same)
              (λ (differs : get_or image i 0 ≢ get_or s.now i 0). absurd (no (sym (wrong_true i (record { there = there; below = below; untouched = untouched; differs = differs })) ∙ right)))
              (cases_eq (get_or image i 0) (get_or s.now i 0))
            where
              no : true ≡ false → ⊥
              no is = cc
