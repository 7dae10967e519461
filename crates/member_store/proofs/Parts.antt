-- What the first bytes of an image tell of all.
use Rattle.std.proofs.Common.{◌≡◌, ◌⊎◌, inl, inr, ⊎_elim, ℕ, ◌<◌, ◌≤◌, List, length, take, Some, None, sym, ◌∙◌, subst, arith}
use Rattle.std.proofs.lemmas.List.{get_or-take, length-take, take_all}
use Rattle.disk_model.specs.Cells.{Cells, IsImage, IsWrongAt, IsWrong}
use Rattle.world_rules.specs.Wrong.{wrong_in}
use Rattle.member_store.proofs.Wrong.{wrong-found, wrong-none, wrong_length}

module _ (s : Cells) (whole : List ℕ) (sound : s.shortest ≤ s.greatest) where
  in_part : s.greatest < length whole → (k : ℕ) → IsWrongAt s whole k → IsWrongAt s (take s.greatest whole) k
  in_part long k w = record {
    there = omega (arith, w.below, length-take s.greatest whole);
    below = w.below;
    untouched = w.untouched;
    differs = λ same. w.differs (sym (get_or-take s.greatest whole k 0 (omega (arith, w.below))) ∙ same);
  }

  in_whole : s.greatest < length whole → (k : ℕ) → IsWrongAt s (take s.greatest whole) k → IsWrongAt s whole k
  in_whole long k w = record {
    there = omega (arith, w.below);
    below = w.below;
    untouched = w.untouched;
    differs = λ same. w.differs (get_or-take s.greatest whole k 0 (omega (arith, w.below)) ∙ same);
  }

  -- a byte of them that is wrong, or that they are too short
  pub part-wrong : (at : ℕ) → IsWrong s (take s.greatest whole) at → wrong_in s whole ≡ Some at
  part-wrong at w = ⊎_elim all longer (split (length whole) s.greatest)
    where
      split : (n g : ℕ) → (n ≤ g) ⊎ (g < n)
      split n g = grind arith

      all : length whole ≤ s.greatest → wrong_in s whole ≡ Some at
      all le = wrong-found s whole at (subst (λ (c : List ℕ). IsWrong s c at) (take_all s.greatest whole le) w)

      longer : s.greatest < length whole → wrong_in s whole ≡ Some at
      longer long = wrong-found s whole at (record { first = λ k lt is. w.first k lt (in_part long k is); here = ⊎_elim (λ (is : IsWrongAt s (take s.greatest whole) at). inl (in_whole long at is)) by_length w.here })
        where
          by_length : (at ≡ length (take s.greatest whole)) × ((length (take s.greatest whole) < s.shortest) ⊎ (s.greatest < length (take s.greatest whole)))
              → IsWrongAt s whole at ⊎ ((at ≡ length whole) × ((length whole < s.shortest) ⊎ (s.greatest < length whole)))
          by_length is = absurd (⊎_elim (λ (short : length (take s.greatest whole) < s.shortest). omega (arith, short, sound, length-take s.greatest whole)) (λ (more : s.greatest < length (take s.greatest whole)). omega (arith, more, length-take s.greatest whole)) is.1)

  -- they are right, and there are more than any device has
  pub part-long : IsImage s (take s.greatest whole) → s.greatest < length whole → wrong_in s whole ≡ Some (length whole)
  part-long is long = wrong_length s whole (λ k lt w. let there = in_part long k w in there.differs (is.same k w.below w.untouched)) (inr long)

  -- they are right, and they are all
  pub part-right : IsImage s (take s.greatest whole) → length whole ≤ s.greatest → (wrong_in s whole ≡ None) × (take s.greatest whole ≡ whole)
  part-right is le = (wrong-none s whole (subst (λ (c : List ℕ). IsImage s c) (take_all s.greatest whole le) is), take_all s.greatest whole le)
