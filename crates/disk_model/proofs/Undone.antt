-- What was there at the last sync is not lost by a change.
use Rattle.std.proofs.Common.{◌≡◌, ◌⊎◌, ⊎_elim, ℕ, ◌+◌, ◌-◌, ◌≤◌, ◌<◌, min, List, [], ◌∷◌, ◌++◌, length, get_or, take, drop, refl, ◌∙◌, ap, arith, length-drop}
use Rattle.std.proofs.lemmas.List.{ext_get_or, get_or-take, get_or-drop, length-take-le, length-take, take_all, take-take, drop_all, append-nil, take-append-drop}
use Rattle.disk_model.specs.declared.platter.Undo.{Undo}
use Rattle.disk_model.specs.Cells.{put}
use Rattle.disk_model.specs.Undo.{undone, all_undone}
use Rattle.disk_model.proofs.Puts.{put_outside, put_inside, length-put}

pub all_undone-push : (us : List Undo) (u : Undo) (now : List ℕ) → all_undone (us ++ u ∷ []) now ≡ all_undone us (undone u now)
all_undone-push [] u now = refl
all_undone-push (v ∷ us) u now = ap (λ (bytes : List ℕ). undone v bytes) (all_undone-push us u now)

module _ (at : ℕ) (bytes now : List ℕ) (le : at ≤ length now) where
  before : List ℕ
  before = take (length bytes) (drop at now)

  front : List ℕ
  front = take (length now) (put at bytes now)

  length-before : length before ≡ min (length bytes) (length now - at)
  unfolding before
  length-before = omega (arith, length-take (length bytes) (drop at now), length-drop at now)

  length-front : length front ≡ length now
  unfolding front
  length-front = length-take-le (length now) (put at bytes now) (omega (arith, length-put at bytes now le))

  there : (i : ℕ) → i < length now → at ≤ i → i < at + length before → get_or (put at before front) i 0 ≡ get_or now i 0
  unfolding before
  there i lt from below =
      put_inside at (take (length bytes) (drop at now)) front i (omega (arith, length-front)) from below
      ∙ get_or-take (length bytes) (drop at now) (i - at) 0 (omega (arith, length-before))
      ∙ get_or-drop at now (i - at) 0
      ∙ ap (λ (n : ℕ). get_or now n 0) (omega arith)

  elsewhere : (i : ℕ) → i < length now → (i < at + length before → i < at) → get_or (put at before front) i 0 ≡ get_or now i 0
  unfolding front
  elsewhere i lt out =
      put_outside at before front i (omega (arith, length-front)) out
      ∙ get_or-take (length now) (put at bytes now) i 0 lt
      ∙ put_outside at bytes now i le (λ (low : i < at + length bytes). grind (arith, out, length-before))

  pub write_undone : put at (take (length bytes) (drop at now)) (take (length now) (put at bytes now)) ≡ now
  unfolding before front
  write_undone =
      ext_get_or 0 (put at before front) now long
      (λ i lt. ⊎_elim (λ (h : (at ≤ i) × (i < at + length before)). there i (omega (arith, long)) h.0 h.1) (λ (h : i < at + length before → i < at). elsewhere i (omega (arith, long)) h) (side i))
    where
      long : length (put at before front) ≡ length now
      long = omega (arith, length-put at before front (omega (arith, length-front)), length-before, length-front)

      side : (i : ℕ) → ((at ≤ i) × (i < at + length before)) ⊎ (i < at + length before → i < at)
      side i = decide (length before) i
        where
          decide : (n i : ℕ) → ((at ≤ i) × (i < at + n)) ⊎ (i < at + n → i < at)
          decide n i = grind arith

pub cut_undone : (n : ℕ) (now : List ℕ) → put n (take (length now) (drop n now)) (take n (take n now)) ≡ now
cut_undone n now =
    rw (take-take n n now (omega arith), take-take n n now (omega arith), take_all (length now) (drop n now) (omega (arith, length-drop n now)), drop_all (n + length (drop n now)) (take n now) (omega (arith, length-take n now)), append-nil (drop n now)) (take-append-drop n now)

-- ---- as the code makes them

pub sure_cut : (us vs : List Undo) (to : ℕ) (now part next : List ℕ) → vs ≡ us ++ record { at = to; bytes = part; length = to } ∷ [] → part ≡ take (length now) (drop to now) → next ≡ take to now
    → all_undone vs next ≡ all_undone us now
sure_cut us vs to now part next are is cut =
    rw (are, is, cut) (all_undone-push us (record { at = to; bytes = take (length now) (drop to now); length = to }) (take to now) ∙ ap (λ (bytes : List ℕ). all_undone us bytes) (cut_undone to now))

pub sure_written : (us vs : List Undo) (at : ℕ) (bytes now part next : List ℕ) → at ≤ length now → vs ≡ us ++ record { at = at; bytes = part; length = length now } ∷ [] → part ≡ take (length bytes) (drop at now) → next ≡ put at bytes now
    → all_undone vs next ≡ all_undone us now
sure_written us vs at bytes now part next le are is wrote =
    rw (are, is, wrote) (all_undone-push us (record { at = at; bytes = take (length bytes) (drop at now); length = length now }) (put at bytes now) ∙ ap (λ (bytes : List ℕ). all_undone us bytes) (write_undone at bytes now le))
