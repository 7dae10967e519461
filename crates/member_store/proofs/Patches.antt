-- Patches of bytes of which only the first are there.
use Rattle.std.proofs.Common.{◌≡◌, ◌⊎◌, inl, inr, ⊎_elim, ℕ, zero, suc, ◌+◌, ◌-◌, ◌<◌, ◌≤◌, ◌==◌, min, max, List, [], ◌∷◌, ◌++◌, length, replicate, get_or, take, if◌then◌else◌, refl, sym, ap, ◌∙◌, arith, add-one, length-append}
use Rattle.std.proofs.lemmas.List.{get_or-take, get_or-append_right, get_or_append_left, get_or_past, get_or-replicate, length-replicate, length-take, take_all, take_min, ext_get_or}
use Rattle.std.proofs.lemmas.Bool.{cond-true, cond-false, eq-eqb, ne_eqb}
use Rattle.disk_model.specs.Cells.{put}
use Rattle.disk_model.proofs.Puts.{put_inside, put_outside, length-put}
use Rattle.world_rules.specs.declared.crash.Patch.{Patch}
use Rattle.world_rules.specs.Crashes.{patched, with_patches}

-- ---- one patch

abbrev pub zeros : ℕ → List ℕ
zeros n = replicate n 0

length-zeros : (n : ℕ) → length (zeros n) ≡ n
length-zeros n = length-replicate {A = ℕ} n 0

-- bytes at a place, with zeros in a gap
abbrev pub over : ℕ → List ℕ → List ℕ → List ℕ
over at bytes old = put at bytes (old ++ zeros (at - length old))

padded : (n i : ℕ) (old : List ℕ) → get_or (old ++ zeros n) i 0 ≡ get_or old i 0
padded n i old = ⊎_elim inside past side
  where
    inside : i < length old → get_or (old ++ zeros n) i 0 ≡ get_or old i 0
    inside lt = get_or_append_left old (zeros n) 0 i lt

    zero_at : (k : ℕ) → (k < n) ⊎ (n ≤ k) → get_or (zeros n) k 0 ≡ 0
    zero_at k (inl lt) = get_or-replicate {A = ℕ} n k 0 0 lt
    zero_at k (inr le) = get_or_past (zeros n) k 0 (omega (arith, length-zeros n))

    split : (k : ℕ) → (k < n) ⊎ (n ≤ k)
    split k = grind arith

    past : length old ≤ i → get_or (old ++ zeros n) i 0 ≡ get_or old i 0
    past le = get_or-append_right old (zeros n) (length old) i 0 refl le ∙ zero_at (i - length old) (split (i - length old)) ∙ sym (get_or_past old i 0 le)

    side : (i < length old) ⊎ (length old ≤ i)
    side = grind arith

long_enough : (at n : ℕ) (old : List ℕ) → at - length old ≤ n → at ≤ length (old ++ zeros n)
long_enough at n old le = omega (arith, length-append old (zeros n), length-zeros n)

pub length-over : (at : ℕ) (bytes old : List ℕ) → length (over at bytes old) ≡ max (length old) (at + length bytes)
length-over at bytes old =
    let filled = old ++ zeros (at - length old) in
    omega (arith, length-put at bytes filled (long_enough at (at - length old) old (omega arith)), length-append old (zeros (at - length old)), length-zeros (at - length old))

over_inside : (at : ℕ) (bytes old : List ℕ) (i : ℕ) → at ≤ i → i < at + length bytes → get_or (over at bytes old) i 0 ≡ get_or bytes (i - at) 0
over_inside at bytes old i from below = put_inside at bytes (old ++ zeros (at - length old)) i (long_enough at (at - length old) old (omega arith)) from below

over_outside : (at : ℕ) (bytes old : List ℕ) (i : ℕ) → (i < at + length bytes → i < at) → get_or (over at bytes old) i 0 ≡ get_or old i 0
over_outside at bytes old i out =
    put_outside at bytes (old ++ zeros (at - length old)) i (long_enough at (at - length old) old (omega arith)) out ∙ padded (at - length old) i old

-- what a place has after a patch
over_at : (at : ℕ) (bytes old : List ℕ) (i : ℕ) → ((at ≤ i) × (i < at + length bytes) × (get_or (over at bytes old) i 0 ≡ get_or bytes (i - at) 0)) ⊎ ((i < at + length bytes → i < at) × (get_or (over at bytes old) i 0 ≡ get_or old i 0))
over_at at bytes old i = ⊎_elim
    (λ (is : (at ≤ i) × (i < at + length bytes)). inl (is.0, is.1, over_inside at bytes old i is.0 is.1))
    (λ (out : i < at + length bytes → i < at). inr (out, over_outside at bytes old i out))
    side
  where
    side : ((at ≤ i) × (i < at + length bytes)) ⊎ (i < at + length bytes → i < at)
    side = ⊎_elim (λ (low : i < at). inr (λ any. low)) (λ (le : at ≤ i). ⊎_elim (λ (lt : i < at + length bytes). inl (le, lt)) (λ (ge : at + length bytes ≤ i). inr (λ lt. omega arith)) (split i (at + length bytes))) (split i at)
      where
        split : (k n : ℕ) → (k < n) ⊎ (n ≤ k)
        split k n = grind arith

-- the first bytes with a patch are those with the part of it that is below
over-take : (g at : ℕ) (bytes old : List ℕ) → take g (over at bytes old) ≡ over (min at g) (take (g - min at g) bytes) (take g old)
over-take g at bytes old = ext_get_or 0 (take g (over at bytes old)) (over (min at g) (take (g - min at g) bytes) (take g old)) long each
  where
    long : length (take g (over at bytes old)) ≡ length (over (min at g) (take (g - min at g) bytes) (take g old))
    long = omega (arith, length-take g (over at bytes old), length-over at bytes old, length-over (min at g) (take (g - min at g) bytes) (take g old), length-take (g - min at g) bytes, length-take g old)

    each : (i : ℕ) → i < length (take g (over at bytes old)) → get_or (take g (over at bytes old)) i 0 ≡ get_or (over (min at g) (take (g - min at g) bytes) (take g old)) i 0
    each i lt = get_or-take g (over at bytes old) i 0 (omega (arith, lt, length-take g (over at bytes old))) ∙ same (omega (arith, lt, length-take g (over at bytes old)))
      where
        same : i < g → get_or (over at bytes old) i 0 ≡ get_or (over (min at g) (take (g - min at g) bytes) (take g old)) i 0
        same below = by (over_at at bytes old i) (over_at (min at g) (take (g - min at g) bytes) (take g old) i)
          where
            part : length (take (g - min at g) bytes) ≡ min (g - min at g) (length bytes)
            part = length-take (g - min at g) bytes

            by : ((at ≤ i) × (i < at + length bytes) × (get_or (over at bytes old) i 0 ≡ get_or bytes (i - at) 0)) ⊎ ((i < at + length bytes → i < at) × (get_or (over at bytes old) i 0 ≡ get_or old i 0))
                → ((min at g ≤ i) × (i < min at g + length (take (g - min at g) bytes)) × (get_or (over (min at g) (take (g - min at g) bytes) (take g old)) i 0 ≡ get_or (take (g - min at g) bytes) (i - min at g) 0))
                ⊎ ((i < min at g + length (take (g - min at g) bytes) → i < min at g) × (get_or (over (min at g) (take (g - min at g) bytes) (take g old)) i 0 ≡ get_or (take g old) i 0))
                → get_or (over at bytes old) i 0 ≡ get_or (over (min at g) (take (g - min at g) bytes) (take g old)) i 0
            by (inl a) (inl b) =
                let at_is : min at g ≡ at = omega (arith, a.0, below) in
                a.2 ∙ ap (λ (n : ℕ). get_or bytes (i - n) 0) (sym at_is) ∙ sym (b.2 ∙ get_or-take (g - min at g) bytes (i - min at g) 0 (omega (arith, a.0, below)))
            by (inl a) (inr b) = let out : i < min at g = b.0 (omega (arith, a.0, a.1, below, part)) in absurd (omega (arith, a.0, out))
            by (inr a) (inl b) = let out : i < at = a.0 (omega (arith, b.0, b.1, below, part)) in absurd (omega (arith, b.0, out, below))
            by (inr a) (inr b) = a.1 ∙ sym (b.1 ∙ get_or-take g old i 0 below)

-- ---- writing it

-- past the end there is place for all of a patch
pub put_filled : (at n : ℕ) (bytes old : List ℕ) → n ≡ max (length old) (at + length bytes) → put at bytes (take n old ++ zeros (n - length old)) ≡ over at bytes old
put_filled at n bytes old is = rw (take_all n old (omega arith)) (ext_get_or 0 (put at bytes (old ++ zeros (n - length old))) (over at bytes old) long each)
  where
    enough : at ≤ length (old ++ zeros (n - length old))
    enough = long_enough at (n - length old) old (omega arith)

    long : length (put at bytes (old ++ zeros (n - length old))) ≡ length (over at bytes old)
    long = omega (arith, is, length-put at bytes (old ++ zeros (n - length old)) enough, length-append old (zeros (n - length old)), length-zeros (n - length old), length-over at bytes old)

    each : (i : ℕ) → i < length (put at bytes (old ++ zeros (n - length old))) → get_or (put at bytes (old ++ zeros (n - length old))) i 0 ≡ get_or (over at bytes old) i 0
    each i lt = by (over_at at bytes old i)
      where
        by : ((at ≤ i) × (i < at + length bytes) × (get_or (over at bytes old) i 0 ≡ get_or bytes (i - at) 0)) ⊎ ((i < at + length bytes → i < at) × (get_or (over at bytes old) i 0 ≡ get_or old i 0))
            → get_or (put at bytes (old ++ zeros (n - length old))) i 0 ≡ get_or (over at bytes old) i 0
        by (inl a) = put_inside at bytes (old ++ zeros (n - length old)) i enough a.0 a.1 ∙ sym a.2
        by (inr a) = put_outside at bytes (old ++ zeros (n - length old)) i enough a.0 ∙ padded (n - length old) i old ∙ sym a.1

-- ---- more patches

pub with-more : (device : ℕ) (ps : List Patch) (i : ℕ) (p : Patch) (bytes : List ℕ) → i < length ps
    → with_patches device (take (suc i) ps) bytes ≡ (if (get_or ps i p).device == device then patched (get_or ps i p) (with_patches device (take i ps) bytes) else with_patches device (take i ps) bytes)
with-more device [] i p bytes lt = absurd (omega arith)
with-more device (q ∷ ps) zero p bytes lt = refl
with-more device (q ∷ ps) (suc i) p bytes lt = with-more device ps i p (if q.device == device then patched q bytes else bytes) (omega arith)

-- a patch that is there
pub with-patch : (device : ℕ) (ps : List Patch) (i : ℕ) (p : Patch) (bytes : List ℕ) → i < length ps → p ≡ get_or ps i p → p.device ≡ device
    → with_patches device (take (i + 1) ps) bytes ≡ patched p (with_patches device (take i ps) bytes)
with-patch device ps i p bytes lt is on =
    rw add-one (with-more device ps i p bytes lt ∙ (rw (← is) (cond-true (p.device == device) _ _ (eq-eqb p.device device on))))

-- one of another device
pub with-other : (device : ℕ) (ps : List Patch) (i : ℕ) (p : Patch) (bytes : List ℕ) → i < length ps → p ≡ get_or ps i p → (p.device ≡ device → ⊥)
    → with_patches device (take (i + 1) ps) bytes ≡ with_patches device (take i ps) bytes
with-other device ps i p bytes lt is other = rw add-one (with-more device ps i p bytes lt ∙ (rw (← is) (cond-false (p.device == device) _ _ (ne_eqb p.device device other))))

-- ---- what is there of all

-- the part of a patch that is below the greatest length, put over the bytes that are
pub put-part : (g at place count : ℕ) (bytes old whole front got : List ℕ) → old ≡ take g whole → place ≡ min at g → count ≡ min (g - place) (length bytes) → front ≡ take count bytes
    → got ≡ put place front (old ++ replicate (place - length old) 0) → got ≡ take g (put at bytes (whole ++ replicate (at - length whole) 0))
put-part g at place count bytes old whole front got old_is place_is count_is front_is got_is =
    got_is ∙ (rw (front_is, count_is, take_min (g - place) bytes, place_is, old_is) (sym (over-take g at bytes whole)))
