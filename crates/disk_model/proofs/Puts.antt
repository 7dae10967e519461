-- Bytes put over others.
use Rattle.std.proofs.Common.{◌≡◌, ◌⊎◌, ⊎_elim, ℕ, ◌+◌, ◌-◌, ◌≤◌, ◌<◌, max, List, ◌++◌, length, get_or, take, drop, refl, ◌∙◌, ap, arith, length-append, length-drop}
use Rattle.std.proofs.lemmas.List.{get_or-take, get_or-drop, get_or-append_right, get_or_append_left, length-take-le, take_all, drop_all, append-nil}
use Rattle.disk_model.specs.Cells.{put}

pub put_outside : (at : ℕ) (bytes old : List ℕ) (i : ℕ) → at ≤ length old → (i < at + length bytes → i < at) → get_or (put at bytes old) i 0 ≡ get_or old i 0
put_outside at bytes old i le out = ⊎_elim before behind side
  where
    before : i < at → get_or (put at bytes old) i 0 ≡ get_or old i 0
    before lt = get_or_append_left (take at old) (bytes ++ drop (at + length bytes) old) 0 i (omega (arith, length-take-le at old le)) ∙ get_or-take at old i 0 lt

    behind : at + length bytes ≤ i → get_or (put at bytes old) i 0 ≡ get_or old i 0
    behind ge =
        get_or-append_right (take at old) (bytes ++ drop (at + length bytes) old) at i 0 (length-take-le at old le) (omega arith)
        ∙ get_or-append_right bytes (drop (at + length bytes) old) (length bytes) (i - at) 0 refl (omega arith)
        ∙ get_or-drop (at + length bytes) old (i - at - length bytes) 0
        ∙ ap (λ (n : ℕ). get_or old n 0) (omega arith)

    side : (i < at) ⊎ (at + length bytes ≤ i)
    side = grind (arith, out)

pub put_inside : (at : ℕ) (bytes old : List ℕ) (i : ℕ) → at ≤ length old → at ≤ i → i < at + length bytes → get_or (put at bytes old) i 0 ≡ get_or bytes (i - at) 0
put_inside at bytes old i le from below =
    get_or-append_right (take at old) (bytes ++ drop (at + length bytes) old) at i 0 (length-take-le at old le) from
    ∙ get_or_append_left bytes (drop (at + length bytes) old) 0 (i - at) (omega arith)

pub length-put : (at : ℕ) (bytes old : List ℕ) → at ≤ length old → length (put at bytes old) ≡ max (length old) (at + length bytes)
length-put at bytes old le = omega (arith, length-append (take at old) (bytes ++ drop (at + length bytes) old), length-append bytes (drop (at + length bytes) old), length-take-le at old le, length-drop (at + length bytes) old)
