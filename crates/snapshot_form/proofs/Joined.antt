-- Pieces one after the other.
use Rattle.std.proofs.Common.{◌≡◌, ℕ, zero, suc, ◌+◌, ◌*◌, ◌<◌, ◌≤◌, Bool, true, false, ltb, List, ◌++◌, length, take, drop, if◌then◌else◌, Some, None, refl, sym, ap, ◌∙◌, arith}
use Rattle.std.proofs.lemmas.Bool.{ltb-false, lt-ltb}
use Rattle.std.proofs.lemmas.List.{append-nil, drop-take, take-append-drop, take-take, take_all}
use Rattle.snapshot_form.specs.Snapshots.{piece, pieces, piece_bytes, joined}

-- a front, and the front of what stands behind it
take_on : (n k : ℕ) (xs : List ℕ) → take n xs ++ take k (drop n xs) ≡ take (n + k) xs
take_on n k xs =
    ap (λ (front : List ℕ). front ++ take k (drop n xs)) (sym (take-take n (n + k) xs (omega arith)))
    ∙ ap (λ (back : List ℕ). take n (take (n + k) xs) ++ back) (sym (drop-take n k xs))
    ∙ take-append-drop n (take (n + k) xs)

piece-step : (bytes : List ℕ) (n : ℕ) (here : Bool) → ltb (65536 * n) (length bytes) ≡ here
    → take (65536 * n) bytes ++ piece_bytes (if here then Some (take 65536 (drop (65536 * n) bytes)) else None) ≡ take (65536 * suc n) bytes
piece-step bytes n true e = take_on (65536 * n) 65536 bytes ∙ ap (λ (k : ℕ). take k bytes) (omega arith)
piece-step bytes n false e =
    let long = ltb-false (65536 * n) (length bytes) e in
    append-nil (take (65536 * n) bytes) ∙ take_all (65536 * n) bytes long ∙ sym (take_all (65536 * suc n) bytes (omega (arith, long)))

front_is : (bytes : List ℕ) (n : ℕ) → joined bytes n ≡ take (65536 * n) bytes
front_is bytes zero = refl
front_is bytes (suc n) =
    ap (λ (front : List ℕ). front ++ piece_bytes (piece bytes n)) (front_is bytes n) ∙ piece-step bytes n (ltb (65536 * n) (length bytes)) refl

pub all_joined : (bytes : List ℕ) → joined bytes (pieces bytes) ≡ bytes
all_joined bytes = front_is bytes (pieces bytes) ∙ take_all (65536 * pieces bytes) bytes (omega arith)

-- the last piece is what is left
pub last_piece : (bytes rest : List ℕ) (i : ℕ) → 65536 * i < length bytes → rest ≡ drop (65536 * i) bytes → length rest ≤ 65536 → Some rest ≡ piece bytes i
last_piece bytes rest i there is short =
    rw (lt-ltb (65536 * i) (length bytes) there)
    (ap (λ (piece : List ℕ). Some piece) (sym (take_all 65536 rest short) ∙ ap (take 65536) is))
