-- Blocks that a loop fills.
use Rattle.std.proofs.Common.{◌≡◌, ◌+◌, ◌-◌, ◌<◌, ◌≤◌, ◌∷◌, ◌∙◌, ℕ, List, [], ◌++◌, length, get_or, map, take, drop, replicate, ap, sym, arith}
use Rattle.std.proofs.lemmas.List.{take_more, take_more_set, map-append, drop-set-lt, drop-drop, drop-replicate, take_all}
use Rattle.std.specs.Prelude.{slice_set}

-- one more value, the image of the value there
pub mapped-more : (f : ℕ → ℕ) (out block : List ℕ) (i : ℕ) → i < length out → i < length block
    → take i out ≡ map f (take i block) → take (i + 1) (slice_set out i (f (get_or block i 0))) ≡ map f (take (i + 1) block)
mapped-more f out block i there here before =
    take_more_set out i (f (get_or block i 0)) there
    ∙ (ap (λ front. front ++ f (get_or block i 0) ∷ []) before
    ∙ (sym (map-append f (take i block) (get_or block i 0 ∷ [])) ∙ ap (map f) (sym (take_more block i 0 here))))

-- all values, where the lists are as long as the front
pub mapped-all : (f : ℕ → ℕ) (out block : List ℕ) (n : ℕ) → length out ≤ n → length block ≤ n
    → take n out ≡ map f (take n block) → out ≡ map f block
mapped-all f out block n there here front = sym (take_all n out there) ∙ (front ∙ ap (map f) (take_all n block here))

-- one more value, copied to the front
pub copied-more : (block bytes : List ℕ) (i : ℕ) → i < length block → i < length bytes
    → take i block ≡ take i bytes → take (i + 1) (slice_set block i (get_or bytes i 0)) ≡ take (i + 1) bytes
copied-more block bytes i there here before =
    take_more_set block i (get_or bytes i 0) there
    ∙ (ap (λ front. front ++ get_or bytes i 0 ∷ []) before ∙ sym (take_more bytes i 0 here))

one_less : (n i : ℕ) → (n - i) - 1 ≡ n - (i + 1)
one_less n i = omega arith

behind : (i : ℕ) → i < i + 1
behind i = omega arith

-- one zero less behind the front
pub zeros_left : (block : List ℕ) (i n x : ℕ)
    → drop i block ≡ replicate (n - i) 0 → drop (i + 1) (slice_set block i x) ≡ replicate (n - (i + 1)) 0
zeros_left block i n x before =
    drop-set-lt (i + 1) block i x (behind i)
    ∙ (sym (drop-drop 1 i block) ∙ (ap (drop 1) before ∙ (drop-replicate 1 (n - i) 0 ∙ ap (λ m. replicate m 0) (one_less n i))))
