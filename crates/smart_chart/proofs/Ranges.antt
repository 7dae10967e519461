-- The words that are no range.
use Rattle.std.proofs.Common.{◌≡◌, ℕ, List, [], ◌∷◌, refl}
use Rattle.std.specs.Prelude.{map, length, None}
use Rattle.smart_chart.specs.Transcripts.{range_of}

-- neither no words nor two are no range
pub no_range : {X : Type 0} (f : X → List ℕ) (words : List X) → (length words ≡ 0 → ⊥) → (length words ≡ 2 → ⊥) → None ≡ range_of (map f words)
no_range f [] some other = absurd (some refl)
no_range f (a ∷ []) some other = refl
no_range f (a ∷ b ∷ []) some other = absurd (other refl)
no_range f (a ∷ b ∷ c ∷ words) some other = refl
