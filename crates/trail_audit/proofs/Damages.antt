-- The walk over trails finds the first damaged part.
use Rattle.std.proofs.Common.{◌≡◌, ℕ, ◌+◌, List, ◌∷◌, Option, Some, None, ap, sym, ◌∙◌}
use Rattle.std.specs.Prelude.{option_map}
use Rattle.smart_base.specs.Lists.{or_else}
use Rattle.audit_rules.specs.declared.recorded.Recorded.{Recorded}
use Rattle.audit_rules.specs.Readings.{damage_in, part_count, damaged_part}

-- of one more trail and of the rest
one : (before : ℕ) (x : Recorded) (rest all : List Recorded) (damage told total : Option ℕ) → all ≡ x ∷ rest → damage ≡ damage_in x → told ≡ option_map (λ k. before + 1 + k) damage
    → damaged_part before all ≡ total → or_else told (damaged_part (before + part_count x) rest) ≡ total
one before x rest all damage told total is damage_is told_is so_far =
    ap (λ d. or_else d (damaged_part (before + part_count x) rest)) (told_is ∙ ap (λ d. option_map (λ (k : ℕ). before + 1 + k) d) damage_is)
    ∙ (sym (ap (λ (ts : List Recorded). damaged_part before ts) is) ∙ so_far)

pub damage-more : (before : ℕ) (x : Recorded) (rest all : List Recorded) (damage told : Option ℕ) (parts behind : ℕ) (total : Option ℕ) → all ≡ x ∷ rest → damage ≡ damage_in x
    → told ≡ option_map (λ k. before + 1 + k) damage → told ≡ None → parts ≡ part_count x → behind ≡ before + parts → damaged_part before all ≡ total → damaged_part behind rest ≡ total
damage-more before x rest all damage told parts behind total is damage_is told_is none parts_are behind_is so_far =
    ap (λ n. damaged_part n rest) (behind_is ∙ ap (λ p. before + p) parts_are)
    ∙ (sym (ap (λ d. or_else d (damaged_part (before + part_count x) rest)) none) ∙ one before x rest all damage told total is damage_is told_is so_far)

pub damage-found : (before : ℕ) (x : Recorded) (rest all : List Recorded) (damage told total : Option ℕ) (part : ℕ) → all ≡ x ∷ rest → damage ≡ damage_in x
    → told ≡ option_map (λ k. before + 1 + k) damage → told ≡ Some part → damaged_part before all ≡ total → Some part ≡ total
damage-found before x rest all damage told total part is damage_is told_is some so_far =
    sym (ap (λ d. or_else d (damaged_part (before + part_count x) rest)) some) ∙ one before x rest all damage told total is damage_is told_is so_far
