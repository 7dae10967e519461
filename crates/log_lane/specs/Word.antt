-- The word is what the one seat that raises it has raised it to. What a seat has found there, and what it has heard of it, is at most the word.
use Rattle.std.specs.Prelude.{◌≡◌, ℕ, Bool, true, false, [], ◌∷◌, ◌≤◌}
use mathlib.Core.Option.{some}
use lib.ListN.{get_elem?}
use Rattle.atomic_table.specs.Table.{State, Me, Step}
use Rattle.log_lane.specs.declared.word.Known.{Known}

abbrev pub known : Bool → ℕ → ℕ → Known
known may_raise found heard = record { raises = may_raise; found = found; heard = heard }

abbrev pub reading : ℕ → ℕ → Known
reading = known false

abbrev pub raising : ℕ → ℕ → Known
raising = known true

-- what a seat knows fits the word, which the seat `raiser` raises
pub record Fits (raiser word seat : ℕ) (v : Known) : Type 0 where
  pub all : v.raises ≡ true → (seat ≡ raiser) × (v.found ≡ word)
  pub found : v.found ≤ word
  pub heard : v.heard ≤ word

module _ {S : Type 0} where
  pub record IsRaised (s : State S Known) : Type 0 where
    pub raiser : ℕ
    pub word : ℕ
    pub is : s.words ≡ word ∷ []
    pub fits : (seat : ℕ) (v : Known) → get_elem? s.views seat ≡ some v → Fits raiser word seat v

  -- the word was raised to n
  abbrev pub HasRaised : Step S → Me S Known → ℕ → Me S Known → Type 0
  HasRaised step before n after = after ≡ (known before.0.raises n before.0.heard, before.1)

  -- the word was n, which is no less than what had been found or heard, and just what this seat has raised it to if it raises it
  abbrev pub HasRead : Step S → Me S Known → ℕ → Me S Known → Type 0
  HasRead step before n after =
      (after ≡ (known before.0.raises n before.0.heard, before.1)) × (before.0.found ≤ n) × (before.0.heard ≤ n) × (before.0.raises ≡ true → before.0.found ≡ n)
