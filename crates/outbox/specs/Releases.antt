-- Releases one after another, and what they give together.
use Rattle.std.specs.Prelude.{◌≡◌, ℕ, zero, suc, ◌<◌, ◌≤◌, List, [], ◌∷◌, ◌++◌, option_to_list}
use Rattle.smart_base.specs.Lists.{Each}
use Rattle.node_rules.specs.declared.node.Held.{Held}
use Rattle.node_rules.specs.Steps.{first_leaving, after_first}

-- the messages that so many releases give, in order
abbrev pub given : ℕ → ℕ → List Held → List Held
given firm zero held = []
given firm (suc count) held = option_to_list (first_leaving firm held) ++ given firm count (after_first firm held)

-- the messages that so many releases leave
abbrev pub left_by : ℕ → ℕ → List Held → List Held
left_by firm zero held = held
left_by firm (suc count) held = left_by firm count (after_first firm held)

-- held messages of which the first, if there is one, waits for entries to be firm
abbrev pub Waits : ℕ → List Held → Type 0
Waits firm [] = Unit {0}
Waits firm (h ∷ hs) = firm < h.needs

-- the longest prefix of the held messages whose entries are all firm, and the rest
pub record IsLongestFront (firm : ℕ) (held front rest : List Held) : Type 0 where
  pub whole : front ++ rest ≡ held
  pub ready : Each (λ h. h.needs ≤ firm) front
  pub longest : Waits firm rest
