-- What holds of all messages that wait, holds of those that leave and of those that stay.
use Rattle.std.proofs.Common.{ℕ, List, [], ◌∷◌}
use Rattle.smart_base.specs.Lists.{Each}
use Rattle.node_rules.specs.Steps.{leaving}
use Rattle.node_rules.specs.declared.node.Held.{Held}
use Rattle.agreement_laws.proofs.Lists.{either}

pub each-leaving : (P : Held → Type 0) (firm : ℕ) (held : List Held) → Each P held → Each P (leaving firm held)
each-leaving P firm [] each = tt
each-leaving P firm (h ∷ hs) each = either (λ (hs : List Held). Each P hs) _ (h ∷ leaving firm hs) [] (each.0, each-leaving P firm hs each.1) tt
