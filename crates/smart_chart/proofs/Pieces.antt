-- Texts that grow piece by piece.
use Rattle.std.proofs.Common.{◌≡◌, List, ◌++◌, ap, sym, ◌∙◌, append_assoc}

pub two : {X : Type 0} (s s' s'' a b : List X) → s' ≡ s ++ a → s'' ≡ s' ++ b → s'' ≡ s ++ (a ++ b)
two s s' s'' a b p q = q ∙ (ap (λ t. t ++ b) p ∙ append_assoc s a b)
