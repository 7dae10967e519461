-- What is consumed piece by piece.
use Rattle.std.proofs.Common.{◌≡◌, ℕ, List, [], ◌++◌, refl, ap, sym, ◌∙◌, append_assoc}
use Rattle.std.specs.Prelude.{Option, None, Some}
use Rattle.std.specs.Io.KnownBytes.{Consumes}

pub consumes_none : (a : Option (List ℕ)) → Consumes a a []
consumes_none None = tt
consumes_none (Some xs) = refl

pub consumes_then : (a b c : Option (List ℕ)) (xs ys : List ℕ) → Consumes a b xs → Consumes b c ys → Consumes a c (xs ++ ys)
consumes_then None b c xs ys p q = tt
consumes_then (Some l) None c xs ys p q = absurd p
consumes_then (Some l) (Some m) None xs ys p q = absurd q
consumes_then (Some l) (Some m) (Some n) xs ys p q = p ∙ (ap (λ t. xs ++ t) q ∙ sym (append_assoc xs ys n))

pub consumes_last : (a b c : Option (List ℕ)) (xs : List ℕ) → Consumes a b xs → Consumes b c [] → Consumes a c xs
consumes_last None b c xs p q = tt
consumes_last (Some l) None c xs p q = absurd p
consumes_last (Some l) (Some m) None xs p q = absurd q
consumes_last (Some l) (Some m) (Some n) xs p q = p ∙ ap (λ t. xs ++ t) q
