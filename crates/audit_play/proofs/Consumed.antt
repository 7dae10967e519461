-- What was consumed of a source, and what a sink has taken.
use Rattle.std.proofs.Common.{◌≡◌, ◌++◌, ◌∙◌, ℕ, List, [], Option, None, Some, refl, ap, sym, append_assoc, length, take, ◌∷◌}
use Rattle.std.proofs.lemmas.List.{append-nil}
use Rattle.std.specs.Io.KnownBytes.{Appends, Consumes, Keeps}

pub consumes-then : (a b c : Option (List ℕ)) (xs ys : List ℕ) → Consumes a b xs → Consumes b c ys → Consumes a c (xs ++ ys)
consumes-then None b c xs ys first next = tt
consumes-then (Some a) None c xs ys first next = absurd first
consumes-then (Some a) (Some b) None xs ys first next = absurd next
consumes-then (Some a) (Some b) (Some c) xs ys first next = first ∙ (ap (λ zs. xs ++ zs) next ∙ sym (append_assoc xs ys c))

pub consumes-keeps : (a b c : Option (List ℕ)) (xs : List ℕ) → Consumes a b xs → Keeps b c → Consumes a c xs
consumes-keeps None b c xs first keeps = tt
consumes-keeps (Some a) None c xs first keeps = absurd first
consumes-keeps (Some a) (Some b) None xs first keeps = absurd keeps
consumes-keeps (Some a) (Some b) (Some c) xs first keeps = first ∙ ap (λ ys. xs ++ ys) (sym keeps)

pub consumes-nothing : (left : Option (List ℕ)) → Consumes left left []
consumes-nothing None = tt
consumes-nothing (Some xs) = refl

pub appends-nothing : (written : Option (List ℕ)) → Appends written written []
appends-nothing None = tt
appends-nothing (Some xs) = sym (append-nil xs)

pub appends-keeps : (a b c : Option (List ℕ)) (xs : List ℕ) → Appends a b xs → Keeps b c → Appends a c xs
appends-keeps None b c xs first keeps = tt
appends-keeps (Some a) None c xs first keeps = absurd first
appends-keeps (Some a) (Some b) None xs first keeps = absurd keeps
appends-keeps (Some a) (Some b) (Some c) xs first keeps = keeps ∙ first

pub take-whole : {A : Type 0} (xs : List A) → take (length xs) xs ≡ xs
take-whole [] = refl
take-whole (x ∷ xs) = ap (λ ys. x ∷ ys) (take-whole xs)
