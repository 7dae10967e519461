-- What is told of one more, and of the rest.
use Rattle.std.proofs.Common.{◌≡◌, ℕ, ◌≤◌, List, ◌∷◌, ◌++◌, ◌∙◌, append_assoc, ap, sym, drop, length}
use Rattle.std.proofs.lemmas.List.{append-nil, drop_all}
use Rattle.std.specs.List.{flat_map}

pub told-more : {A C : Type 0} (f : A → List C) (x : A) (rest all : List A) (old new total : List C) → new ≡ old ++ f x → all ≡ x ∷ rest → old ++ flat_map f all ≡ total
    → new ++ flat_map f rest ≡ total
told-more f x rest all old new total more is so_far =
    let e : old ++ flat_map f (x ∷ rest) ≡ total = rw is at so_far in
    rw more (append_assoc old (f x) (flat_map f rest) ∙ e)

-- where none is left, all is told
pub told-all : {A C : Type 0} (f : A → List C) (all : List A) (i : ℕ) (told total : List C) → length all ≤ i → told ++ flat_map f (drop i all) ≡ total → told ≡ total
told-all f all i told total past so_far = sym (append-nil told) ∙ (ap (λ rest. told ++ flat_map f rest) (sym (drop_all i all past)) ∙ so_far)
