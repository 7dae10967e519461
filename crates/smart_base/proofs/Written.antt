-- What is written one after the other.
use Rattle.std.proofs.Common.{◌≡◌, List, ◌∷◌, ◌++◌, ℕ, append_assoc, ap, subst, ◌∙◌}
use Rattle.std.specs.List.{flat_map}
use Rattle.smart_base.specs.Spelling.{Extends}

-- a text behind what was written before
pub wrote : (out x all y next : List ℕ) → all ≡ out ++ x → next ≡ all ++ y → next ≡ out ++ (x ++ y)
wrote out x all y next e f = f ∙ ap (λ (t : List ℕ). t ++ y) e ∙ append_assoc out x y

-- one more item of a list
pub wrote-item : {X : Type 0} (f : X → List ℕ) (all rest : List X) (x : X) (out next total : List ℕ) → all ≡ x ∷ rest → next ≡ out ++ f x
    → out ++ flat_map f all ≡ total → next ++ flat_map f rest ≡ total
wrote-item f all rest x out next total e n h =
    let t = subst (λ l. out ++ flat_map f l ≡ total) e h in
    ap (λ (o : List ℕ). o ++ flat_map f rest) n ∙ append_assoc out (f x) (flat_map f rest) ∙ t

-- what extends an extension extends what stood before it
pub extends-on : (a b c : List ℕ) → Extends a b → Extends b c → Extends a c
extends-on a b c first second = record {
  rest = first.rest ++ second.rest;
  is = second.is ∙ ap (λ (t : List ℕ). t ++ second.rest) first.is ∙ append_assoc a first.rest second.rest;
}
