-- How comparisons of texts answer.
use Rattle.std.proofs.Common.{◌≡◌, ℕ, Bool, List, refl, ap}
use Rattle.std.specs.Ordering.{nat_cmp, is_some_and}
use Rattle.std.specs.Cmp.Lexicographic.{slice_cmp, slice_partial_cmp, lists_agrees}
use Rattle.std.specs.declared.cmp.Ordering.{Ordering}
use Rattle.std.specs.declared.option.Option.TheVariants.{Some}

-- the partial order of texts is their order
pub tested : (test : Ordering → Bool) (text other : List ℕ)
    → is_some_and test (slice_partial_cmp (λ x y. Some (nat_cmp x y)) text other) ≡ test (slice_cmp nat_cmp text other)
tested test text other = ap (is_some_and test) (lists_agrees {R = nat_cmp} (λ x y. refl) text other)
