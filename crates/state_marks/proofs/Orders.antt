-- How comparisons of texts answer.
use Rattle.std.proofs.Common.{◌≡◌, ℕ, Bool, true, false, List, refl, ap, sym, ◌∙◌}
use Rattle.std.specs.Ordering.{nat_cmp, is_some_and, is_lt, ordering_reverse}
use Rattle.std.specs.Cmp.Lexicographic.{slice_cmp, slice_partial_cmp, lists_agrees}
use Rattle.std.specs.declared.cmp.Ordering.{Ordering}
use Rattle.std.specs.declared.cmp.Ordering.TheVariants.{Less, Equal, Greater}
use Rattle.std.specs.declared.option.Option.TheVariants.{Some}
use Rattle.std.proofs.lemmas.Cmp.{nat_list_cmp_total}
use Rattle.std.proofs.lemmas.Map.Lookups.{exact_bytes}
use Rattle.state_marks.specs.Tables.{byte_order}

-- the partial order of texts is their order
pub tested : (test : Ordering → Bool) (text other : List ℕ)
    → is_some_and test (slice_partial_cmp (λ x y. Some (nat_cmp x y)) text other) ≡ test (slice_cmp nat_cmp text other)
tested test text other = ap (is_some_and test) (lists_agrees {R = nat_cmp} (λ x y. refl) text other)

pub is_less : (o : Ordering) → is_lt o ≡ true → o ≡ Less
is_less Less e = refl
is_less Equal e = absurd cc
is_less Greater e = absurd cc

not_less_itself : (o : Ordering) → o ≡ ordering_reverse o → is_lt o ≡ false
not_less_itself Less e = absurd cc
not_less_itself Equal e = refl
not_less_itself Greater e = refl

-- no text comes before itself
pub itself : (text : List ℕ) → is_lt (byte_order text text) ≡ false
itself text = not_less_itself (byte_order text text) (nat_list_cmp_total.antisymm text text)

pub through : (text mid other : List ℕ) → byte_order text mid ≡ Less → byte_order mid other ≡ Less → byte_order text other ≡ Less
through text mid other first second = nat_list_cmp_total.trans text mid other first second

-- where a text does not come before another, that one is not behind it
pub not_behind : (text other : List ℕ) → is_lt (byte_order other text) ≡ false → byte_order text other ≡ Greater → ⊥
not_behind text other is behind =
    let before : byte_order other text ≡ Less = nat_list_cmp_total.antisymm other text ∙ ap ordering_reverse behind in
    let both : true ≡ false = sym (ap is_lt before) ∙ is in
    absurd (cc)

neither : (o : Ordering) → is_lt o ≡ false → (o ≡ Greater → ⊥) → o ≡ Equal
neither Less is not_behind = absurd (cc)
neither Equal is not_behind = refl
neither Greater is not_behind = absurd (not_behind refl)

-- texts of which none comes before the other are the same
pub same_text : (text other : List ℕ) → is_lt (byte_order text other) ≡ false → (byte_order text other ≡ Greater → ⊥) → text ≡ other
same_text text other is not_behind = exact_bytes text other (neither (byte_order text other) is not_behind)
