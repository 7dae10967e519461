-- Whether a group is made of entries that wait and of more: the first of all tells it.
use Rattle.std.proofs.Common.{◌≡◌, ℕ, Bool, true, false, not, cond, List, [], ◌∷◌, ◌++◌, slice_get, None, Some, refl, ◌∙◌, ap}
use Rattle.store_laws.specs.States.{some, group_of}

begins_test : (t : Bool) (entry : List ℕ) (rest : List (List ℕ)) → some (cond t [] (entry ∷ rest)) ≡ not t
begins_test true entry rest = refl
begins_test false entry rest = refl

begins_at : (stops : List ℕ → Bool) (entries : List (List ℕ)) (entry : List ℕ) → slice_get entries 0 ≡ Some entry → some (group_of stops entries) ≡ not (stops entry)
begins_at stops [] entry is = absurd cc
begins_at stops (first ∷ entries) entry is =
    let same : first ≡ entry = cc in
    begins_test (stops first) first (group_of stops entries) ∙ ap (λ (e : List ℕ). not (stops e)) same

first_of : (waiting more : List (List ℕ)) (entry : List ℕ) → slice_get waiting 0 ≡ Some entry → slice_get (waiting ++ more) 0 ≡ Some entry
first_of [] more entry is = absurd cc
first_of (first ∷ waiting) more entry is = is

pub group_waits : (stops : List ℕ → Bool) (waiting more : List (List ℕ)) (entry : List ℕ) → slice_get waiting 0 ≡ Some entry → some (group_of stops (waiting ++ more)) ≡ not (stops entry)
group_waits stops waiting more entry is = begins_at stops (waiting ++ more) entry (first_of waiting more entry is)

pub group_comes : (stops : List ℕ → Bool) (waiting more : List (List ℕ)) (entry : List ℕ) → slice_get waiting 0 ≡ None → slice_get more 0 ≡ Some entry → some (group_of stops (waiting ++ more)) ≡ not (stops entry)
group_comes stops [] more entry none is = begins_at stops more entry is
group_comes stops (first ∷ waiting) more entry none is = absurd cc

pub group_none : (stops : List ℕ → Bool) (waiting more : List (List ℕ)) → slice_get waiting 0 ≡ None → slice_get more 0 ≡ None → some (group_of stops (waiting ++ more)) ≡ false
group_none stops [] [] none nothing = refl
group_none stops [] (first ∷ more) none nothing = absurd cc
group_none stops (first ∷ waiting) more none nothing = absurd cc
