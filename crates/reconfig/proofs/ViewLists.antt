-- Lists of views that are numbered from 0.
use Rattle.std.proofs.Common.{◌≡◌, ℕ, ◌+◌, ◌≤◌, List, [], ◌∷◌, ◌++◌, length, refl, ap, arith, Ok}
use Rattle.std.proofs.lemmas.List.{length-append}
use Rattle.smart_base.specs.Views.{View, present}
use Rattle.smart_view.specs.declared.fault.ViewFault.TheVariants.{Spent}
use Rattle.reconfig.specs.declared.change.Change.{Change}
use Rattle.reconfig.specs.Applied.{applied, Has}
use Rattle.reconfig.proofs.Faults.{number_is}

-- ---- the last view

pub present-append : (views : List View) (w : View) → present (views ++ w ∷ []) ≡ w
present-append [] w = refl
present-append (v ∷ []) w = refl
present-append (v ∷ u ∷ views) w = present-append (u ∷ views) w

pub numbered : (views : List View) (start : ℕ) (c : Change) (w : View) → (present views).number + 1 ≡ length views → applied (present views) start c ≡ Ok w
    → (present (views ++ w ∷ [])).number + 1 ≡ length (views ++ w ∷ [])
numbered views start c w all e =
    let last : (present (views ++ w ∷ [])).number ≡ w.number = ap (λ (w : View). w.number) (present-append views w) in
    let next = number_is (present views) start c w e in
    omega (arith, all, last, next, length-append views (w ∷ []))

pub all_spent : (views : List View) (c : Change) → (present views).number + 1 ≡ length views → 1024 ≤ length views → Has Spent (present views) c
all_spent views c all many = omega (arith, all, many)

pub some_left : (views : List View) (c : Change) → (present views).number + 1 ≡ length views → Has Spent (present views) c → 1024 ≤ length views
some_left views c all spent = omega (arith, all, spent)
