-- What one more batch of the chosen list makes.
use Rattle.std.proofs.Common.{◌≡◌, ℕ, ◌+◌, ◌++◌, List, [], ◌∷◌, length, ap, sym, ◌∙◌, arith}
use Rattle.smart_base.specs.Views.{View}
use Rattle.smart_statements.specs.Batches.{Batch}
use Rattle.replica_rules.specs.Replicas.{Managed, managed, manages_all}
use Rattle.replica_rules.proofs.Managed.{managed_append}

-- what the batches make, with one more at the next place
pub managed-more : (view : View) (list more : List Batch) (batch : Batch) (place : ℕ) (g later : Managed) → g ≡ managed view list → place ≡ length list + 1 → later ≡ manages_all place g batch
    → more ≡ list ++ batch ∷ [] → later ≡ managed view more
managed-more view list more batch place g later is place_is later_is more_is =
    let next : place ≡ 1 + length list = omega (arith, place_is) in
    later_is
    ∙ (ap (λ (k : ℕ). manages_all k g batch) next
    ∙ (ap (λ (x : Managed). manages_all (1 + length list) x batch) is
    ∙ (sym (managed_append 1 (record { seq = 0; views = view ∷ [] }) list (batch ∷ []))
    ∙ ap (λ (bs : List Batch). managed view bs) (sym more_is))))
