-- The views behind lists of batches that may be executed.
use Rattle.std.proofs.Common.{◌≡◌, ℕ, ◌+◌, ◌^◌, ◌<◌, ◌≤◌, List, length, true, Some, arith}
use Rattle.smart_base.specs.Lists.{Each}
use Rattle.smart_base.specs.Views.{View, is_view}
use Rattle.smart_base.proofs.ViewFacts.{each-weaken}
use Rattle.smart_statements.specs.Batches.{Batch}
use Rattle.replica_rules.specs.Replicas.{view_at, views_after}
use Rattle.replica_rules.specs.Seals.{is_alone}
use Rattle.node_laws.specs.Sound.{view_for}
use Rattle.node_laws.proofs.ListedViews as listed
use Rattle.snapshot_form.specs.Replicas.{IsOfClients}

-- in each of them a request of the view manager stands alone
pub all_alone : (list : List Batch) → Each IsOfClients list → Each (λ (b : Batch). is_alone b ≡ true) list
all_alone list of = each-weaken IsOfClients (λ (b : Batch). is_alone b ≡ true) (λ b is. is.2) list of

-- all views are valid, where places come behind the batches
pub views_valid : (view : View) (list : List Batch) → is_view view ≡ true → Each IsOfClients list → length list < 2 ^ 63 → Each (λ v. is_view v ≡ true) (views_after view list)
views_valid view list viewed of low = (listed.after_are view list (length list) viewed (all_alone list of) low (omega arith)).valid

-- the view in force at a place holds it
pub held_at : (view : View) (list : List Batch) (place : ℕ) → is_view view ≡ true → Each IsOfClients list → length list < 2 ^ 63 → 1 ≤ place → place ≤ length list + 1
    → view_for (views_after view list) place ≡ Some (view_at view list place)
held_at view list place viewed of few low high = listed.held_at view list place viewed (all_alone list of) few low high
