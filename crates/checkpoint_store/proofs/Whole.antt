-- A whole call on a slot of a store.
use Rattle.std.proofs.Common.{◌≡◌, inl, inr, Bool, true, false, not, cond, List, ℕ, Option, Some, None, sym, subst}
use Rattle.disk_model.specs.Cells.{Cells, IsImage}
use Rattle.disk_model.specs.Calls.{LeavesOnly}
use Rattle.store_form.specs.declared.checkpoint.Checkpoint.{Checkpoint}
use Rattle.checkpoint_store.specs.declared.job.SlotJob.{SlotJob}
use Rattle.checkpoint_store.specs.declared.job.SlotJob.TheVariants.{Close, Fill, Gate}
use Rattle.checkpoint_store.specs.declared.store.CheckpointStore.{CheckpointStore}
use Rattle.checkpoint_store.specs.Slots.{is_odd, slot_of, newest, InEachImage, NoneAbove}
use Rattle.checkpoint_store.specs.SlotJobs.{SlotStands, SlotLeaves, Leaves, slot_stake, has_then, other_then}
use Rattle.checkpoint_store.proofs.Newest.{open_newest}

pub closed_leaves : (odd : Bool) (cells : Cells) (job : SlotJob) (next : Checkpoint) (other : Option Checkpoint) → job ≡ Close → SlotLeaves odd cells None (slot_stake job next other) → SlotLeaves odd cells None other
closed_leaves odd cells job next other is = subst (λ (j : SlotJob). SlotLeaves odd cells None (slot_stake j next other) → SlotLeaves odd cells None other) (sym is) (λ l. l)

pub filled_leaves : (odd : Bool) (cells : Cells) (job : SlotJob) (bytes : List ℕ) (next : Checkpoint) → job ≡ Fill bytes → SlotLeaves odd cells None (slot_stake job next None) → SlotLeaves odd cells None None
filled_leaves odd cells job bytes next is = subst (λ (j : SlotJob). SlotLeaves odd cells None (slot_stake j next None) → SlotLeaves odd cells None None) (sym is) (λ l. l)

pub gated_leaves : (odd : Bool) (cells : Cells) (job : SlotJob) (next : Checkpoint) → job ≡ Gate → SlotLeaves odd cells None (slot_stake job next None) → SlotLeaves odd cells None (Some next)
gated_leaves odd cells job next is = subst (λ (j : SlotJob). SlotLeaves odd cells None (slot_stake j next None) → SlotLeaves odd cells None (Some next)) (sym is) (λ l. l)

pub gated_stands : (odd : Bool) (cells : Cells) (job end : SlotJob) (next : Checkpoint) → job ≡ Gate → SlotStands odd cells end next (has_then job next None) (other_then job next None None) → SlotStands odd cells end next (Some next) (Some next)
gated_stands odd cells job end next is =
    subst (λ (j : SlotJob). SlotStands odd cells end next (has_then j next None) (other_then j next None None) → SlotStands odd cells end next (Some next) (Some next)) (sym is) (λ s. s)

pub gated_moments : {D : Type 0} (moment : D → ℕ) (left_since : D → ℕ → List ℕ → Type 0) (odd : Bool) (old mid new : D) (job : SlotJob) (next : Checkpoint) → job ≡ Gate → mid ≡ old
    → LeavesOnly moment left_since mid new (Leaves odd None (slot_stake job next None)) → LeavesOnly moment left_since old new (Leaves odd None (Some next))
gated_moments moment left_since odd old mid new job next is same l =
    subst (λ d. LeavesOnly moment left_since d new (Leaves odd None (Some next))) same
    (subst (λ (j : SlotJob). LeavesOnly moment left_since mid new (Leaves odd None (slot_stake j next None)) → LeavesOnly moment left_since mid new (Leaves odd None (Some next))) (sym is) (λ m. m) l)

-- ---- the opened one is newest

has_it : (odd : Bool) (p : Checkpoint) (c : List ℕ) → Leaves odd (Some p) (Some p) c → slot_of odd c ≡ Some p
has_it odd p c (inl is) = is.0
has_it odd p c (inr (inl is)) = is.0
has_it odd p c (inr (inr is)) = is.0

pub gated_newest : {D : Type 0} (cells : D → Cells) (t : Bool) (store : CheckpointStore D) (p : Checkpoint) (even odd : List ℕ) → is_odd p.generation ≡ t
    → SlotLeaves t (cells (cond t store.odd store.even).device) (Some p) (Some p)
    → InEachImage (cells (cond t store.even store.odd).device) (λ image. NoneAbove p.generation (slot_of (not t) image))
    → IsImage (cells store.even.device) even → IsImage (cells store.odd.device) odd → newest even odd ≡ Some p
gated_newest cells true store p even odd is own above even_is odd_is = open_newest true p odd even is (has_it true p odd (own odd odd_is)) (above even even_is)
gated_newest cells false store p even odd is own above even_is odd_is = open_newest false p even odd is (has_it false p even (own even even_is)) (above odd odd_is)
