-- While a job on a slot runs to its end.
use Rattle.std.proofs.Common.{◌≡◌, inl, inr, ℕ, ◌<◌, Bool, true, false, cond, List, Option, Some, refl, sym, ◌∙◌, subst, arith}
use Rattle.disk_model.specs.Cells.{Cells, IsImage, Within}
use Rattle.disk_model.specs.Calls.{Elapses, LeavesOnly}
use Rattle.disk_model.proofs.Moments.{started, goes_on}
use Rattle.store_form.specs.declared.checkpoint.Checkpoint.{Checkpoint}
use Rattle.checkpoint_store.specs.declared.job.SlotJob.{SlotJob}
use Rattle.checkpoint_store.specs.declared.job.SlotJob.TheVariants.{Empty, Torn, Shut, Close, SyncClose, Fill, SyncFill, Full, Gate, SyncGate, Counts}
use Rattle.checkpoint_store.specs.declared.store.CheckpointStore.{CheckpointStore}
use Rattle.checkpoint_store.specs.Slots.{is_odd}
use Rattle.checkpoint_store.specs.Stores.{slot}
use Rattle.checkpoint_store.specs.SlotJobs.{SlotStands, Leaves, SlotLeaves, IsIdle, has_after, other_after, slot_stake, has_then, other_then, job_after, end_of, calls_left, slot_called}
use Rattle.checkpoint_store.proofs.Phases.{stakes, call_stakes, fewer}

-- ---- the order of the calls

pub end_after : (job : SlotJob) → end_of (job_after job) ≡ end_of job
end_after Empty = refl
end_after Torn = refl
end_after Shut = refl
end_after Close = refl
end_after SyncClose = refl
end_after (Fill bytes) = refl
end_after SyncFill = refl
end_after Full = refl
end_after Gate = refl
end_after SyncGate = refl
end_after Counts = refl

pub ended : (job : SlotJob) → IsIdle job → end_of job ≡ job
ended Empty is = refl
ended Torn is = refl
ended Shut is = refl
ended Full is = refl
ended Counts is = refl
ended Close is = absurd cc
ended SyncClose is = absurd cc
ended (Fill bytes) is = absurd cc
ended SyncFill is = absurd cc
ended Gate is = absurd cc
ended SyncGate is = absurd cc

falls_after : (job : SlotJob) → (IsIdle job → ⊥) → calls_left (job_after job) < calls_left job
falls_after Empty busy = absurd (busy refl)
falls_after Torn busy = absurd (busy refl)
falls_after Shut busy = absurd (busy refl)
falls_after Full busy = absurd (busy refl)
falls_after Counts busy = absurd (busy refl)
falls_after Close busy = omega arith
falls_after SyncClose busy = omega arith
falls_after (Fill bytes) busy = omega arith
falls_after SyncFill busy = omega arith
falls_after Gate busy = omega arith
falls_after SyncGate busy = omega arith

pub falls : (job then : SlotJob) → (IsIdle job → ⊥) → then ≡ job_after job → calls_left then < calls_left job
falls job then busy is = subst (λ (j : SlotJob). calls_left j < calls_left job) (sym is) (falls_after job busy)

-- ---- the pair meanwhile

has_same : (job : SlotJob) (next : Checkpoint) (has : Option Checkpoint) → has_then (job_after job) next (has_after job next has) ≡ has_then job next has
has_same Empty next has = refl
has_same Torn next has = refl
has_same Shut next has = refl
has_same Close next has = refl
has_same SyncClose next has = refl
has_same (Fill bytes) next has = refl
has_same SyncFill next has = refl
has_same Full next has = refl
has_same Gate next has = refl
has_same SyncGate next has = refl
has_same Counts next has = refl

other_same : (job : SlotJob) (next : Checkpoint) (has other : Option Checkpoint) → other_then (job_after job) next (has_after job next has) (other_after job next has other) ≡ other_then job next has other
other_same Empty next has other = refl
other_same Torn next has other = refl
other_same Shut next has other = refl
other_same Close next has other = refl
other_same SyncClose next has other = refl
other_same (Fill bytes) next has other = refl
other_same SyncFill next has other = refl
other_same Full next has other = refl
other_same Gate next has other = refl
other_same SyncGate next has other = refl
other_same Counts next has other = refl

one_of : (odd : Bool) (has other : Option Checkpoint) (c : List ℕ) → Leaves odd has has c → Leaves odd has other c
one_of odd has other c (inl is) = inl is
one_of odd has other c (inr (inl is)) = inl is
one_of odd has other c (inr (inr is)) = inl is

the_other : (odd : Bool) (has other : Option Checkpoint) (c : List ℕ) → Leaves odd other other c → Leaves odd has other c
the_other odd has other c (inl is) = inr (inr is)
the_other odd has other c (inr (inl is)) = inr (inr is)
the_other odd has other c (inr (inr is)) = inr (inr is)

no_more : (odd : Bool) (job : SlotJob) (next : Checkpoint) (has other : Option Checkpoint) (c : List ℕ)
    → Leaves odd (has_after job next has) (slot_stake (job_after job) next (other_after job next has other)) c → Leaves odd has (slot_stake job next other) c
no_more odd Empty next has other c l = l
no_more odd Torn next has other c l = l
no_more odd Shut next has other c l = l
no_more odd Close next has other c l = l
no_more odd SyncClose next has other c l = one_of odd has other c l
no_more odd (Fill bytes) next has other c l = l
no_more odd SyncFill next has other c l = l
no_more odd Full next has other c l = l
no_more odd Gate next has other c l = l
no_more odd SyncGate next has other c l = the_other odd has (Some next) c l
no_more odd Counts next has other c l = l

-- The slot has come from `first` to `job`, and ends as it would have from there.
pub record Reaches (odd : Bool) (cells : Cells) (first job : SlotJob) (next : Checkpoint) (has other : Option Checkpoint) : Type 0 where
  pub now : Option Checkpoint
  pub instead : Option Checkpoint
  pub stands : SlotStands odd cells job next now instead
  pub has_end : has_then job next now ≡ has_then first next has
  pub other_end : other_then job next now instead ≡ other_then first next has other
  pub no_third : (c : List ℕ) → Leaves odd now (slot_stake job next instead) c → Leaves odd has (slot_stake first next other) c

pub reaches : (odd : Bool) (cells : Cells) (job : SlotJob) (next : Checkpoint) (has other : Option Checkpoint) → SlotStands odd cells job next has other → Reaches odd cells job job next has other
reaches odd cells job next has other s = record { now = has; instead = other; stands = s; has_end = refl; other_end = refl; no_third = λ c l. l }

reaches_after : (odd : Bool) (old new : Cells) (first job : SlotJob) (next : Checkpoint) (has other : Option Checkpoint) (r : Reaches odd old first job next has other)
    → SlotStands odd new (job_after job) next (has_after job next r.now) (other_after job next r.now r.instead) → Reaches odd new first (job_after job) next has other
reaches_after odd old new first job next has other r s = record {
  now = has_after job next r.now;
  instead = other_after job next r.now r.instead;
  stands = s;
  has_end = has_same job next r.now ∙ r.has_end;
  other_end = other_same job next r.now r.instead ∙ r.other_end;
  no_third = λ c l. r.no_third c (no_more odd job next r.now r.instead c l);
}

pub reaches_further : (odd : Bool) (old new : Cells) (first job then : SlotJob) (next : Checkpoint) (has other : Option Checkpoint) → then ≡ job_after job → (r : Reaches odd old first job next has other)
    → SlotStands odd new then next (has_after job next r.now) (other_after job next r.now r.instead) → Reaches odd new first then next has other
reaches_further odd old new first job then next has other is r =
    subst (λ (j : SlotJob). SlotStands odd new j next (has_after job next r.now) (other_after job next r.now r.instead) → Reaches odd new first j next has other) (sym is) (reaches_after odd old new first job next has other r)

has_idle : (job : SlotJob) (next : Checkpoint) (has : Option Checkpoint) → IsIdle job → has_then job next has ≡ has
has_idle Empty next has is = refl
has_idle Torn next has is = refl
has_idle Shut next has is = refl
has_idle Full next has is = refl
has_idle Counts next has is = refl
has_idle Close next has is = absurd cc
has_idle SyncClose next has is = absurd cc
has_idle (Fill bytes) next has is = absurd cc
has_idle SyncFill next has is = absurd cc
has_idle Gate next has is = absurd cc
has_idle SyncGate next has is = absurd cc

other_idle : (job : SlotJob) (next : Checkpoint) (has other : Option Checkpoint) → IsIdle job → other_then job next has other ≡ other
other_idle Empty next has other is = refl
other_idle Torn next has other is = refl
other_idle Shut next has other is = refl
other_idle Full next has other is = refl
other_idle Counts next has other is = refl
other_idle Close next has other is = absurd cc
other_idle SyncClose next has other is = absurd cc
other_idle (Fill bytes) next has other is = absurd cc
other_idle SyncFill next has other is = absurd cc
other_idle Gate next has other is = absurd cc
other_idle SyncGate next has other is = absurd cc

-- at the end
pub stands_then : (odd : Bool) (cells : Cells) (first job : SlotJob) (next : Checkpoint) (has other : Option Checkpoint) → IsIdle job → Reaches odd cells first job next has other
    → SlotStands odd cells job next (has_then first next has) (other_then first next has other)
stands_then odd cells first job next has other is r =
    let has_is : r.now ≡ has_then first next has = sym (has_idle job next r.now is) ∙ r.has_end in
    let other_is : r.instead ≡ other_then first next has other = sym (other_idle job next r.now r.instead is) ∙ r.other_end in
    subst (λ (o : Option Checkpoint). SlotStands odd cells job next (has_then first next has) o) other_is
    (subst (λ (h : Option Checkpoint). SlotStands odd cells job next h r.instead) has_is r.stands)

-- what a crash leaves then
pub reached_leaves : (odd : Bool) (cells : Cells) (first job : SlotJob) (next : Checkpoint) (has other : Option Checkpoint) → Reaches odd cells first job next has other → SlotLeaves odd cells has (slot_stake first next other)
reached_leaves odd cells first job next has other r c image = r.no_third c (stakes odd cells job next r.now r.instead r.stands c image)

-- and after a call that went well or failed
pub call_leaves : (odd : Bool) (old new : Cells) (first job : SlotJob) (next : Checkpoint) (has other : Option Checkpoint) (r : Reaches odd old first job next has other)
    → SlotLeaves odd new r.now (slot_stake job next r.instead) → SlotLeaves odd new has (slot_stake first next other)
call_leaves odd old new first job next has other r crash c image = r.no_third c (crash c image)

module _ {D : Type 0} (moment : D → ℕ) (left_since : D → ℕ → List ℕ → Type 0) (cells : D → Cells) where
  pub begins : (odd : Bool) (d : D) (has other : Option Checkpoint) → SlotLeaves odd (cells d) has other → ((c : List ℕ) → left_since d (moment d) c → IsImage (cells d) c)
      → LeavesOnly moment left_since d d (Leaves odd has other)
  begins odd d has other crash only_now = started moment left_since d (Leaves odd has other) (λ c left. crash c (only_now c left))

  pub goes_further : (odd : Bool) (d mid new : D) (has other : Option Checkpoint) → LeavesOnly moment left_since d mid (Leaves odd has other)
      → Elapses (moment mid) (moment new) (left_since mid) (left_since new) (IsImage (cells new)) → SlotLeaves odd (cells new) has other → LeavesOnly moment left_since d new (Leaves odd has other)
  goes_further odd d mid new has other so_far time crash = goes_on moment left_since d mid new (Leaves odd has other) (IsImage (cells new)) so_far time crash

-- ---- of two slots

pub same_devices : {D : Type 0} (generation : ℕ) (a b : CheckpointStore D) → a.even.device ≡ b.even.device → a.odd.device ≡ b.odd.device → (slot generation a).device ≡ (slot generation b).device
same_devices generation a b even odd = by (is_odd generation)
  where
    by : (t : Bool) → (cond t a.odd a.even).device ≡ (cond t b.odd b.even).device
    by true = odd
    by false = even

pub made_leaves : (odd : Bool) (old new : Cells) (job : SlotJob) (next : Checkpoint) (has other : Option Checkpoint) → Within new (slot_called job old) → SlotStands odd old job next has other → SlotLeaves odd new has (slot_stake job next other)
made_leaves odd old new job next has other within s = fewer odd new (slot_called job old) has (slot_stake job next other) within (call_stakes odd old job next has other s)
