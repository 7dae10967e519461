-- A job on a slot goes on by one call.
use Rattle.std.proofs.Common.{◌≡◌, inl, inr, ℕ, Bool, List, [], ◌∷◌, ◌++◌, Option, Some, None, refl, sym, ◌∙◌, ap, subst}
use Rattle.disk_model.specs.Cells.{Cells, IsImage, Within, settled, written}
use Rattle.disk_model.proofs.Images.{image_settled}
use Rattle.store_form.specs.Spelling.{checkpoint_text}
use Rattle.store_form.specs.declared.checkpoint.Checkpoint.{Checkpoint}
use Rattle.checkpoint_store.specs.Slots.{slot_of, instead_of}
use Rattle.checkpoint_store.specs.declared.job.SlotJob.{SlotJob}
use Rattle.checkpoint_store.specs.declared.job.SlotJob.TheVariants.{Empty, Torn, Shut, Close, SyncClose, Fill, SyncFill, Full, Gate, SyncGate, Counts}
use Rattle.checkpoint_store.specs.SlotJobs.{IsTorn, IsCounted, ToClose, Closing, Filling, Opening, SlotStands, Leaves, SlotLeaves, has_after, other_after, slot_stake, slot_called}
use Rattle.checkpoint_store.proofs.SlotBytes.{slot_again, torn, closed, as_it_is, over_gate, filled}

-- ---- the call that goes well

pub synced_gate : (odd : Bool) (cells new : Cells) (next : Checkpoint) → Opening odd cells next → new ≡ settled cells.now → IsCounted odd new (Some next)
synced_gate odd cells new next s is = record {
  rest = checkpoint_text next ++ s.rest;
  are = is ∙ ap (λ (q : Cells). settled q.now) s.are;
  checkpoint = next;
  counts = slot_again odd next s.rest s.is_for;
  is = refl;
}

pub gate_goes : (odd : Bool) (cells new : Cells) (job : SlotJob) (next : Checkpoint) (has other : Option Checkpoint) → job ≡ SyncGate → new ≡ settled cells.now
    → SlotStands odd cells job next has other → SlotStands odd new Counts next (has_after job next has) (other_after job next has other)
gate_goes odd cells new job next has other is synced =
    subst (λ (j : SlotJob). SlotStands odd cells j next has other → SlotStands odd new Counts next (has_after j next has) (other_after j next has other)) (sym is) (λ s. (synced_gate odd cells new next s.0 synced, refl))

-- ---- what a crash leaves

on : (odd : Bool) (cells is : Cells) (has other : Option Checkpoint) → cells ≡ is → SlotLeaves odd is has other → SlotLeaves odd cells has other
on odd cells is has other same each c image = each c (subst (λ (q : Cells). IsImage q c) same image)

-- of a pair that is equal to another
for_pair : (odd : Bool) (cells : Cells) (has other a b : Option Checkpoint) → has ≡ a → other ≡ b → SlotLeaves odd cells a b → SlotLeaves odd cells has other
for_pair odd cells has other a b has_is other_is each c image = rw (has_is, other_is) (each c image)

still : (odd : Bool) (cells : Cells) (bytes : List ℕ) (has other : Option Checkpoint) → cells ≡ settled bytes → Leaves odd has other bytes → SlotLeaves odd cells has other
still odd cells bytes has other are leaves c image =
    let same : c ≡ bytes = image_settled bytes c (subst (λ (q : Cells). IsImage q c) are image) in
    rw (same) leaves

leaves_torn : (odd : Bool) (cells : Cells) (other : Option Checkpoint) → IsTorn odd cells other → SlotLeaves odd cells None other
leaves_torn odd cells other s = still odd cells (s.gate ∷ s.rest) None other s.are (inr (inl (s.nothing, torn odd s.gate s.rest s.torn ∙ sym s.is)))

leaves_counted : (odd : Bool) (cells : Cells) (has : Option Checkpoint) → IsCounted odd cells has → SlotLeaves odd cells has has
leaves_counted odd cells has s = still odd cells (1 ∷ s.rest) has has s.are (inl (s.counts ∙ sym s.is, s.counts ∙ sym s.is))

leaves_shut : (odd : Bool) (cells : Cells) (rest : List ℕ) → cells ≡ settled (0 ∷ rest) → SlotLeaves odd cells None None
leaves_shut odd cells rest are = still odd cells (0 ∷ rest) None None are (closed odd rest)

leaves_to_close : (odd : Bool) (cells : Cells) (other : Option Checkpoint) → ToClose odd cells other → SlotLeaves odd cells None other
leaves_to_close odd cells other s = still odd cells s.bytes None other s.are (rw (s.is) (as_it_is odd s.bytes))

leaves_closing : (odd : Bool) (cells : Cells) (other : Option Checkpoint) → Closing odd cells other → SlotLeaves odd cells None other
leaves_closing odd cells other s = on odd cells (written 0 (0 ∷ []) (settled s.bytes)) None other s.are (λ c image. rw (s.is) (over_gate odd 0 s.bytes c image))

leaves_filling : (odd : Bool) (cells : Cells) (next : Checkpoint) → Filling odd cells next → SlotLeaves odd cells None None
leaves_filling odd cells next s = on odd cells (written 1 (checkpoint_text next) (settled (0 ∷ s.rest))) None None s.are (λ c image. filled odd (checkpoint_text next) s.rest c image)

leaves_opening : (odd : Bool) (cells : Cells) (next : Checkpoint) → Opening odd cells next → SlotLeaves odd cells None (Some next)
leaves_opening odd cells next s =
    on odd cells (written 0 (1 ∷ []) (settled (0 ∷ (checkpoint_text next ++ s.rest)))) None (Some next) s.are
    (λ c image. rw (← slot_again odd next s.rest s.is_for) (over_gate odd 1 (0 ∷ (checkpoint_text next ++ s.rest)) c image))

pub leaves : (odd : Bool) (cells : Cells) (job : SlotJob) (next : Checkpoint) (has other : Option Checkpoint) → SlotStands odd cells job next has other → SlotLeaves odd cells has other
leaves odd cells Empty next has other s = for_pair odd cells has other None None s.1.0 s.1.1 (still odd cells [] None None s.0 (inl (refl, refl)))
leaves odd cells Torn next has other s = for_pair odd cells has other None other s.1 refl (leaves_torn odd cells other s.0)
leaves odd cells Shut next has other s = for_pair odd cells has other None None s.1.0 s.1.1 (leaves_shut odd cells s.0.rest s.0.are)
leaves odd cells Close next has other s = for_pair odd cells has other None other s.1 refl (leaves_to_close odd cells other s.0)
leaves odd cells SyncClose next has other s = for_pair odd cells has other None other s.1 refl (leaves_closing odd cells other s.0)
leaves odd cells (Fill bytes) next has other s = for_pair odd cells has other None None s.1.0 s.1.1 (leaves_shut odd cells s.0.rest s.0.are)
leaves odd cells SyncFill next has other s = for_pair odd cells has other None None s.1.0 s.1.1 (leaves_filling odd cells next s.0)
leaves odd cells Full next has other s = for_pair odd cells has other None None s.1.0 s.1.1 (leaves_shut odd cells (checkpoint_text next ++ s.0.rest) s.0.are)
leaves odd cells Gate next has other s = for_pair odd cells has other None None s.1.0 s.1.1 (leaves_shut odd cells (checkpoint_text next ++ s.0.rest) s.0.are)
leaves odd cells SyncGate next has other s = for_pair odd cells has other None (Some next) s.1.0 s.1.1 (leaves_opening odd cells next s.0)
leaves odd cells Counts next has other s = for_pair odd cells has other has has refl s.1 (leaves_counted odd cells has s.0)

-- the pair stands, and `at stake` is no less than what a crash may leave before the call
pub stakes : (odd : Bool) (cells : Cells) (job : SlotJob) (next : Checkpoint) (has other : Option Checkpoint) → SlotStands odd cells job next has other → SlotLeaves odd cells has (slot_stake job next other)
stakes odd cells Gate next has other s = λ c image.
    let both = leaves_shut odd cells (checkpoint_text next ++ s.0.rest) s.0.are c image in
    rw (s.1.0) (inl (both_are odd c both))
  where
    both_are : (odd : Bool) (c : List ℕ) → Leaves odd None None c → (slot_of odd c ≡ None) × (instead_of odd c ≡ None)
    both_are odd c (inl is) = is
    both_are odd c (inr (inl is)) = is
    both_are odd c (inr (inr is)) = is
stakes odd cells SyncGate next has other s = for_pair odd cells has (Some next) None (Some next) s.1.0 refl (leaves_opening odd cells next s.0)
stakes odd cells Empty next has other s = leaves odd cells Empty next has other s
stakes odd cells Torn next has other s = leaves odd cells Torn next has other s
stakes odd cells Shut next has other s = leaves odd cells Shut next has other s
stakes odd cells Close next has other s = leaves odd cells Close next has other s
stakes odd cells SyncClose next has other s = leaves odd cells SyncClose next has other s
stakes odd cells (Fill bytes) next has other s = leaves odd cells (Fill bytes) next has other s
stakes odd cells SyncFill next has other s = leaves odd cells SyncFill next has other s
stakes odd cells Full next has other s = leaves odd cells Full next has other s
stakes odd cells Counts next has other s = leaves odd cells Counts next has other s

-- ---- the call that goes well or fails

pub call_stakes : (odd : Bool) (cells : Cells) (job : SlotJob) (next : Checkpoint) (has other : Option Checkpoint) → SlotStands odd cells job next has other → SlotLeaves odd (slot_called job cells) has (slot_stake job next other)
call_stakes odd cells Close next has other s =
    for_pair odd (written 0 (0 ∷ []) cells) has other None other s.1 refl
    (leaves_closing odd (written 0 (0 ∷ []) cells) other (record { bytes = s.0.bytes; are = ap (λ (q : Cells). written 0 (0 ∷ []) q) s.0.are; is = s.0.is }))
call_stakes odd cells (Fill bytes) next has other s =
    for_pair odd (written 1 bytes cells) has other None None s.1.0 s.1.1
    (leaves_filling odd (written 1 bytes cells) next (record { rest = s.0.rest; are = ap (λ (l : List ℕ). written 1 l cells) s.0.bytes_are ∙ ap (λ (q : Cells). written 1 (checkpoint_text next) q) s.0.are; is_for = s.0.is_for }))
call_stakes odd cells Gate next has other s =
    for_pair odd (written 0 (1 ∷ []) cells) has (Some next) None (Some next) s.1.0 refl
    (leaves_opening odd (written 0 (1 ∷ []) cells) next (record { rest = s.0.rest; are = ap (λ (q : Cells). written 0 (1 ∷ []) q) s.0.are; is_for = s.0.is_for }))
call_stakes odd cells SyncClose next has other s = stakes odd cells SyncClose next has other s
call_stakes odd cells SyncFill next has other s = stakes odd cells SyncFill next has other s
call_stakes odd cells SyncGate next has other s = stakes odd cells SyncGate next has other s
call_stakes odd cells Empty next has other s = stakes odd cells Empty next has other s
call_stakes odd cells Torn next has other s = stakes odd cells Torn next has other s
call_stakes odd cells Shut next has other s = stakes odd cells Shut next has other s
call_stakes odd cells Full next has other s = stakes odd cells Full next has other s
call_stakes odd cells Counts next has other s = stakes odd cells Counts next has other s

pub fewer : (odd : Bool) (new old : Cells) (has other : Option Checkpoint) → Within new old → SlotLeaves odd old has other → SlotLeaves odd new has other
fewer odd new old has other within each c image = each c (within c image)
