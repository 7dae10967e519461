-- A call goes well: how the slot stands then.
use Rattle.std.proofs.Common.{◌≡◌, ℕ, ◌+◌, Bool, List, [], ◌∷◌, length, drop, Option, refl, sym, ◌∙◌, ap, subst}
use Rattle.disk_model.specs.Cells.{Cells, settled, written}
use Rattle.store_form.specs.Spelling.{checkpoint_text}
use Rattle.store_form.specs.declared.checkpoint.Checkpoint.{Checkpoint}
use Rattle.checkpoint_store.specs.declared.job.SlotJob.{SlotJob}
use Rattle.checkpoint_store.specs.declared.job.SlotJob.TheVariants.{Empty, Torn, Shut, Close, SyncClose, Fill, SyncFill, Full, Gate, SyncGate, Counts}
use Rattle.checkpoint_store.specs.SlotJobs.{IsShut, ToClose, Closing, ToFill, Filling, IsFull, Opening, SlotStands, has_after, other_after, job_after}
use Rattle.checkpoint_store.specs.Exact.{cells_called}
use Rattle.checkpoint_store.proofs.Phases.{gate_goes}

wrote_zero : (odd : Bool) (cells new : Cells) (other : Option Checkpoint) → ToClose odd cells other → new ≡ written 0 (0 ∷ []) cells → Closing odd new other
wrote_zero odd cells new other s is = record { bytes = s.bytes; are = is ∙ ap (λ (q : Cells). written 0 (0 ∷ []) q) s.are; is = s.is }

synced_zero : (odd : Bool) (cells new : Cells) (other : Option Checkpoint) → Closing odd cells other → new ≡ settled cells.now → IsShut new
synced_zero odd cells new other s is = record { rest = drop 1 s.bytes; are = is ∙ ap (λ (q : Cells). settled q.now) s.are }

filled : (odd : Bool) (cells new : Cells) (bytes : List ℕ) (next : Checkpoint) → ToFill odd cells bytes next → new ≡ written 1 bytes cells → Filling odd new next
filled odd cells new bytes next s is = record {
  rest = s.rest;
  are = is ∙ ap (λ (b : List ℕ). written 1 b cells) s.bytes_are ∙ ap (λ (q : Cells). written 1 (checkpoint_text next) q) s.are;
  is_for = s.is_for;
}

synced_fill : (odd : Bool) (cells new : Cells) (next : Checkpoint) → Filling odd cells next → new ≡ settled cells.now → IsFull odd new next
synced_fill odd cells new next s is = record {
  rest = drop (1 + length (checkpoint_text next)) (0 ∷ s.rest);
  are = is ∙ ap (λ (q : Cells). settled q.now) s.are;
  is_for = s.is_for;
}

wrote_gate : (odd : Bool) (cells new : Cells) (next : Checkpoint) → IsFull odd cells next → new ≡ written 0 (1 ∷ []) cells → Opening odd new next
wrote_gate odd cells new next s is = record { rest = s.rest; are = is ∙ ap (λ (q : Cells). written 0 (1 ∷ []) q) s.are; is_for = s.is_for }

pub called_goes : (odd : Bool) (cells new : Cells) (job : SlotJob) (next : Checkpoint) (has other : Option Checkpoint) → new ≡ cells_called job cells
    → SlotStands odd cells job next has other → SlotStands odd new (job_after job) next (has_after job next has) (other_after job next has other)
called_goes odd cells new Close next has other is s = (wrote_zero odd cells new other s.0 is, s.1)
called_goes odd cells new SyncClose next has other is s = (synced_zero odd cells new other s.0 is, (s.1, s.1))
called_goes odd cells new (Fill bytes) next has other is s = (filled odd cells new bytes next s.0 is, s.1)
called_goes odd cells new SyncFill next has other is s = (synced_fill odd cells new next s.0 is, s.1)
called_goes odd cells new Gate next has other is s = (wrote_gate odd cells new next s.0 is, (s.1.0, refl))
called_goes odd cells new SyncGate next has other is s = gate_goes odd cells new SyncGate next has other refl is s
called_goes odd cells new Empty next has other is s = subst (λ (c : Cells). SlotStands odd c Empty next has other) (sym is) s
called_goes odd cells new Torn next has other is s = subst (λ (c : Cells). SlotStands odd c Torn next has other) (sym is) s
called_goes odd cells new Shut next has other is s = subst (λ (c : Cells). SlotStands odd c Shut next has other) (sym is) s
called_goes odd cells new Full next has other is s = subst (λ (c : Cells). SlotStands odd c Full next has other) (sym is) s
called_goes odd cells new Counts next has other is s = subst (λ (c : Cells). SlotStands odd c Counts next has other) (sym is) s
