-- A slot on which no job runs.
use Rattle.std.proofs.Common.{◌≡◌, ℕ, Bool, true, List, [], ◌∷◌, ◌++◌, Option, Some, None, refl, sym, ◌∙◌, ap, subst, arith}
use Rattle.disk_model.specs.Cells.{Cells, IsImage, settled}
use Rattle.disk_model.proofs.Images.{image_settled}
use Rattle.store_form.specs.Spelling.{checkpoint_text}
use Rattle.store_form.specs.declared.checkpoint.Checkpoint.{Checkpoint}
use Rattle.checkpoint_store.specs.Slots.{is_odd, by_gate, InEachImage, IsClosed, IsReady}
use Rattle.checkpoint_store.specs.declared.job.SlotJob.{SlotJob}
use Rattle.checkpoint_store.specs.declared.job.SlotJob.TheVariants.{Empty, Torn, Shut, Close, SyncClose, Fill, SyncFill, Full, Gate, SyncGate, Counts}
use Rattle.checkpoint_store.specs.SlotJobs.{IsTorn, IsCounted, IsFull, SlotStands, SlotLeaves, IsIdle, shut}
use Rattle.checkpoint_store.proofs.SlotBytes.{slot_again, alone, as_it_is}

of_settled : (cells : Cells) (bytes : List ℕ) → cells ≡ settled bytes → cells ≡ settled cells.now
of_settled cells bytes are = are ∙ ap (λ (q : Cells). settled q.now) (sym are)

pub idle_settled : (odd : Bool) (cells : Cells) (job : SlotJob) (next : Checkpoint) (has other : Option Checkpoint) → IsIdle job → SlotStands odd cells job next has other → cells ≡ settled cells.now
idle_settled odd cells Empty next has other is s = of_settled cells [] s.0
idle_settled odd cells Torn next has other is s = of_settled cells (s.0.gate ∷ s.0.rest) s.0.are
idle_settled odd cells Shut next has other is s = of_settled cells (0 ∷ s.0.rest) s.0.are
idle_settled odd cells Full next has other is s = of_settled cells (0 ∷ (checkpoint_text next ++ s.0.rest)) s.0.are
idle_settled odd cells Counts next has other is s = of_settled cells (1 ∷ s.0.rest) s.0.are
idle_settled odd cells Close next has other is s = absurd cc
idle_settled odd cells SyncClose next has other is s = absurd cc
idle_settled odd cells (Fill bytes) next has other is s = absurd cc
idle_settled odd cells SyncFill next has other is s = absurd cc
idle_settled odd cells Gate next has other is s = absurd cc
idle_settled odd cells SyncGate next has other is s = absurd cc

-- ---- what a gate of 1 gives

gives : (odd : Bool) (cells : Cells) (bytes : List ℕ) → cells ≡ settled bytes → by_gate odd cells.now ≡ by_gate odd bytes
gives odd cells bytes are = ap (λ (q : Cells). by_gate odd q.now) are

pub full_gives : (odd : Bool) (cells : Cells) (next : Checkpoint) → IsFull odd cells next → by_gate odd cells.now ≡ Some next
full_gives odd cells next s = gives odd cells (0 ∷ (checkpoint_text next ++ s.rest)) s.are ∙ slot_again odd next s.rest s.is_for

pub empty_gives : (odd : Bool) (cells : Cells) → cells ≡ settled [] → by_gate odd cells.now ≡ None
empty_gives odd cells are = gives odd cells [] are ∙ alone odd

-- a crash leaves what it has, and no third by a gate
pub idle_gate : (odd : Bool) (cells : Cells) → cells ≡ settled cells.now → SlotLeaves odd cells None (by_gate odd cells.now)
idle_gate odd cells sure c image =
    let same : c ≡ cells.now = image_settled cells.now c (subst (λ (q : Cells). IsImage q c) sure image) in
    rw (same) (as_it_is odd cells.now)

-- ---- what may be filled and opened

itself : (bytes : List ℕ) → IsImage (settled bytes) bytes
itself bytes = record { no_shorter = omega arith; no_longer = omega arith; same = λ i lt none. refl }

reads : (cells : Cells) (bytes : List ℕ) → cells ≡ settled bytes → (c : List ℕ) → IsImage cells c → c ≡ bytes
reads cells bytes are c image = image_settled bytes c (subst (λ (q : Cells). IsImage q c) are image)

shut_closed : (cells : Cells) (rest : List ℕ) → cells ≡ settled (0 ∷ rest) → InEachImage cells IsClosed
shut_closed cells rest are c image = record { rest = rest; are = reads cells (0 ∷ rest) are c image }

pub may_fill : (odd : Bool) (cells : Cells) (job : SlotJob) (next : Checkpoint) (has other : Option Checkpoint) → shut job ≡ true → SlotStands odd cells job next has other → InEachImage cells IsClosed
may_fill odd cells Shut next has other is s = shut_closed cells s.0.rest s.0.are
may_fill odd cells Full next has other is s = shut_closed cells (checkpoint_text next ++ s.0.rest) s.0.are
may_fill odd cells Empty next has other is s = absurd cc
may_fill odd cells Torn next has other is s = absurd cc
may_fill odd cells Counts next has other is s = absurd cc
may_fill odd cells Close next has other is s = absurd cc
may_fill odd cells SyncClose next has other is s = absurd cc
may_fill odd cells (Fill bytes) next has other is s = absurd cc
may_fill odd cells SyncFill next has other is s = absurd cc
may_fill odd cells Gate next has other is s = absurd cc
may_fill odd cells SyncGate next has other is s = absurd cc

pub may_open : (odd : Bool) (cells : Cells) (next : Checkpoint) → IsFull odd cells next → InEachImage cells (IsReady next.generation)
may_open odd cells next s c image = record { checkpoint = next; of = refl; fits = s.is_for.fits; rest = s.rest; are = reads cells (0 ∷ (checkpoint_text next ++ s.rest)) s.are c image }

-- and the other way round: a slot that is ready is full
pub ready_full : (generation : ℕ) (cells : Cells) → cells ≡ settled cells.now → InEachImage cells (IsReady generation) → (q : Checkpoint) × (IsFull (is_odd generation) cells q × (q.generation ≡ generation))
ready_full generation cells sure ready =
    let r = ready cells.now (subst (λ (q : Cells). IsImage q cells.now) (sym sure) (itself cells.now)) in (
      r.checkpoint,
      (record { rest = r.rest; are = sure ∙ ap settled r.are; is_for = record { fits = r.fits; uses = ap is_odd r.of } }, r.of),
    )

-- a closed gate gives nothing
first_byte : (bytes : List ℕ) (x : ℕ) (rest : List ℕ) → bytes ≡ x ∷ rest → IsClosed bytes → x ≡ 0
first_byte bytes x rest is closed = let both : x ∷ rest ≡ 0 ∷ closed.rest = sym is ∙ closed.are in cc

closed_now : (cells : Cells) (bytes : List ℕ) → cells ≡ settled bytes → InEachImage cells IsClosed → IsClosed bytes
closed_now cells bytes are closed = closed bytes (subst (λ (q : Cells). IsImage q bytes) (sym are) (itself bytes))

pub closed_nothing : (odd : Bool) (cells : Cells) (job : SlotJob) (next : Checkpoint) (has other : Option Checkpoint) → IsIdle job → SlotStands odd cells job next has other → InEachImage cells IsClosed → (has ≡ None) × (other ≡ None)
closed_nothing odd cells Empty next has other is s closed = s.1
closed_nothing odd cells Shut next has other is s closed = s.1
closed_nothing odd cells Full next has other is s closed = s.1
closed_nothing odd cells Torn next has other is s closed = absurd (s.0.torn (first_byte (s.0.gate ∷ s.0.rest) s.0.gate s.0.rest refl (closed_now cells (s.0.gate ∷ s.0.rest) s.0.are closed)))
closed_nothing odd cells Counts next has other is s closed = let one : 1 ≡ 0 = first_byte (1 ∷ s.0.rest) 1 s.0.rest refl (closed_now cells (1 ∷ s.0.rest) s.0.are closed) in absurd (omega (arith, one))
closed_nothing odd cells Close next has other is s closed = absurd cc
closed_nothing odd cells SyncClose next has other is s closed = absurd cc
closed_nothing odd cells (Fill bytes) next has other is s closed = absurd cc
closed_nothing odd cells SyncFill next has other is s closed = absurd cc
closed_nothing odd cells Gate next has other is s closed = absurd cc
closed_nothing odd cells SyncGate next has other is s closed = absurd cc
