-- What is promised of a node and its book, whatever comes to it.
use Rattle.std.specs.Prelude.{ℕ, ◌+◌, ◌≡◌, ◌≤◌, Bool, true, false, List, [], ◌∷◌, length, if◌then◌else◌, take, slice_get, is_some}
use Rattle.smart_statements.specs.declared.statement.Slot.{Slot}
use Rattle.smart_service.specs.Services.{Meaning}
use Rattle.vote_book.specs.Standing.{start_by}
use Rattle.vote_book.specs.Admission.{accepts_in}
use Rattle.vote_book.specs.declared.entry.LogEntry.{LogEntry}
use Rattle.vote_book.specs.declared.entry.LogEntry.TheVariants.{Opened, Wrote, Accepted, Promised, Synced, Decided, Installed, Marked}
use Rattle.replica_rules.specs.Replicas.{after_batches}
use Rattle.node_rules.specs.Nodes.{Node, decided_place}
use Rattle.smart_service.specs.declared.replica.Replica.{Replica}
use Rattle.node_rules.specs.Reopening.{decided_of}

-- the number of values that pass a test
abbrev pub passing : {A : Type 0} → (A → Bool) → List A → ℕ
passing p [] = 0
passing p (x ∷ xs) = (if p x then 1 else 0) + passing p xs

-- an entry tells that a regency of a view begins
abbrev pub begins : ℕ → ℕ → LogEntry → Bool
begins view regency entry = is_some (start_by view regency entry)

-- an entry tells that a replica was taken over
abbrev pub is_installation : LogEntry → Bool
is_installation (Opened o) = false
is_installation (Wrote w) = false
is_installation (Accepted a) = false
is_installation (Promised p) = false
is_installation (Synced s) = false
is_installation (Decided d) = false
is_installation (Installed i) = true
is_installation (Marked m) = false

-- entries that accept at most one batch in each slot
abbrev pub AcceptsOnce : List LogEntry → Type 0
AcceptsOnce entries = (slot : Slot) → passing (accepts_in slot) entries ≤ 1

-- A node whose replica is that of a base after its batches that are decided past the place of that base, in order. If the last one waits, the
-- replica lacks it.
pub record DeliversInOrder {S : Type 0} (m : Meaning S) (base : Replica S) (n : Node S) : Type 0 where
  pub count : ℕ
  pub place : n.replica.place ≡ base.place + count
  pub replica : n.replica ≡ after_batches m base (take count (decided_of base.place n.entries))
  pub waiting : n.waiting ≡ slice_get (decided_of base.place n.entries) count
  pub all : base.place + length (decided_of base.place n.entries) ≡ decided_place n
