-- What restored entries give a node at a restart, one by one: its replica and its book.
use Rattle.std.specs.Prelude.{ℕ, ◌≡◌, ◌+◌, max, nat_lt, Bool, true, false, ◌&&◌, List, [], ◌∷◌, ◌++◌, length, Option, Some, None, Result, Ok, Err, if◌then◌else◌}
use Rattle.smart_base.specs.Views.{View}
use Rattle.smart_statements.specs.Batches.{Batch, FitsBatch}
use Rattle.smart_service.specs.Services.{Meaning}
use Rattle.smart_service.specs.declared.replica.Replica.{Replica}
use Rattle.vote_book.specs.Books.{Book, number_or, place_made, latest_made, last_made, Among}
use Rattle.vote_book.specs.declared.entry.Accept.{Accept}
use Rattle.vote_book.specs.declared.entry.LogEntry.{LogEntry}
use Rattle.vote_book.specs.declared.entry.LogEntry.TheVariants.{Opened, Wrote, Accepted, Promised, Synced, Decided, Installed, Marked}
use Rattle.vote_book.specs.Admission.{admits}
use Rattle.replica_rules.specs.Replicas.{after_batches, managed_of}
use Rattle.replica_rules.specs.Seals.{digest_of, fits}
use Rattle.node_rules.specs.Arrivals.{is_batch_for}
use Rattle.node_rules.specs.Reopening.{decided_of, opens_first, rests, damaged, entries_in}

-- the digest of a batch, if the batch may stand at a place
abbrev pub named_for : List ℕ → ℕ → Batch → Option (List ℕ)
named_for secret place batch = if fits secret batch place then Some (digest_of batch) else None

-- The replica after a restart has read one more entry, by the place of the replica with which it began. A batch that is decided past that place is
-- delivered.
abbrev pub replayed : {S : Type 0} → Meaning S → ℕ → Replica S → LogEntry → Replica S
replayed m past r e = after_batches m r (decided_of past (e ∷ []))

abbrev pub all_replayed : {S : Type 0} → Meaning S → ℕ → Replica S → List LogEntry → Replica S
all_replayed m past r [] = r
all_replayed m past r (e ∷ es) = all_replayed m past (replayed m past r e) es

-- what a restart has given back so far
pub record Restart (S : Type 0) : Type 0 where
  -- the place of the replica with which it began
  pub past : ℕ
  pub replica : Replica S
  pub entries : List LogEntry

abbrev pub begun : {S : Type 0} → Replica S → Restart S
begun r = record { past = r.place; replica = r; entries = [] }

abbrev pub took : {S : Type 0} → Meaning S → Restart S → LogEntry → Restart S
took m r e = record { past = r.past; replica = replayed m r.past r.replica e; entries = r.entries ++ e ∷ [] }

-- an entry that may be taken back after others, by the views that the replica knows then
abbrev pub may_take : List ℕ → List View → ℕ → List LogEntry → LogEntry → Bool
may_take secret views past entries e = opens_first entries e && admits past (length entries + 1) entries e && rests secret views e

-- what a restart gives back with one more entry; none if no entry was read, or it may not be taken back there
abbrev pub taken : {S : Type 0} → Meaning S → List ℕ → Restart S → Result LogEntry ℕ → Option (Restart S)
taken m secret r (Err at) = None
taken m secret r (Ok e) = if may_take secret r.replica.views r.past r.entries e then Some (took m r e) else None

-- ---- the accepts among what is taken back

-- an accept whose batch has bytes, may stand at its place, and has the digest of the accept
pub record IsSound (secret : List ℕ) (a : Accept) : Type 0 where
  pub fits : FitsBatch a.batch
  pub stands : is_batch_for secret a.slot.place a.digest a.batch ≡ true

abbrev pub AreSound : List ℕ → List LogEntry → Type 0
AreSound secret entries = (a : Accept) → Among (Accepted a) entries → IsSound secret a

-- ---- all that was read

-- a restart from a replica, once it has read these bytes: none is damaged, and it gives back what they are
pub record HasRead {S : Type 0} (m : Meaning S) (secret : List ℕ) (first : Replica S) (read : List (List ℕ)) (r : Restart S) : Type 0 where
  pub past : r.past ≡ first.place
  pub whole : damaged secret first.place (managed_of first) read ≡ None
  pub entries : r.entries ≡ entries_in read
  pub replica : r.replica ≡ all_replayed m first.place first r.entries

-- ---- where the replica stands

-- the place after a restart has read one more entry; the first place is that of the replica with which it began
abbrev pub place_behind : ℕ → ℕ → LogEntry → ℕ
place_behind past place (Opened o) = place
place_behind past place (Wrote w) = place
place_behind past place (Accepted a) = place
place_behind past place (Promised p) = place
place_behind past place (Synced s) = place
place_behind past place (Decided d) = if nat_lt past d.slot.place then place + 1 else place
place_behind past place (Installed i) = place
place_behind past place (Marked k) = place

-- the place of a replica by what an entry makes: that place, or the one with which the restart began if that is later
abbrev pub place_by : ℕ → ℕ → Option ℕ → ℕ
place_by past place None = place
place_by past place (Some made) = max past made

-- An entry that makes no place, or the one at which the replica then is. A place up to the one with which the restart began moves no replica.
abbrev pub IsInTurn : ℕ → ℕ → LogEntry → Type 0
IsInTurn past place e = place_by past place (place_made e) ≡ place_behind past place e

-- a replica and the book that it was restored from, by the place of the replica with which the restart began
pub record IsReplayed {S : Type 0} (past : ℕ) (replica : Replica S) (spent : Bool) (book : Book) : Type 0 where
  pub whole : spent ≡ false
  pub opening : book.opening ≡ past
  pub restored : book.restored ≡ None
  -- the replica is at the last place that is made, or at the first replica's if that is later
  pub latest : max past (number_or (latest_made book.entries) 0) ≡ replica.place
  pub last : max past (last_made book.entries) ≡ replica.place
