-- A plan with the parts that came for it, and what comes of them.
use Rattle.std.specs.Prelude.{◌≡◌, ℕ, zero, suc, ◌+◌, ◌*◌, ◌-◌, ◌/◌, ◌==◌, nat_lt, nat_le, Bool, true, not, ◌&&◌, List, [], ◌∷◌, ◌++◌, length, map, find, if◌then◌else◌, Option, Some, None, Result, Ok, Err}
use Rattle.std.specs.List.{list_any}
use Rattle.smart_base.specs.Lists.{same_bytes, Each, Distinct}
use Rattle.smart_base.specs.declared.limits.TheConstants.{PIECE_BYTES}
use Rattle.smart_keys.specs.Keys.{digest}
use Rattle.smart_service.specs.Services.{Meaning}
use Rattle.smart_service.specs.declared.replica.Replica.{Replica}
use Rattle.snapshot_form.specs.Replicas.{FitsReplica}
use Rattle.snapshot_form.specs.Snapshots.{restored, snapshot_text}
use Rattle.transfer_form.specs.declared.transfer.StatePart.{StatePart}
use Rattle.state_transfer.specs.declared.choice.Plan.{Plan}
use Rattle.state_transfer.specs.declared.fetch.Fetch.{Fetch}
use Rattle.state_transfer.specs.declared.fetch.Ignored.{Ignored}
use Rattle.state_transfer.specs.declared.fetch.Ignored.TheVariants.{Unasked, Repeated}
use Rattle.state_transfer.specs.declared.fetch.Accepted as answers
use Rattle.state_transfer.specs.declared.fetch.Accepted.TheVariants as accepted
use Rattle.state_transfer.specs.declared.fetch.Spoiled.{Spoiled}
use Rattle.state_transfer.specs.declared.fetch.Spoiled.TheVariants.{Digest, Form}
use Rattle.state_transfer.specs.declared.fetch.FinishError.{FinishError}
use Rattle.state_transfer.specs.declared.fetch.FinishError.TheVariants as errors

-- ---- parts

-- how many pieces a snapshot of so many bytes has
abbrev pub pieces_of : ℕ → ℕ
pieces_of size = (size + (PIECE_BYTES - 1)) / PIECE_BYTES

-- the length of its piece of a number, if there is one
abbrev pub length_of : ℕ → ℕ → ℕ
length_of size index = if nat_lt (size - PIECE_BYTES * index) PIECE_BYTES then size - PIECE_BYTES * index else PIECE_BYTES

-- a part that a plan wants: of its place, and of as many bytes as that piece has
unfoldable pub is_wanted : Plan → StatePart → Bool
is_wanted plan part =
    (part.place == plan.place) && (part.total == pieces_of plan.size) && nat_lt part.index part.total
    && (length part.bytes == length_of plan.size part.index)

abbrev pub is_numbered : ℕ → StatePart → Bool
is_numbered index part = part.index == index

-- the reason to ignore a part: the plan does not want it, or it is there
unfoldable pub part_fault : Fetch → StatePart → Option Ignored
part_fault f part =
    if not (is_wanted f.plan part) then Some Unasked
    else if list_any (is_numbered part.index) f.parts then Some Repeated
    else None

-- a plan with one more part, unless that is ignored
abbrev pub kept_unless : Option Ignored → Fetch → StatePart → Fetch
kept_unless None f part = record { plan = f.plan; parts = f.parts ++ part ∷ [] }
kept_unless (Some why) f part = f

abbrev pub answer_of : Option Ignored → answers.Accepted
answer_of None = accepted.Kept
answer_of (Some why) = accepted.Ignored why

-- as many parts are there as the plan has
abbrev pub are_all_there : Fetch → Bool
are_all_there f = nat_le (pieces_of f.plan.size) (length f.parts)

abbrev pub numbers : List StatePart → List ℕ
numbers parts = map (λ part. part.index) parts

-- What was kept for a plan: parts that it wants, and no two of one number.
pub record KeepsWanted (f : Fetch) : Type 0 where
  pub wanted : Each (λ part. is_wanted f.plan part ≡ true) f.parts
  pub distinct : Distinct (numbers f.parts)

-- ---- the snapshot

-- the part of a number
abbrev pub part_at : List StatePart → ℕ → Option StatePart
part_at parts index = find (is_numbered index) parts

abbrev pub bytes_in : Option StatePart → List ℕ
bytes_in None = []
bytes_in (Some part) = part.bytes

-- the first parts by number, one after the other
abbrev pub joined : List StatePart → ℕ → List ℕ
joined parts zero = []
joined parts (suc n) = joined parts n ++ bytes_in (part_at parts n)

-- all parts of a plan, one after the other
unfoldable pub joined_of : Fetch → List ℕ
joined_of f = joined f.parts (pieces_of f.plan.size)

-- what all parts are joined to, if they are there
abbrev pub joined_if : Fetch → Option (List ℕ)
joined_if f = if are_all_there f then Some (joined_of f) else None

abbrev pub completed_unless : Option Ignored → Fetch → StatePart → Option (List ℕ)
completed_unless (Some why) f p = None
completed_unless None f p = joined_if (kept_unless None f p)

-- what the parts and one more are joined to, if the plan wants that one and then has all
unfoldable pub completed : Fetch → StatePart → Option (List ℕ)
completed f p = completed_unless (part_fault f p) f p

-- ---- the replica

-- a replica of a place; else the snapshot has another form
abbrev pub formed : {S : Type 0} → ℕ → Option (Replica S) → Result (Replica S) Spoiled
formed place None = Err Form
formed place (Some r) = if r.place == place then Ok r else Err Form

-- the replica whose snapshot bytes are, if they have the digest of the plan and are of its place
abbrev pub finished_by : {S : Type 0} → Meaning S → Plan → List ℕ → Result (Replica S) Spoiled
finished_by m plan bytes = if same_bytes (digest bytes) plan.digest then formed plan.place (restored m bytes) else Err (Digest (digest bytes))

-- what comes of a plan and its parts
unfoldable pub finished : {S : Type 0} → Meaning S → Fetch → Result (Replica S) Spoiled
finished m f = finished_by m f.plan (joined_of f)

-- What `finish` answers. Want of memory is allowed.
abbrev pub Finishes : {S : Type 0} → Result (Replica S) FinishError → Result (Replica S) Spoiled → Type 0
Finishes (Ok r) said = said ≡ Ok r
Finishes (Err errors.NoMemory) said = Unit {0}
Finishes (Err (errors.Spoiled why)) said = said ≡ Err why

-- The replica that a plan certifies: its snapshot is what was joined, has the plan's digest, and is of the plan's place.
pub record IsFinished {S : Type 0} (valid : S → Type 0) (m : Meaning S) (f : Fetch) (r : Replica S) : Type 0 where
  pub fits : FitsReplica valid r
  pub snapshot : joined_of f ≡ snapshot_text m r
  pub digest_is : digest (snapshot_text m r) ≡ f.plan.digest
  pub place_is : r.place ≡ f.plan.place
