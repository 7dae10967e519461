-- A restart that reads its parts one by one.
use Rattle.std.specs.Prelude.{ℕ, ◌≡◌, ◌+◌, List, length, Option, Some, None, option_map, Result}
use Rattle.smart_base.specs.Lists.{or_else}
use Rattle.smart_service.specs.Services.{Meaning}
use Rattle.vote_book.specs.Entries.{entry_decoded}
use Rattle.vote_book.specs.declared.entry.LogEntry.{LogEntry}
use Rattle.node_rules.specs.Steps.{Outset}
use Rattle.node_rules.specs.declared.node.OwnSnapshot.{OwnSnapshot}
use Rattle.node_restart.specs.Restarts.{Restart, taken, HasRead}

pub record Reopening (S : Type 0) : Type 0 where
  pub member : ℕ
  pub secret : List ℕ
  pub period : ℕ
  -- the snapshot of the checkpoint, if there is one
  pub checkpoint : Option OwnSnapshot
  -- what was given back so far; none once an entry was damaged, or memory was wanting
  pub restart : Option (Restart S)
  -- the number of the first damaged entry, from 1, if one was read
  pub damage : Option ℕ

-- what is given back with one more entry; none if the restart is lost, or the entry may not be restored there
abbrev pub taken_after : {S : Type 0} → Meaning S → List ℕ → Option (Restart S) → Result LogEntry ℕ → Option (Restart S)
taken_after m secret None read = None
taken_after m secret (Some r) read = taken m secret r read

-- the restart with one more entry
abbrev pub read_on : {S : Type 0} → Meaning S → Reopening S → List ℕ → Reopening S
read_on m r bytes = record r { restart = taken_after m r.secret r.restart (entry_decoded bytes) }

-- the number of the next entry, from 1
abbrev pub next_number : {S : Type 0} → Option (Restart S) → Option ℕ
next_number restart = option_map (λ r. length r.entries + 1) restart

-- An entry of this number is damaged: one that was read before, or else the next one. The latter may not be restored there.
abbrev pub IsDamaged : {S : Type 0} → Meaning S → Reopening S → List ℕ → ℕ → Type 0
IsDamaged m r bytes entry =
    (or_else r.damage (next_number r.restart) ≡ Some entry) × (r.damage ≡ None → taken_after m r.secret r.restart (entry_decoded bytes) ≡ None)

-- a restart from an outset, after it has read these entries in bytes, none of which is damaged
pub record IsAfter {S : Type 0} (m : Meaning S) (o : Outset S) (read : List (List ℕ)) (r : Reopening S) : Type 0 where
  pub member : r.member ≡ o.member
  pub secret : r.secret ≡ o.secret
  pub period : r.period ≡ o.period
  pub checkpoint : r.checkpoint ≡ o.checkpoint
  pub whole : r.damage ≡ None
  pub back : Restart S
  pub going : r.restart ≡ Some back
  pub has : HasRead m o.secret o.replica read back
