-- Tidy books. Lawful entries need not be tidy, but a member keeps its book tidy. After the first entries of a log are dropped, the rest has
-- to be lawful still, and lawful entries alone do not ensure that. These rules are this project's own.
use Rattle.std.specs.Prelude.{◌≡◌, ℕ, ◌<◌, List, ◌∷◌, ◌++◌}
use Rattle.smart_statements.specs.declared.statement.Slot.{Slot}
use Rattle.vote_book.specs.declared.entry.LogEntry.{LogEntry}
use Rattle.vote_book.specs.declared.entry.LogEntry.TheVariants.{Opened, Wrote, Accepted, Promised, Synced, Decided, Installed, Marked}
use Rattle.vote_book.specs.declared.entry.Promise.{Promise}
use Rattle.vote_book.specs.declared.entry.Start.{Start}
use Rattle.vote_book.specs.Books.{Among, last_made, IsBelow}

abbrev pub promise_of : ℕ → ℕ → LogEntry
promise_of view regency = Promised (record { view = view; regency = regency })

-- the slot in which a regency begins
abbrev pub first_slot : Start → Slot
first_slot start = record { view = start.view; place = start.base; regency = start.regency }

-- a tidy vote: its place is above all places made before. In a regency after the first it stands after that regency's promise.
pub record IsTidyVote (before : List LogEntry) (slot : Slot) : Type 0 where
  pub above : last_made before < slot.place
  pub promised : 0 < slot.regency → Among (promise_of slot.view slot.regency) before

-- a tidy beginning: it stands after its own promise, before any greater one, and once
pub record IsTidyStart (before : List LogEntry) (start : Start) : Type 0 where
  pub promised : Among (promise_of start.view start.regency) before
  pub promises : (promise : Promise) → Among (Promised promise) before → IsBelow (first_slot start) promise → ⊥
  pub once : (other : Start) → Among (Synced other) before → other.view ≡ start.view → other.regency ≡ start.regency → ⊥

-- an entry that is tidy after others
abbrev pub IsTidyAfter : List LogEntry → LogEntry → Type 0
IsTidyAfter before (Opened o) = Unit {0}
IsTidyAfter before (Wrote w) = IsTidyVote before w.slot
IsTidyAfter before (Accepted a) = IsTidyVote before a.slot
IsTidyAfter before (Promised p) = Unit {0}
IsTidyAfter before (Synced s) = IsTidyStart before s
IsTidyAfter before (Decided d) = Unit {0}
IsTidyAfter before (Installed i) = Unit {0}
IsTidyAfter before (Marked m) = Unit {0}

-- entries of which each is tidy after those before it
abbrev pub IsTidy : List LogEntry → Type 0
IsTidy entries = (before : List LogEntry) (entry : LogEntry) (after : List LogEntry) → entries ≡ before ++ entry ∷ after → IsTidyAfter before entry
