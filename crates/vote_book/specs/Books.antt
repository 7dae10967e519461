-- A member's book: its entries, oldest first, and which entry it admits at its end. A rule without another source is this project's own.
use Rattle.std.specs.Prelude.{◌≡◌, ℕ, ◌+◌, ◌-◌, ◌<◌, ◌≤◌, ◌⊎◌, max, List, [], ◌∷◌, ◌++◌, length, Option, None, Some}
use Rattle.smart_base.specs.Lists.{or_else}
use Rattle.smart_statements.specs.declared.statement.Slot.{Slot}
use Rattle.vote_book.specs.declared.entry.LogEntry.{LogEntry}
use Rattle.vote_book.specs.declared.entry.LogEntry.TheVariants.{Opened, Wrote, Accepted, Promised, Synced, Decided, Installed, Marked}
use Rattle.vote_book.specs.declared.entry.Write.{Write}
use Rattle.vote_book.specs.declared.entry.Accept.{Accept}
use Rattle.vote_book.specs.declared.entry.Promise.{Promise}
use Rattle.vote_book.specs.declared.entry.Start.{Start}

-- ---- books

-- A book. It has the place of the replica that it began with, and its entries. It also has the number of restored entries, after the last
-- of these is there.
pub record Book : Type 0 where
  pub opening : ℕ
  pub restored : Option ℕ
  pub entries : List LogEntry

-- a book without entries
abbrev pub begun : ℕ → Book
begun place = record { opening = place; restored = None; entries = [] }

-- a book with one more entry
abbrev pub pushed : Book → LogEntry → Book
pushed b e = record { opening = b.opening; restored = b.restored; entries = b.entries ++ e ∷ [] }

-- a book of which no later entry is restored
abbrev pub ended : Book → Book
ended b = record { opening = b.opening; restored = or_else b.restored (Some (length b.entries)); entries = b.entries }

abbrev pub number_or : Option ℕ → ℕ → ℕ
number_or None n = n
number_or (Some m) n = m

-- the number of restored entries in a book
abbrev pub restored_of : Book → ℕ
restored_of b = number_or b.restored (length b.entries)

-- ---- what entries make

-- the place that an entry makes: it decides that place, or takes the replica over after it
abbrev pub place_made : LogEntry → Option ℕ
place_made (Decided d) = Some d.slot.place
place_made (Installed i) = Some i.place
place_made (Opened o) = None
place_made (Wrote w) = None
place_made (Accepted a) = None
place_made (Promised p) = None
place_made (Synced s) = None
place_made (Marked m) = None

-- the place that the last entry makes that makes one
abbrev pub latest_made : List LogEntry → Option ℕ
latest_made [] = None
latest_made (e ∷ es) = or_else (latest_made es) (place_made e)

-- the greatest place that entries make; 0 if they make none
abbrev pub last_made : List LogEntry → ℕ
last_made [] = 0
last_made (e ∷ es) = max (number_or (place_made e) 0) (last_made es)

-- ---- which entries may stand behind others

-- a value among those of a list
abbrev pub Among : {A : Type 0} → A → List A → Type 0
Among x [] = ⊥
Among x (y ∷ ys) = (x ≡ y) ⊎ Among x ys

-- entries of which one makes a place
pub record HasMade (before : List LogEntry) (place : ℕ) : Type 0 where
  pub entry : LogEntry
  pub there : Among entry before
  pub made : place_made entry ≡ Some place

-- a slot below a promise: of an earlier view, or of its view and an earlier regency
abbrev pub IsBelow : Slot → Promise → Type 0
IsBelow slot promise = (slot.view < promise.view) ⊎ ((slot.view ≡ promise.view) × (slot.regency < promise.regency))

-- a bound that allows a digest: there is none, or it is the digest
abbrev pub Allows : Option (List ℕ) → List ℕ → Type 0
Allows None digest = Unit {0}
Allows (Some bound) digest = digest ≡ bound

-- entries by which a slot's regency has begun, at the slot's place or an earlier one. If it began at this place, its bound allows the
-- digest.
pub record HasBegun (before : List LogEntry) (slot : Slot) (digest : List ℕ) : Type 0 where
  pub start : Start
  pub there : Among (Synced start) before
  pub view : start.view ≡ slot.view
  pub regency : start.regency ≡ slot.regency
  pub reached : start.base ≤ slot.place
  pub kept : start.base ≡ slot.place → Allows start.bound digest

-- A vote that may stand after entries. The place before it is made, as a member takes part in one instance after the other (Mod-SMaRt, EDCC
-- 2012). It breaks no promise. Its regency has begun.
pub record MayVote (before : List LogEntry) (slot : Slot) (digest : List ℕ) : Type 0 where
  pub in_turn : 1 < slot.place → HasMade before (slot.place - 1)
  pub promises : (promise : Promise) → Among (Promised promise) before → IsBelow slot promise → ⊥
  pub synced : 0 < slot.regency → HasBegun before slot digest

-- a WRITE that may stand after entries: the first in its slot
pub record MayWrite (before : List LogEntry) (write : Write) : Type 0 where
  pub vote : MayVote before write.slot write.digest
  pub first : (other : Write) → Among (Wrote other) before → other.slot ≡ write.slot → ⊥

-- an ACCEPT that may stand after entries: the first in its slot
pub record MayAccept (before : List LogEntry) (accept : Accept) : Type 0 where
  pub vote : MayVote before accept.slot accept.digest
  pub first : (other : Accept) → Among (Accepted other) before → other.slot ≡ accept.slot → ⊥

-- a place that may be decided after the latest one: the next. The first may be at most one above the opening's place.
abbrev pub Follows : ℕ → Option ℕ → ℕ → Type 0
Follows opening None place = place ≤ opening + 1
Follows opening (Some latest) place = place ≡ latest + 1

-- a place that may be installed after entries: above each place made. If the entry is restored, it is not above the opening's place.
pub record MayInstall (opening restored : ℕ) (before : List LogEntry) (place : ℕ) : Type 0 where
  pub above : (made : ℕ) → HasMade before made → made < place
  pub within : length before < restored → place ≤ opening

-- An entry that may stand after others in a book with this opening's place and so many restored entries. Certificates, batches and digests
-- are judged elsewhere.
abbrev pub Admits : ℕ → ℕ → List LogEntry → LogEntry → Type 0
Admits opening restored before (Opened o) = Unit {0}
Admits opening restored before (Wrote w) = MayWrite before w
Admits opening restored before (Accepted a) = MayAccept before a
Admits opening restored before (Promised p) = Unit {0}
Admits opening restored before (Synced s) = Unit {0}
Admits opening restored before (Decided d) = Follows opening (latest_made before) d.slot.place
Admits opening restored before (Installed i) = MayInstall opening restored before i.place
Admits opening restored before (Marked m) = Unit {0}

-- entries of which each may stand after those before it
abbrev pub Lawful : ℕ → ℕ → List LogEntry → Type 0
Lawful opening restored entries =
    (before : List LogEntry) (entry : LogEntry) (after : List LogEntry) → entries ≡ before ++ entry ∷ after → Admits opening restored before entry

abbrev pub IsLawful : Book → Type 0
IsLawful b = Lawful b.opening (restored_of b) b.entries
