-- The test whether a book admits an entry.
use Rattle.std.specs.Prelude.{ℕ, ◌+◌, ◌-◌, ◌==◌, nat_le, nat_lt, Bool, true, false, not, ◌&&◌, ◌||◌, List, length, Option, None, Some}
use Rattle.std.specs.List.{list_any}
use Rattle.smart_base.specs.Lists.{same_bytes}
use Rattle.smart_statements.specs.Equality.{same_slot}
use Rattle.smart_statements.specs.declared.statement.Slot.{Slot}
use Rattle.vote_book.specs.declared.entry.LogEntry.{LogEntry}
use Rattle.vote_book.specs.declared.entry.LogEntry.TheVariants.{Opened, Wrote, Accepted, Promised, Synced, Decided, Installed, Marked}
use Rattle.vote_book.specs.declared.entry.Promise.{Promise}
use Rattle.vote_book.specs.declared.entry.Start.{Start}
use Rattle.vote_book.specs.Books.{Book, pushed, restored_of, place_made, latest_made, last_made}

-- ---- what an entry is to a later one

-- an entry that is a WRITE in a slot
abbrev pub writes_in : Slot → LogEntry → Bool
writes_in slot (Opened o) = false
writes_in slot (Wrote w) = same_slot w.slot slot
writes_in slot (Accepted a) = false
writes_in slot (Promised p) = false
writes_in slot (Synced s) = false
writes_in slot (Decided d) = false
writes_in slot (Installed i) = false
writes_in slot (Marked m) = false

-- an entry that is an ACCEPT in a slot
abbrev pub accepts_in : Slot → LogEntry → Bool
accepts_in slot (Opened o) = false
accepts_in slot (Wrote w) = false
accepts_in slot (Accepted a) = same_slot a.slot slot
accepts_in slot (Promised p) = false
accepts_in slot (Synced s) = false
accepts_in slot (Decided d) = false
accepts_in slot (Installed i) = false
accepts_in slot (Marked m) = false

abbrev pub is_number : ℕ → Option ℕ → Bool
is_number n None = false
is_number n (Some m) = m == n

-- an entry that makes a place
abbrev pub makes : ℕ → LogEntry → Bool
makes place e = is_number place (place_made e)

-- a slot below a promise: of an earlier view, or of its view and an earlier regency
abbrev pub is_below : Slot → Promise → Bool
is_below slot promise = nat_lt slot.view promise.view || (slot.view == promise.view && nat_lt slot.regency promise.regency)

-- an entry that is a promise which a vote in a slot would break
abbrev pub forbids : Slot → LogEntry → Bool
forbids slot (Opened o) = false
forbids slot (Wrote w) = false
forbids slot (Accepted a) = false
forbids slot (Promised p) = is_below slot p
forbids slot (Synced s) = false
forbids slot (Decided d) = false
forbids slot (Installed i) = false
forbids slot (Marked m) = false

-- a bound that allows a digest: there is none, or it is the digest
abbrev pub allows : Option (List ℕ) → List ℕ → Bool
allows None digest = true
allows (Some bound) digest = same_bytes digest bound

-- a beginning that lets a vote for a digest in a slot stand after it
abbrev pub lets : Slot → List ℕ → Start → Bool
lets slot digest start =
    start.view == slot.view && (start.regency == slot.regency && (nat_le start.base slot.place && (not (start.base == slot.place) || allows start.bound digest)))

-- an entry that is such a beginning
abbrev pub begins : Slot → List ℕ → LogEntry → Bool
begins slot digest (Opened o) = false
begins slot digest (Wrote w) = false
begins slot digest (Accepted a) = false
begins slot digest (Promised p) = false
begins slot digest (Synced s) = lets slot digest s
begins slot digest (Decided d) = false
begins slot digest (Installed i) = false
begins slot digest (Marked m) = false

-- ---- the test

-- the test of a vote
abbrev pub may_vote : List LogEntry → Slot → List ℕ → Bool
may_vote before slot digest =
    (nat_le slot.place 1 || list_any (makes (slot.place - 1)) before)
    && (not (list_any (forbids slot) before) && (slot.regency == 0 || list_any (begins slot digest) before))

-- the test of a decided place, by the latest one
abbrev pub follows : ℕ → Option ℕ → ℕ → Bool
follows opening None place = nat_le place (opening + 1)
follows opening (Some latest) place = place == latest + 1

-- a place above all that are made, by the latest and the greatest of them
abbrev pub is_above : Option ℕ → ℕ → ℕ → Bool
is_above None last place = true
is_above (Some latest) last place = nat_lt last place

-- the test of an installed place
abbrev pub may_install : ℕ → ℕ → List LogEntry → ℕ → Bool
may_install opening restored before place =
    is_above (latest_made before) (last_made before) place && (not (nat_lt (length before) restored) || nat_le place opening)

-- the test of an entry
abbrev pub admits : ℕ → ℕ → List LogEntry → LogEntry → Bool
admits opening restored before (Opened o) = true
admits opening restored before (Wrote w) = may_vote before w.slot w.digest && not (list_any (writes_in w.slot) before)
admits opening restored before (Accepted a) = may_vote before a.slot a.digest && not (list_any (accepts_in a.slot) before)
admits opening restored before (Promised p) = true
admits opening restored before (Synced s) = true
admits opening restored before (Decided d) = follows opening (latest_made before) d.slot.place
admits opening restored before (Installed i) = may_install opening restored before i.place
admits opening restored before (Marked m) = true

-- the test of an entry at the end of a book; the book with the entry counts what is restored
abbrev pub admits_next : Book → LogEntry → Bool
admits_next b e = admits b.opening (restored_of (pushed b e)) b.entries e
