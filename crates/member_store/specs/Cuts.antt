-- What a store that may switch has of all that its member has written, and what a crash leaves of it. What a member has written is one book. A
-- checkpoint stands for the book up to its place, and the log beside it is cut there.
use Rattle.std.specs.Prelude.{◌≡◌, ◌≤◌, ◌<◌, ℕ, ◌+◌, ◌-◌, Bool, true, false, cond, List, [], ◌∷◌, length, take, drop, map, Option, Some, None, IfSome}
use Rattle.smart_base.specs.Lists.{Each}
use Rattle.vote_book.specs.Entries.{entry_text}
use Rattle.vote_book.specs.Books.{HasMade}
use Rattle.vote_book.specs.declared.entry.LogEntry.{LogEntry}
use Rattle.book_laws.specs.BookCuts.{cut_at, until_installed, InstallUpTo}
use Rattle.store_form.specs.declared.checkpoint.Checkpoint.{Checkpoint}
use Rattle.store_laws.specs.Restored.{Images, restores, switched}
use Rattle.store_laws.specs.States.{StoreState, greatest, some, wants_tail, Begun, NoJob, Close, Repair, Switch, AddGroup, due_job, store_opened}
use Rattle.store_laws.specs.Stands.{Aim, IsOwn}
use Rattle.store_laws.specs.Firm.{not_firm}
use Rattle.store_laws.specs.Stakes.{Stakes}
use Rattle.store_laws.specs.Logs.{Logs, counted}
use Rattle.store_laws.specs.Asked.{IsOneOf, Snapshot, NextIn, Snapshots}
use Rattle.store_laws.specs.Stops.{is_installed}
use Rattle.store_laws.specs.declared.job.Kept.{Kept}
use Rattle.store_laws.specs.declared.job.Tail.{Tail}
use Rattle.store_laws.specs.declared.job.Ending.{Ending}
use Rattle.store_laws.specs.declared.job.Ending.TheVariants.{Closes, Repairs, Adds, Switches}
use Rattle.store_laws.specs.declared.job.StoreCall.{StoreCall}
use Rattle.durable_store.specs.BookRuns.{AreSound}
use Rattle.world_rules.specs.Crashes.{is_unclosed, written_book, still_aside}
use Rattle.world_rules.specs.Fronts.{stated_place, checkpoint_place}

-- ---- places

-- a snapshot of a replica after this place
abbrev pub StatesPlace : ℕ → List ℕ → Type 0
StatesPlace place snapshot = stated_place snapshot ≡ place

-- the place of a switch that waits; 0 if none does
abbrev pub asked_place : Option (List ℕ) → ℕ
asked_place None = 0
asked_place (Some snapshot) = stated_place snapshot

-- ---- torn gates

-- gates are closed while one is torn, and nothing else is done then
abbrev pub MendsBy : Ending → StoreState → Type 0
MendsBy (Closes odd) s = is_unclosed s ≡ true
MendsBy Repairs s = is_unclosed s ≡ true
MendsBy (Adds end) s = is_unclosed s ≡ false
MendsBy (Switches end last) s = is_unclosed s ≡ false

-- the same of a store whose job still makes these calls
abbrev pub MendsIn : List StoreCall → StoreState → Type 0
MendsIn [] s = Unit {0}
MendsIn (call ∷ left) s = MendsBy s.ending s

-- ---- installations

-- bytes of entries of which none installs a replica
abbrev pub InstallNothing : List (List ℕ) → Type 0
InstallNothing texts = Each (λ (text : List ℕ). is_installed text ≡ false) texts

-- groups that end before each entry that installs a replica
abbrev pub EndsAtInstalls : (List ℕ → Bool) → Type 0
EndsAtInstalls stops = (text : List ℕ) → stops text ≡ false → is_installed text ≡ false

-- ---- fronts

-- What is kept are so many first entries of a book, cut at the place of the checkpoint. They have made this place, and install no later one.
pub record IsFrontOf (kept : Kept) (book : List LogEntry) (count : ℕ) : Type 0 where
  pub few : count ≤ length book
  pub made : 0 < checkpoint_place kept.present → HasMade (take count book) (checkpoint_place kept.present)
  pub upto : InstallUpTo (checkpoint_place kept.present) (take count book)
  pub entries : kept.entries ≡ map entry_text (cut_at (checkpoint_place kept.present) (take count book))

-- A torn gate may bring this back: a front of the book of an earlier life, no shorter than what is kept. What is kept is a front of both books.
pub record BringsBack (count : ℕ) (book aside : List LogEntry) (other : Kept) : Type 0 where
  pub same : take count aside ≡ take count book
  pub more : ℕ
  pub longer : count ≤ more
  pub other_is : IsFrontOf other aside more

-- The tail of a running switch: with its checkpoint it is a front of the book, up to the entry of the number that the tail has.
pub record IsTailOf (firm restored past : ℕ) (book : List LogEntry) (next : Checkpoint) (tail : Tail) : Type 0 where
  pub high : firm ≤ restored + tail.made
  pub front : IsFrontOf (switched next tail.entries) book ((restored + tail.made) + past)

-- ---- a store and its book

-- A store holds a book: a front of it is kept, and the rest is added or waits. The store counts `past` entries less than the book has: cuts
-- of earlier lives have left as many out. `place` is that of the checkpoint of the running switch. The checkpoint that is kept is of no place
-- past `top`. A running group installs nothing. `aside` is the book of the life that wrote past a gate which a crash left torn. Each snapshot
-- is one of `all`.
pub record HoldsWritten (all : List (List ℕ)) (s : StoreState) (past top place : ℕ) (book aside : List LogEntry) : Type 0 where
  pub aim : Aim
  pub written : Option Tail
  pub own : IsOwn s aim
  pub logs : Logs written s aim
  pub stakes : Stakes s aim
  pub snapshots : Snapshots (IsOneOf all) s aim
  pub mends : MendsIn s.running s
  pub kept : IsFrontOf aim.kept book (s.firm + past)
  pub low : checkpoint_place aim.kept.present ≤ top
  pub adds : InstallNothing s.adding
  pub rest : not_firm s ≡ map entry_text (drop (s.firm + past) book)
  pub tail : IfSome written (λ (t : Tail). IsTailOf s.firm s.restored past book aim.next t)
  pub next : NextIn (StatesPlace place) s.running s.ending aim.next
  pub sound : AreSound s.devices
  pub few : length book ≤ greatest
  pub few_aside : length aside ≤ greatest
  pub back : is_unclosed s ≡ true → BringsBack (s.firm + past) book aside aim.stake
  pub gated : is_unclosed s ≡ true → BringsBack (s.firm + past) book aside aim.gated

-- Bytes that a crash leaves of a store. They restore a front of one book, with all that is firm. They open as a store that holds this front.
pub record LeavesFront (all : List (List ℕ)) (s : StoreState) (past : ℕ) (book aside : List LogEntry) (left : Images) : Type 0 where
  pub count : ℕ
  pub checkpoint : Snapshot (IsOneOf all) (restores left)
  pub front : IsFrontOf (restores left) (written_book s book aside) count
  pub firm : s.firm + past ≤ count
  pub same : take (s.firm + past) (written_book s book aside) ≡ take (s.firm + past) book
  pub shorter : length (restores left).entries ≤ count
  pub holds : (place : ℕ) → HoldsWritten all (store_opened left) (count - length (restores left).entries) (checkpoint_place (restores left).present) place
      (take count (written_book s book aside)) (still_aside (store_opened left) (written_book s book aside))

-- ---- the next call

-- the place of the switch that runs, once this job has begun
abbrev pub place_by : Begun → ℕ → ℕ
place_by NoJob place = place
place_by (Close odd) place = place
place_by Repair place = place
place_by (Switch snapshot) place = stated_place snapshot
place_by (AddGroup group) place = place

-- the same after the next device call
abbrev pub place_then : (List ℕ → Bool) → StoreState → ℕ → ℕ
place_then stops s place = cond (some s.running) place (place_by (due_job stops s) place)

-- A tail is the cut, at a place, of the book's front up to the first entry that installs a later place. That front has made the place, and all
-- that is firm. As many entries are behind its last one as the store counts past the tail.
pub record IsWholeTail (s : StoreState) (place : ℕ) (book : List LogEntry) (tail : Tail) : Type 0 where
  pub number : (s.restored + tail.made) + (length book - length (until_installed place book)) ≡ counted s
  pub high : s.firm ≤ s.restored + tail.made
  pub made : 0 < place → HasMade (until_installed place book) place
  pub entries : tail.entries ≡ map entry_text (cut_at place (until_installed place book))

-- the tail is right, if the next call writes it
abbrev pub GivesTail : StoreState → ℕ → List LogEntry → Tail → Type 0
GivesTail s place book tail = wants_tail s ≡ true → IsWholeTail s place book tail
