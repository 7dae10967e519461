-- What is kept of a member's entries once its store has a checkpoint. That a checkpoint stands for the log before it is Dura-SMaRt's (USENIX
-- ATC 2013). What is kept beside it is this project's own rule.
use Rattle.std.specs.Prelude.{ℕ, ◌<◌, ◌≤◌, nat_lt, Bool, false, ◌&&◌, List, [], ◌∷◌, ◌++◌, Option, None, Some, if◌then◌else◌}
use Rattle.std.specs.List.{list_any}
use Rattle.smart_base.specs.Lists.{or_else}
use Rattle.vote_book.specs.declared.entry.LogEntry.{LogEntry}
use Rattle.vote_book.specs.declared.entry.LogEntry.TheVariants.{Opened, Wrote, Accepted, Promised, Synced, Decided, Installed, Marked}
use Rattle.vote_book.specs.declared.entry.Opening.{Opening}
use Rattle.vote_book.specs.declared.entry.Promise.{Promise}
use Rattle.vote_book.specs.declared.entry.Start.{Start}
use Rattle.vote_book.specs.declared.entry.Installation.{Installation}
use Rattle.vote_book.specs.Books.{Among}
use Rattle.vote_book.specs.Admission.{makes}
use Rattle.vote_book.specs.BookIndex.{is_kept_with}
use Rattle.vote_book.specs.Standing.{first_start}

-- ---- openings and promises

-- the opening that an entry is, if it is one
abbrev pub opening_by : LogEntry → Option Opening
opening_by (Opened o) = Some o
opening_by (Wrote w) = None
opening_by (Accepted a) = None
opening_by (Promised p) = None
opening_by (Synced s) = None
opening_by (Decided d) = None
opening_by (Installed i) = None
opening_by (Marked m) = None

-- the first opening among entries
abbrev pub first_opening : List LogEntry → Option Opening
first_opening [] = None
first_opening (e ∷ es) = or_else (opening_by e) (first_opening es)

-- the promise that an entry is, if it is one
abbrev pub promise_by : LogEntry → Option Promise
promise_by (Promised p) = Some p
promise_by (Opened o) = None
promise_by (Wrote w) = None
promise_by (Accepted a) = None
promise_by (Synced s) = None
promise_by (Decided d) = None
promise_by (Installed i) = None
promise_by (Marked m) = None

-- the greater of two promises: that of the later view, or in one view that of the later regency; of equals the first
abbrev pub greater_promise : Option Promise → Option Promise → Option Promise
greater_promise None right = right
greater_promise (Some a) None = Some a
greater_promise (Some a) (Some b) = if is_kept_with b a then Some a else Some b

-- the greatest promise among entries
abbrev pub greatest_promise : List LogEntry → Option Promise
greatest_promise [] = None
greatest_promise (e ∷ es) = greater_promise (promise_by e) (greatest_promise es)

-- ---- what is kept of the entries before one

-- the entry of an opening, if there is one
abbrev pub as_opened : Option Opening → List LogEntry
as_opened None = []
as_opened (Some opening) = Opened opening ∷ []

-- the entry of a regency's beginning, if there is one
abbrev pub as_synced : Option Start → List LogEntry
as_synced None = []
as_synced (Some start) = Synced start ∷ []

-- the entries of a promise, if there is one, and of the first beginning of its regency among entries
abbrev pub as_promised : Option Promise → List LogEntry → List LogEntry
as_promised None before = []
as_promised (Some promise) before = Promised promise ∷ as_synced (first_start promise.view promise.regency before)

-- the entries that are kept of those before an entry: the first opening, the greatest promise, and the beginning of its regency
abbrev pub kept_of : List LogEntry → List LogEntry
kept_of before = as_opened (first_opening before) ++ as_promised (greatest_promise before) before

-- ---- the cut

-- the entries before the first one that makes a place
abbrev pub before_place : ℕ → List LogEntry → List LogEntry
before_place place [] = []
before_place place (e ∷ es) = if makes place e then [] else e ∷ before_place place es

-- the entries from the first one on that makes a place
abbrev pub from_place : ℕ → List LogEntry → List LogEntry
from_place place [] = []
from_place place (e ∷ es) = if makes place e then e ∷ es else from_place place es

-- entries that can be cut at a place: one of them makes it, and it is not place 0, the empty replica's
abbrev pub has_cut : ℕ → List LogEntry → Bool
has_cut place entries = nat_lt 0 place && list_any (makes place) entries

-- The cut of entries at a checkpoint's place. It has what is kept of those before the entry that makes this place, and all entries from
-- that one on. It is all entries at place 0, or if none of them makes the place.
abbrev pub cut_at : ℕ → List LogEntry → List LogEntry
cut_at place entries = if has_cut place entries then kept_of (before_place place entries) ++ from_place place entries else entries

-- an entry that installs a place past this one
abbrev pub installs_past : ℕ → LogEntry → Bool
installs_past place (Opened o) = false
installs_past place (Wrote w) = false
installs_past place (Accepted a) = false
installs_past place (Promised p) = false
installs_past place (Synced s) = false
installs_past place (Decided d) = false
installs_past place (Installed i) = nat_lt place i.place
installs_past place (Marked m) = false

-- The entries before the first one that installs a place past this one. A checkpoint of this place may not stand for what comes after: it would
-- be restored past the replica.
abbrev pub until_installed : ℕ → List LogEntry → List LogEntry
until_installed place [] = []
until_installed place (e ∷ es) = if installs_past place e then [] else e ∷ until_installed place es

-- ---- premises of the laws

-- an entry that is no vote, or a vote for a place past this one
abbrev pub IsNoVoteUpTo : ℕ → LogEntry → Type 0
IsNoVoteUpTo place (Opened o) = Unit {0}
IsNoVoteUpTo place (Wrote w) = place < w.slot.place
IsNoVoteUpTo place (Accepted a) = place < a.slot.place
IsNoVoteUpTo place (Promised p) = Unit {0}
IsNoVoteUpTo place (Synced s) = Unit {0}
IsNoVoteUpTo place (Decided d) = Unit {0}
IsNoVoteUpTo place (Installed i) = Unit {0}
IsNoVoteUpTo place (Marked m) = Unit {0}

-- entries that install no place past this one
abbrev pub InstallUpTo : ℕ → List LogEntry → Type 0
InstallUpTo place entries = (installation : Installation) → Among (Installed installation) entries → installation.place ≤ place
