-- What a book keeps beside its entries, to judge the next one without walking them.
use Rattle.std.specs.Prelude.{◌≡◌, ℕ, ◌+◌, ◌<◌, nat_eq, ◌==◌, nat_lt, nat_le, max, Bool, true, false, ◌&&◌, ◌||◌, List, [], ◌∷◌, ◌++◌, length, filter, slice_get, Option, None, Some, IfSome, if◌then◌else◌}
use Rattle.std.specs.List.{list_any}
use Rattle.smart_base.specs.Lists.{or_else}
use Rattle.smart_statements.specs.declared.statement.Slot.{Slot}
use Rattle.vote_book.specs.declared.entry.LogEntry.{LogEntry}
use Rattle.vote_book.specs.declared.entry.LogEntry.TheVariants.{Opened, Wrote, Accepted, Promised, Synced, Decided, Installed, Marked}
use Rattle.vote_book.specs.declared.entry.Accept.{Accept}
use Rattle.vote_book.specs.declared.entry.Promise.{Promise}
use Rattle.vote_book.specs.declared.book.accepts.OpenAccept.{OpenAccept}
use Rattle.vote_book.specs.declared.book.index.BookIndex.{BookIndex}
use Rattle.vote_book.specs.Books.{number_or, place_made, latest_made, last_made}
use Rattle.vote_book.specs.Admission.{writes_in, accepts_in, makes, is_below, forbids, lets, begins, is_above}
use Rattle.vote_book.specs.BookReports.{last_maker}
use Rattle.vote_book.specs.Standing.{start_by, first_start, start_under}

-- a slot as the key of a set: its view, place and regency
abbrev pub is_key : Slot → ℕ × ℕ × ℕ → Bool
is_key slot k = (nat_eq slot.view k.0 && nat_eq slot.place k.1) && nat_eq slot.regency k.2

abbrev pub has_slot : List (ℕ × ℕ × ℕ) → Slot → Bool
has_slot keys slot = list_any (is_key slot) keys

abbrev pub has_place : List ℕ → ℕ → Bool
has_place places place = list_any (nat_eq place) places

-- a slot below the greatest promise, if there is one
abbrev pub is_promised : Option Promise → Slot → Bool
is_promised None slot = false
is_promised (Some promise) slot = is_below slot promise

-- a promise that is kept if another is: of an earlier view, or of its view and no later regency
abbrev pub is_kept_with : Promise → Promise → Bool
is_kept_with promise other = nat_lt promise.view other.view || (promise.view == other.view && nat_le promise.regency other.regency)

-- a promise that is kept if the greatest one is
abbrev pub covers : Option Promise → Promise → Bool
covers None promise = false
covers (Some greatest) promise = is_kept_with promise greatest

-- ---- the accepts of places past the last one made

abbrev pub is_open : ℕ → OpenAccept → Bool
is_open place accept = nat_lt place accept.slot.place

abbrev pub is_open_for : ℕ → ℕ → OpenAccept → Bool
is_open_for view place accept = accept.slot.view == view && accept.slot.place == place

abbrev pub is_greater : Option OpenAccept → OpenAccept → Bool
is_greater None accept = true
is_greater (Some greatest) accept = nat_lt greatest.slot.regency accept.slot.regency

-- the accept of the greater regency; of equals the first
abbrev pub greater_open : Option OpenAccept → Option OpenAccept → Option OpenAccept
greater_open None right = right
greater_open (Some a) None = Some a
greater_open (Some a) (Some b) = if nat_lt a.slot.regency b.slot.regency then Some b else Some a

abbrev pub open_for : ℕ → ℕ → OpenAccept → Option OpenAccept
open_for view place accept = if is_open_for view place accept then Some accept else None

abbrev pub greatest_open : ℕ → ℕ → List OpenAccept → Option OpenAccept
greatest_open view place [] = None
greatest_open view place (x ∷ xs) = greater_open (open_for view place x) (greatest_open view place xs)

-- the accept that an entry at an index is, if it is one
abbrev pub accept_at : ℕ → LogEntry → List OpenAccept
accept_at index (Opened o) = []
accept_at index (Wrote w) = []
accept_at index (Accepted a) = record { index = index; slot = a.slot } ∷ []
accept_at index (Promised p) = []
accept_at index (Synced s) = []
accept_at index (Decided d) = []
accept_at index (Installed i) = []
accept_at index (Marked m) = []

-- the accepts among entries from an index on
abbrev pub accepts_from : ℕ → List LogEntry → List OpenAccept
accepts_from index [] = []
accepts_from index (e ∷ es) = accept_at index e ++ accepts_from (index + 1) es

-- the open accepts after an entry at an index, by those before it and the last place before it
abbrev pub open_behind : ℕ → ℕ → LogEntry → List OpenAccept → List OpenAccept
open_behind index last (Opened o) accepts = accepts
open_behind index last (Wrote w) accepts = accepts
open_behind index last (Accepted a) accepts = if nat_lt last a.slot.place then accepts ++ record { index = index; slot = a.slot } ∷ [] else accepts
open_behind index last (Promised p) accepts = accepts
open_behind index last (Synced s) accepts = accepts
open_behind index last (Decided d) accepts = filter (is_open d.slot.place) accepts
open_behind index last (Installed i) accepts = filter (is_open i.place) accepts
open_behind index last (Marked m) accepts = accepts

abbrev pub as_accept : Option LogEntry → Option Accept
as_accept None = None
as_accept (Some (Opened o)) = None
as_accept (Some (Wrote w)) = None
as_accept (Some (Accepted a)) = Some a
as_accept (Some (Promised p)) = None
as_accept (Some (Synced s)) = None
as_accept (Some (Decided d)) = None
as_accept (Some (Installed i)) = None
as_accept (Some (Marked m)) = None

-- the accept at an index
abbrev pub accept_found : List LogEntry → Option OpenAccept → Option Accept
accept_found entries None = None
accept_found entries (Some x) = as_accept (slice_get entries x.index)

-- ---- the entry that made the last place

abbrev pub entry_at : Option ℕ → List LogEntry → Option LogEntry
entry_at None entries = None
entry_at (Some index) entries = slice_get entries index

-- the index of the entry that made the last place, after an entry at an index that makes a place or none
abbrev pub maker_behind : ℕ → Option ℕ → ℕ → Option ℕ → Option ℕ → Option ℕ
maker_behind index latest last None maker = maker
maker_behind index latest last (Some place) maker = if is_above latest last place then Some index else maker

-- ---- the index

-- an index that says what these entries say
pub record IsIndexOf (entries : List LogEntry) (x : BookIndex) : Type 0 where
  pub written : (slot : Slot) → has_slot x.written slot ≡ list_any (writes_in slot) entries
  pub accepted : (slot : Slot) → has_slot x.accepted slot ≡ list_any (accepts_in slot) entries
  pub made : (place : ℕ) → has_place x.made place ≡ list_any (makes place) entries
  pub latest : x.latest ≡ latest_made entries
  pub last : x.last ≡ last_made entries
  pub promised : (slot : Slot) → is_promised x.promised slot ≡ list_any (forbids slot) entries
  pub begun : (slot : Slot) (digest : List ℕ) → list_any (lets slot digest) x.begun ≡ list_any (begins slot digest) entries
  pub starts : (view regency : ℕ) → start_under view regency x.starts ≡ first_start view regency entries
  pub maker : entry_at x.maker entries ≡ last_maker entries
  pub maker_within : IfSome x.maker (λ index. index < length entries)
  pub pending : x.pending ≡ filter (is_open (last_made entries)) (accepts_from 0 entries)

-- an index that says, of one more entry, what that is to a later one
pub record Adds (index : ℕ) (entry : LogEntry) (old new : BookIndex) : Type 0 where
  pub written : (slot : Slot) → has_slot new.written slot ≡ (has_slot old.written slot || writes_in slot entry)
  pub accepted : (slot : Slot) → has_slot new.accepted slot ≡ (has_slot old.accepted slot || accepts_in slot entry)
  pub made : (place : ℕ) → has_place new.made place ≡ (has_place old.made place || makes place entry)
  pub latest : new.latest ≡ or_else (place_made entry) old.latest
  pub last : new.last ≡ max old.last (number_or (place_made entry) 0)
  pub promised : (slot : Slot) → is_promised new.promised slot ≡ (is_promised old.promised slot || forbids slot entry)
  pub begun : (slot : Slot) (digest : List ℕ) → list_any (lets slot digest) new.begun ≡ (list_any (lets slot digest) old.begun || begins slot digest entry)
  pub starts : (view regency : ℕ) → start_under view regency new.starts ≡ or_else (start_under view regency old.starts) (start_by view regency entry)
  pub maker : new.maker ≡ maker_behind index old.latest old.last (place_made entry) old.maker
  pub pending : new.pending ≡ open_behind index old.last entry old.pending
