-- The entries of a book: their bytes, which entries have bytes, and how they are read.
use Rattle.std.specs.Prelude.{◌≡◌, ℕ, ◌<◌, ◌≤◌, ◌^◌, nat_lt, nat_le, ◌==◌, true, ◌&&◌, List, ◌++◌, length, Result, Ok, if◌then◌else◌}
use Rattle.std.specs.Int.{w8, w16, w32}
use Rattle.smart_base.specs.Cuts.{Cut, Read, ◌>>=◌, number_at, ranged, whole}
use Rattle.smart_base.specs.Fields.{count_at, digest_at}
use Rattle.smart_base.specs.Spelling.{u8, u16, u32, u64, IsCount}
use Rattle.smart_base.specs.Views.{is_view}
use Rattle.smart_base.specs.ViewBytes.{view_text, first_place_at, view_at}
use Rattle.smart_statements.specs.Kinds.{requests}
use Rattle.smart_statements.specs.Spelling.{slot, FitsSlot}
use Rattle.smart_statements.specs.Reading.{slot_at, batch_at}
use Rattle.smart_statements.specs.Batches.{batch_text, FitsBatch}
use Rattle.smart_statements.specs.SignedLists.{listed, FitsList, list_at, optional, FitsOptional, optional_at}
use Rattle.smart_statements.specs.Reports.{votes_of, FitsVote, marks, FitsMark}
use Rattle.smart_statements.specs.declared.statement.VoteKind.TheVariants as votes
use Rattle.smart_statements.specs.declared.report.Mark.{Mark}
use Rattle.vote_book.specs.declared.entry.Opening.{Opening}
use Rattle.vote_book.specs.declared.entry.Write.{Write}
use Rattle.vote_book.specs.declared.entry.Accept.{Accept}
use Rattle.vote_book.specs.declared.entry.Promise.{Promise}
use Rattle.vote_book.specs.declared.entry.Start.{Start}
use Rattle.vote_book.specs.declared.entry.Decision.{Decision}
use Rattle.vote_book.specs.declared.entry.Installation.{Installation}
use Rattle.vote_book.specs.declared.entry.LogEntry.{LogEntry}
use Rattle.vote_book.specs.declared.entry.LogEntry.TheVariants.{Opened, Wrote, Accepted, Promised, Synced, Decided, Installed, Marked}

-- ---- openings

abbrev pub opening : Opening → List ℕ
opening o = u16 o.member ++ (u32 o.period ++ view_text o.view)

pub record FitsOpening (o : Opening) : Type 0 where
  pub member_fits : (0 < o.member) × (o.member < 2 ^ 16)
  pub period_fits : o.period < 2 ^ 32
  pub view_fits : is_view o.view ≡ true

abbrev pub member_at : Cut → Read ℕ
member_at = ranged (λ m. nat_lt 0 m) (number_at w16)

unfoldable pub opening_at : Cut → Read Opening
opening_at c = do
  m ← member_at c
  p ← number_at w32 m.1
  v ← view_at p.1
  Ok (record { member = m.0; period = p.0; view = v.0 }, v.1)

-- ---- votes

abbrev pub write : Write → List ℕ
write w = slot w.slot ++ w.digest

pub record FitsWrite (w : Write) : Type 0 where
  pub slot_fits : FitsSlot w.slot
  pub digest_fits : length w.digest ≡ 32

unfoldable pub write_at : Cut → Read Write
write_at c = do
  s ← slot_at c
  d ← digest_at s.1
  Ok (record { slot = s.0; digest = d.0 }, d.1)

-- the bytes of an accept, with its WRITEs
abbrev pub accept : Accept → List ℕ
accept a = slot a.slot ++ (a.digest ++ (listed (votes_of votes.Write) a.writes ++ batch_text a.batch))

pub record FitsAccept (a : Accept) : Type 0 where
  pub slot_fits : FitsSlot a.slot
  pub digest_fits : length a.digest ≡ 32
  pub writes_fit : FitsList (votes_of votes.Write) (λ signer. FitsVote votes.Write) a.writes
  pub batch_fits : FitsBatch a.batch

unfoldable pub accept_at : Cut → Read Accept
accept_at c = do
  s ← slot_at c
  d ← digest_at s.1
  w ← list_at (votes_of votes.Write) d.1
  b ← batch_at requests w.1
  Ok (record { slot = s.0; digest = d.0; writes = w.0; batch = b.0 }, b.1)

-- ---- regencies

abbrev pub promise : Promise → List ℕ
promise p = u32 p.view ++ u32 p.regency

pub record FitsPromise (p : Promise) : Type 0 where
  pub view_fits : p.view < 2 ^ 32
  pub regency_fits : p.regency < 2 ^ 32

unfoldable pub promise_at : Cut → Read Promise
promise_at c = do
  v ← number_at w32 c
  r ← number_at w32 v.1
  Ok (record { view = v.0; regency = r.0 }, r.1)

abbrev pub start : Start → List ℕ
start s = u32 s.view ++ (u32 s.regency ++ (u64 s.base ++ optional (λ d. d) s.bound))

pub record FitsStart (s : Start) : Type 0 where
  pub view_fits : s.view < 2 ^ 32
  pub regency_fits : s.regency < 2 ^ 32
  pub base_fits : (1 ≤ s.base) × (s.base ≤ 2 ^ 63)
  pub bound_fits : FitsOptional (λ d. length d ≡ 32) s.bound

-- a beginning is read; its base is in the range of the first places of views
unfoldable pub regency_start_at : Cut → Read Start
regency_start_at c = do
  v ← number_at w32 c
  r ← number_at w32 v.1
  b ← first_place_at r.1
  d ← optional_at digest_at b.1
  Ok (record { view = v.0; regency = r.0; base = b.0; bound = d.0 }, d.1)

-- ---- decisions

-- the bytes of a decision, with its ACCEPTs
abbrev pub decision : Decision → List ℕ
decision d = slot d.slot ++ (batch_text d.batch ++ listed (votes_of votes.Accept) d.accepts)

pub record FitsDecision (d : Decision) : Type 0 where
  pub slot_fits : FitsSlot d.slot
  pub batch_fits : FitsBatch d.batch
  pub accepts_fit : FitsList (votes_of votes.Accept) (λ signer. FitsVote votes.Accept) d.accepts

unfoldable pub decision_at : Cut → Read Decision
decision_at c = do
  s ← slot_at c
  b ← batch_at requests s.1
  a ← list_at (votes_of votes.Accept) b.1
  Ok (record { slot = s.0; batch = b.0; accepts = a.0 }, a.1)

-- ---- replicas

abbrev pub installation : Installation → List ℕ
installation i = u64 i.place ++ (i.digest ++ (u32 i.view ++ listed marks i.marks))

pub record FitsInstallation (i : Installation) : Type 0 where
  pub place_fits : IsCount i.place
  pub digest_fits : length i.digest ≡ 32
  pub view_fits : i.view < 2 ^ 32
  pub marks_fit : FitsList marks (λ signer. FitsMark) i.marks

unfoldable pub installation_at : Cut → Read Installation
installation_at c = do
  p ← count_at c
  d ← digest_at p.1
  v ← number_at w32 d.1
  l ← list_at marks v.1
  Ok (record { place = p.0; digest = d.0; view = v.0; marks = l.0 }, l.1)

-- the bytes of a mark of the book's member
abbrev pub own_mark : Mark → List ℕ
own_mark m = u64 m.place ++ m.digest

unfoldable pub own_mark_at : Cut → Read Mark
own_mark_at c = do
  p ← count_at c
  d ← digest_at p.1
  Ok (record { place = p.0; digest = d.0 }, d.1)

-- ---- entries

abbrev pub entry_kind : LogEntry → ℕ
entry_kind (Opened o) = 1
entry_kind (Wrote w) = 2
entry_kind (Accepted a) = 3
entry_kind (Promised p) = 4
entry_kind (Synced s) = 5
entry_kind (Decided d) = 6
entry_kind (Installed i) = 7
entry_kind (Marked m) = 8

abbrev pub entry_content : LogEntry → List ℕ
entry_content (Opened o) = opening o
entry_content (Wrote w) = write w
entry_content (Accepted a) = accept a
entry_content (Promised p) = promise p
entry_content (Synced s) = start s
entry_content (Decided d) = decision d
entry_content (Installed i) = installation i
entry_content (Marked m) = own_mark m

unfoldable pub entry_text : LogEntry → List ℕ
entry_text e = u8 (entry_kind e) ++ entry_content e

-- an entry that has bytes
abbrev pub FitsEntry : LogEntry → Type 0
FitsEntry (Opened o) = FitsOpening o
FitsEntry (Wrote w) = FitsWrite w
FitsEntry (Accepted a) = FitsAccept a
FitsEntry (Promised p) = FitsPromise p
FitsEntry (Synced s) = FitsStart s
FitsEntry (Decided d) = FitsDecision d
FitsEntry (Installed i) = FitsInstallation i
FitsEntry (Marked m) = FitsMark m

-- an entry of a kind is read, by the reader of what that kind holds
unfoldable pub read_as : {A : Type 0} → (A → LogEntry) → (Cut → Read A) → Cut → Read LogEntry
read_as entry f c = do
  x ← f c
  Ok (entry x.0, x.1)

unfoldable pub content_at : ℕ → Cut → Read LogEntry
content_at kind c =
    if kind == 1 then read_as Opened opening_at c
    else if kind == 2 then read_as Wrote write_at c
    else if kind == 3 then read_as Accepted accept_at c
    else if kind == 4 then read_as Promised promise_at c
    else if kind == 5 then read_as Synced regency_start_at c
    else if kind == 6 then read_as Decided decision_at c
    else if kind == 7 then read_as Installed installation_at c
    else read_as Marked own_mark_at c

abbrev pub entry_kind_at : Cut → Read ℕ
entry_kind_at = ranged (λ k. nat_le 1 k && nat_le k 8) (number_at w8)

unfoldable pub entry_at : Cut → Read LogEntry
entry_at c = do
  k ← entry_kind_at c
  content_at k.0 k.1

-- the entry that bytes are, or the lowest offset of a field that is none, or of a byte left over
unfoldable pub entry_decoded : List ℕ → Result LogEntry ℕ
entry_decoded bytes = whole entry_at (record { at = 0; left = bytes })
