-- A member's report of its book: the last made place, its evidence, and the batch on which the member is locked at the next place.
use Rattle.std.specs.Prelude.{◌≡◌, ℕ, ◌+◌, ◌≤◌, ◌==◌, nat_lt, ◌&&◌, List, [], ◌∷◌, Option, None, Some, option_map, find, if◌then◌else◌}
use Rattle.smart_statements.specs.Batches.{Batch}
use Rattle.smart_statements.specs.declared.report.Evidence.{Evidence}
use Rattle.smart_statements.specs.declared.report.Evidence.TheVariants as evidence
use Rattle.smart_statements.specs.declared.report.LockCertificate.{LockCertificate}
use Rattle.smart_statements.specs.declared.report.Report.{Report}
use Rattle.vote_book.specs.declared.entry.LogEntry.{LogEntry}
use Rattle.vote_book.specs.declared.entry.LogEntry.TheVariants.{Opened, Wrote, Accepted, Promised, Synced, Decided, Installed, Marked}
use Rattle.vote_book.specs.declared.entry.Accept.{Accept}
use Rattle.vote_book.specs.Books.{last_made, Among}
use Rattle.vote_book.specs.Admission.{makes}

-- ---- the last place

-- the first of the entries that make the greatest place
abbrev pub last_maker : List LogEntry → Option LogEntry
last_maker entries = find (makes (last_made entries)) entries

-- the evidence that an entry gives for the place that it makes
abbrev pub evidence_by : (Batch → List ℕ) → LogEntry → Evidence
evidence_by digest_of (Decided d) = evidence.Decided (record { view = d.slot.view; regency = d.slot.regency; digest = digest_of d.batch; accepts = d.accepts })
evidence_by digest_of (Installed i) = evidence.Marked (record { view = i.view; digest = i.digest; marks = i.marks })
evidence_by digest_of (Opened o) = evidence.Nothing
evidence_by digest_of (Wrote w) = evidence.Nothing
evidence_by digest_of (Accepted a) = evidence.Nothing
evidence_by digest_of (Promised p) = evidence.Nothing
evidence_by digest_of (Synced s) = evidence.Nothing
evidence_by digest_of (Marked m) = evidence.Nothing

abbrev pub evidence_of : (Batch → List ℕ) → Option LogEntry → Evidence
evidence_of digest_of None = evidence.Nothing
evidence_of digest_of (Some maker) = evidence_by digest_of maker

-- ---- the lock

-- the accept for a place of a view that an entry is, if it is one
abbrev pub accept_for : ℕ → ℕ → LogEntry → Option Accept
accept_for view place (Accepted a) = if a.slot.view == view && a.slot.place == place then Some a else None
accept_for view place (Opened o) = None
accept_for view place (Wrote w) = None
accept_for view place (Promised p) = None
accept_for view place (Synced s) = None
accept_for view place (Decided d) = None
accept_for view place (Installed i) = None
accept_for view place (Marked m) = None

-- the accept of the greater regency; of equals the first
abbrev pub greater : Option Accept → Option Accept → Option Accept
greater None right = right
greater (Some a) None = Some a
greater (Some a) (Some b) = if nat_lt a.slot.regency b.slot.regency then Some b else Some a

-- the accept of the greatest regency for a place of a view
abbrev pub greatest_accept : ℕ → ℕ → List LogEntry → Option Accept
greatest_accept view place [] = None
greatest_accept view place (e ∷ es) = greater (accept_for view place e) (greatest_accept view place es)

-- the member's lock: its accept of the greatest regency of a view, at the place after the last made one
abbrev pub lock_of : ℕ → List LogEntry → Option Accept
lock_of view entries = greatest_accept view (last_made entries + 1) entries

-- an accept among entries for a place of a view; no other of theirs for that place is of a greater regency
pub record IsGreatestAccept (view place : ℕ) (entries : List LogEntry) (a : Accept) : Type 0 where
  pub there : Among (Accepted a) entries
  pub view_is : a.slot.view ≡ view
  pub place_is : a.slot.place ≡ place
  pub greatest : (other : Accept) → Among (Accepted other) entries → other.slot.view ≡ view → other.slot.place ≡ place → other.slot.regency ≤ a.slot.regency

abbrev pub certificate_of : Accept → LockCertificate
certificate_of a = record { regency = a.slot.regency; digest = a.digest; writes = a.writes }

-- ---- the report

-- A report that is what the entries before its promise are (Mod-SMaRt, EDCC 2012; evidence by marks is this project's own).
pub record Reports (digest_of : Batch → List ℕ) (report : Report) (before : List LogEntry) : Type 0 where
  pub last : report.last ≡ last_made before
  pub evidence : report.evidence ≡ evidence_of digest_of (last_maker before)
  pub lock : report.lock ≡ option_map certificate_of (lock_of report.view before)
