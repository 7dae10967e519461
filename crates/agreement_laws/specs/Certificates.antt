-- Certificates and choices of statements that have been made.
use Rattle.std.specs.Prelude.{◌≡◌, ℕ, ◌<◌, ◌≤◌, List, length, IfSome}
use Rattle.smart_base.specs.Lists.{Each}
use Rattle.smart_base.specs.Views.{View}
use Rattle.smart_view.specs.Sizes.{collect_size}
use Rattle.smart_statements.specs.Forms.{SignedBy}
use Rattle.smart_statements.specs.Batches.{Batch}
use Rattle.smart_statements.specs.Reports.{reports}
use Rattle.smart_statements.specs.declared.statement.Ballot.{Ballot}
use Rattle.smart_statements.specs.declared.report.Report.{Report}
use Rattle.certificates.specs.Certificates.{AreSigned, IsCertificate, IsMarkCertificate, write_of, accept_of}
use Rattle.certificates.specs.Collects.{slot_of, LockHolds}
use Rattle.regency_sync.specs.Choices.{choice}
use Rattle.vote_book.specs.declared.entry.Start.{Start}
use Rattle.vote_book.specs.declared.entry.Installation.{Installation}
use Rattle.vote_book.specs.declared.entry.LogEntry.{LogEntry}
use Rattle.vote_book.specs.declared.entry.LogEntry.TheVariants as entries
use Rattle.vote_book.specs.Books.{Among}
use Rattle.agreement_laws.specs.Statements.{Statement, Voted, Reported, Marked}

-- a quorum's votes for one thing, each of which has been stated
pub record IsDrawn (secret : List ℕ) (view : View) (stated : List Statement) (wanted : Ballot) (votes : List (SignedBy Ballot)) : Type 0 where
  pub holds : IsCertificate secret view wanted votes
  pub drawn : Each (λ b. Among (Voted b) stated) votes

-- a write certificate at a place in a regency: a quorum's WRITEs for a digest, each of them stated (Mod-SMaRt, EDCC 2012)
abbrev pub IsWritten : List ℕ → View → List Statement → (place regency : ℕ) → List ℕ → List (SignedBy Ballot) → Type 0
IsWritten secret view stated place regency digest writes = IsDrawn secret view stated (write_of (slot_of view place regency) digest) writes

-- a decision at a place in a regency: a quorum's ACCEPTs for a digest, each of them stated (Mod-SMaRt, EDCC 2012)
abbrev pub IsDecision : List ℕ → View → List Statement → (place regency : ℕ) → List ℕ → List (SignedBy Ballot) → Type 0
IsDecision secret view stated place regency digest accepts = IsDrawn secret view stated (accept_of (slot_of view place regency) digest) accepts

-- A report for a regency of a view, whose lock holds if it has one. Agreement rests on no more of a report; it needs no evidence.
pub record IsLockedReport (secret : List ℕ) (view : View) (regency : ℕ) (s : Report) : Type 0 where
  pub of_view : s.view ≡ view.number
  pub of_regency : s.regency ≡ regency
  pub lock : IfSome s.lock (LockHolds secret view s.last s.regency)

-- reports of n-f members with such locks
pub record IsLockedCollect (secret : List ℕ) (view : View) (regency : ℕ) (items : List (SignedBy Report)) : Type 0 where
  pub signed : AreSigned Report secret reports view (IsLockedReport secret view regency) items
  pub enough : collect_size view ≤ length items

-- a beginning of a regency that is the choice of such a collect, each report of which has been stated
pub record IsChosen (secret : List ℕ) (view : View) (stated : List Statement) (start : Start) : Type 0 where
  pub items : List (SignedBy Report)
  pub collect : IsLockedCollect secret view start.regency items
  pub drawn : Each (λ r. Among (Reported r) stated) items
  pub choice_is : choice items ≡ record { base = start.base; bound = start.bound }

-- an installation that more than f members certify by their marks, each of which has been stated (Dura-SMaRt, USENIX ATC 2013)
pub record IsTaken (secret : List ℕ) (view : View) (stated : List Statement) (i : Installation) : Type 0 where
  pub holds : IsMarkCertificate secret view i.place i.digest i.marks
  pub drawn : Each (λ m. Among (Marked m) stated) i.marks

-- An entry that rests on what has been stated. An accept has a write certificate. A decision has its ACCEPTs. A beginning after regency 0
-- is the choice of a collect. An installation has its marks. Other entries, and those of another view, rest on nothing.
abbrev pub IsBacked : List ℕ → (Batch → List ℕ) → View → List Statement → LogEntry → Type 0
IsBacked secret digest_of view stated (entries.Accepted a) =
    a.slot.view ≡ view.number → IsWritten secret view stated a.slot.place a.slot.regency a.digest a.writes
IsBacked secret digest_of view stated (entries.Synced s) = s.view ≡ view.number → 0 < s.regency → IsChosen secret view stated s
IsBacked secret digest_of view stated (entries.Decided d) =
    d.slot.view ≡ view.number → IsDecision secret view stated d.slot.place d.slot.regency (digest_of d.batch) d.accepts
IsBacked secret digest_of view stated (entries.Opened o) = Unit {0}
IsBacked secret digest_of view stated (entries.Wrote w) = Unit {0}
IsBacked secret digest_of view stated (entries.Promised p) = Unit {0}
IsBacked secret digest_of view stated (entries.Installed i) = i.view ≡ view.number → IsTaken secret view stated i
IsBacked secret digest_of view stated (entries.Marked m) = Unit {0}
