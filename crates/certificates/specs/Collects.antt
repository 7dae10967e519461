-- Collects: reports of n-f members, whose evidence and locks hold (this project's profile of Mod-SMaRt, EDCC 2012).
use Rattle.std.specs.Prelude.{◌≡◌, ℕ, ◌+◌, ◌^◌, ◌<◌, ◌≤◌, ◌==◌, nat_le, nat_lt, Bool, true, false, ◌&&◌, ◌||◌, List, [], ◌∷◌, length, ◌⊎◌, Option, Some, None, is_none, IsSomeAnd, IfSome, if◌then◌else◌}
use Rattle.smart_base.specs.Lists.{or_else}
use Rattle.smart_base.specs.Views.{View, present}
use Rattle.smart_view.specs.Sizes.{collect_size}
use Rattle.smart_statements.specs.Forms.{SignedBy}
use Rattle.smart_statements.specs.Reports.{reports}
use Rattle.smart_statements.specs.declared.statement.Slot.{Slot}
use Rattle.smart_statements.specs.declared.report.DecisionProof.{DecisionProof}
use Rattle.smart_statements.specs.declared.report.MarkCertificate.{MarkCertificate}
use Rattle.smart_statements.specs.declared.report.LockCertificate.{LockCertificate}
use Rattle.smart_statements.specs.declared.report.Evidence.{Evidence}
use Rattle.smart_statements.specs.declared.report.Evidence.TheVariants.{Nothing, Decided, Marked}
use Rattle.smart_statements.specs.declared.report.Report.{Report}
use Rattle.certificates.specs.Certificates.{AreSigned, IsWriteCertificate, IsDecisionProof, IsMarkCertificate, write_of, accept_of, item_fault, first_fault, votes_fault, marks_fault}
use Rattle.certificates.specs.declared.fault.CertFault.{CertFault}

-- ---- views of a list

-- the view that holds a place: the last of a list that starts there or earlier
abbrev pub view_holding : List View → ℕ → Option View
view_holding [] place = None
view_holding (v ∷ views) place = or_else (view_holding views place) (if nat_le v.start place then Some v else None)

-- the view of a number
abbrev pub view_numbered : List View → ℕ → Option View
view_numbered [] number = None
view_numbered (v ∷ views) number = if v.number == number then Some v else view_numbered views number

abbrev pub slot_of : View → ℕ → ℕ → Slot
slot_of v place regency = record { view = v.number; place = place; regency = regency }

-- ---- evidence of the last place

-- a decision proof of a last place, in the view that holds the place
abbrev pub IsDecided : List ℕ → List View → ℕ → DecisionProof → Type 0
IsDecided secret views last p =
    IsSomeAnd (view_holding views last) (λ v. (p.view ≡ v.number) × IsDecisionProof secret v (slot_of v last p.regency) p.digest p.accepts)

-- a certificate of marks at a last place, of a view that is known
abbrev pub IsMarked : List ℕ → List View → ℕ → MarkCertificate → Type 0
IsMarked secret views last m = IsSomeAnd (view_numbered views m.view) (λ v. IsMarkCertificate secret v last m.digest m.marks)

abbrev pub IsShown : List ℕ → List View → ℕ → Evidence → Type 0
IsShown secret views last Nothing = ⊥
IsShown secret views last (Decided p) = IsDecided secret views last p
IsShown secret views last (Marked m) = IsMarked secret views last m

-- evidence that holds: it shows the last place, or that place is 0; in that case nothing is looked at
abbrev pub EvidenceHolds : List ℕ → List View → ℕ → Evidence → Type 0
EvidenceHolds secret views last evidence = (last ≡ 0) ⊎ IsShown secret views last evidence

-- the same as tests

abbrev pub of_view : Option View → (View → Bool) → Bool
of_view None test = false
of_view (Some v) test = test v

abbrev pub is_decided : List ℕ → List View → ℕ → DecisionProof → Bool
is_decided secret views last p =
    of_view (view_holding views last) (λ v. (p.view == v.number) && is_none (votes_fault secret v (accept_of (slot_of v last p.regency) p.digest) p.accepts))

abbrev pub is_marked : List ℕ → List View → ℕ → MarkCertificate → Bool
is_marked secret views last m = of_view (view_numbered views m.view) (λ v. is_none (marks_fault secret v last m.digest m.marks))

abbrev pub is_shown : List ℕ → List View → ℕ → Evidence → Bool
is_shown secret views last Nothing = false
is_shown secret views last (Decided p) = is_decided secret views last p
is_shown secret views last (Marked m) = is_marked secret views last m

unfoldable pub evidence_holds : List ℕ → List View → ℕ → Evidence → Bool
evidence_holds secret views last evidence = (last == 0) || is_shown secret views last evidence

-- ---- locks

-- a lock that holds: a quorum's WRITEs at the place after the last one, which is below 2^63, in an earlier regency
pub record LockHolds (secret : List ℕ) (v : View) (last regency : ℕ) (l : LockCertificate) : Type 0 where
  pub place : last + 1 < 2 ^ 63
  pub earlier : l.regency < regency
  pub written : IsWriteCertificate secret v (slot_of v (last + 1) l.regency) l.digest l.writes

unfoldable pub lock_holds : List ℕ → View → ℕ → ℕ → LockCertificate → Bool
lock_holds secret v last regency l =
    nat_lt (last + 1) (2 ^ 63) && nat_lt l.regency regency
    && is_none (votes_fault secret v (write_of (slot_of v (last + 1) l.regency) l.digest) l.writes)

-- ---- collects

-- a report for a regency of a view, whose evidence holds, and whose lock does if it has one
pub record IsReportOf (secret : List ℕ) (v : View) (views : List View) (regency : ℕ) (s : Report) : Type 0 where
  pub of_view : s.view ≡ v.number
  pub of_regency : s.regency ≡ regency
  pub evidence : EvidenceHolds secret views s.last s.evidence
  pub lock : IfSome s.lock (LockHolds secret v s.last s.regency)

-- a collect: such reports of n-f members of the present view
abbrev pub IsCollect : List ℕ → List View → ℕ → List (SignedBy Report) → Type 0
IsCollect secret views regency items =
    AreSigned Report secret reports (present views) (IsReportOf secret (present views) views regency) items
    × (collect_size (present views) ≤ length items)

abbrev pub has_no_false_lock : List ℕ → View → ℕ → ℕ → Option LockCertificate → Bool
has_no_false_lock secret v last regency None = true
has_no_false_lock secret v last regency (Some l) = lock_holds secret v last regency l

unfoldable pub is_report_of : List ℕ → View → List View → ℕ → Report → Bool
is_report_of secret v views regency s =
    (s.view == v.number) && (s.regency == regency)
    && evidence_holds secret views s.last s.evidence && has_no_false_lock secret v s.last s.regency s.lock

-- the first fault of reports that are no collect
abbrev pub collect_fault : List ℕ → List View → ℕ → List (SignedBy Report) → Option CertFault
collect_fault secret views regency items =
    first_fault (present views) (item_fault secret reports (is_report_of secret (present views) views regency))
    (nat_le (collect_size (present views)) (length items)) items
