-- A member's report to a new leader: its last decided place with evidence, and its lock at the next place.
use Rattle.std.specs.Prelude.{◌≡◌, ℕ, ◌<◌, ◌^◌, nat_lt, ◌==◌, Bool, ◌&&◌, ◌||◌, List, ◌++◌, length, Ok, if◌then◌else◌}
use Rattle.std.specs.Int.{w8, w32, w64}
use Rattle.smart_base.specs.Cuts.{Cut, Read, ◌>>=◌, ranged, number_at}
use Rattle.smart_base.specs.Fields.{kind_at, count_at, digest_at}
use Rattle.smart_base.specs.Spelling.{u8, u32, u64, IsCount, member_kind}
use Rattle.smart_statements.specs.Forms.{Form}
use Rattle.smart_statements.specs.Spelling.{vote_kind, ballot, FitsBallot}
use Rattle.smart_statements.specs.Reading.{slot_at}
use Rattle.smart_statements.specs.SignedLists.{listed, FitsList, list_at, optional, FitsOptional, optional_at}
use Rattle.smart_statements.specs.declared.statement.VoteKind.{VoteKind}
use Rattle.smart_statements.specs.declared.statement.VoteKind.TheVariants.{Write, Accept}
use Rattle.smart_statements.specs.declared.statement.Ballot.{Ballot}
use Rattle.smart_statements.specs.declared.report.Mark.{Mark}
use Rattle.smart_statements.specs.declared.report.DecisionProof.{DecisionProof}
use Rattle.smart_statements.specs.declared.report.MarkCertificate.{MarkCertificate}
use Rattle.smart_statements.specs.declared.report.LockCertificate.{LockCertificate}
use Rattle.smart_statements.specs.declared.report.Evidence.{Evidence}
use Rattle.smart_statements.specs.declared.report.Evidence.TheVariants.{Nothing, Decided, Marked}
use Rattle.smart_statements.specs.declared.report.Report.{Report}

-- ---- votes of one kind alone

unfoldable pub vote_at : VoteKind → ℕ → Cut → Read Ballot
vote_at kind signer c = do
  k ← kind_at (vote_kind kind) c
  s ← slot_at k.1
  d ← digest_at s.1
  Ok (record { kind = kind; slot = s.0; digest = d.0 }, d.1)

abbrev pub votes_of : VoteKind → Form Ballot
votes_of kind = record { kind = member_kind; spell = ballot; read = vote_at kind }

pub record FitsVote (kind : VoteKind) (b : Ballot) : Type 0 where
  pub kind_is : b.kind ≡ kind
  pub ballot_fits : FitsBallot b

-- ---- marks

abbrev pub mark : Mark → List ℕ
mark m = u8 7 ++ (u64 m.place ++ m.digest)

pub record FitsMark (m : Mark) : Type 0 where
  pub place_fits : IsCount m.place
  pub digest_fits : length m.digest ≡ 32

unfoldable pub mark_at : ℕ → Cut → Read Mark
mark_at signer c = do
  k ← kind_at 7 c
  p ← count_at k.1
  d ← digest_at p.1
  Ok (record { place = p.0; digest = d.0 }, d.1)

abbrev pub marks : Form Mark
marks = record { kind = member_kind; spell = mark; read = mark_at }

-- ---- evidence of the last place

abbrev pub decision_proof : DecisionProof → List ℕ
decision_proof p = u32 p.view ++ (u32 p.regency ++ (p.digest ++ listed (votes_of Accept) p.accepts))

pub record FitsDecisionProof (p : DecisionProof) : Type 0 where
  pub view_fits : p.view < 2 ^ 32
  pub regency_fits : p.regency < 2 ^ 32
  pub digest_fits : length p.digest ≡ 32
  pub accepts_fit : FitsList (votes_of Accept) (λ signer. FitsVote Accept) p.accepts

unfoldable pub decision_proof_at : Cut → Read DecisionProof
decision_proof_at c = do
  v ← number_at w32 c
  r ← number_at w32 v.1
  d ← digest_at r.1
  l ← list_at (votes_of Accept) d.1
  Ok (record { view = v.0; regency = r.0; digest = d.0; accepts = l.0 }, l.1)

abbrev pub mark_certificate : MarkCertificate → List ℕ
mark_certificate m = u32 m.view ++ (m.digest ++ listed marks m.marks)

pub record FitsMarkCertificate (m : MarkCertificate) : Type 0 where
  pub view_fits : m.view < 2 ^ 32
  pub digest_fits : length m.digest ≡ 32
  pub marks_fit : FitsList marks (λ signer. FitsMark) m.marks

unfoldable pub mark_certificate_at : Cut → Read MarkCertificate
mark_certificate_at c = do
  v ← number_at w32 c
  d ← digest_at v.1
  l ← list_at marks d.1
  Ok (record { view = v.0; digest = d.0; marks = l.0 }, l.1)

abbrev pub evidence : Evidence → List ℕ
evidence Nothing = u8 0
evidence (Decided p) = u8 1 ++ decision_proof p
evidence (Marked m) = u8 2 ++ mark_certificate m

-- evidence that has bytes; only last place 0 needs none
abbrev pub FitsEvidence : ℕ → Evidence → Type 0
FitsEvidence last Nothing = last ≡ 0
FitsEvidence last (Decided p) = FitsDecisionProof p
FitsEvidence last (Marked m) = FitsMarkCertificate m

abbrev pub is_evidence_kind : ℕ → ℕ → Bool
is_evidence_kind last k = (k == 0 && last == 0) || k == 1 || k == 2

abbrev pub evidence_kind_at : ℕ → Cut → Read ℕ
evidence_kind_at last = ranged (is_evidence_kind last) (number_at w8)

unfoldable pub decided_at : Cut → Read Evidence
decided_at c = do
  p ← decision_proof_at c
  Ok (Decided p.0, p.1)

unfoldable pub marked_at : Cut → Read Evidence
marked_at c = do
  m ← mark_certificate_at c
  Ok (Marked m.0, m.1)

unfoldable pub evidence_body_at : ℕ → Cut → Read Evidence
evidence_body_at kind c =
    if kind == 0 then Ok (Nothing, c)
    else if kind == 1 then decided_at c
    else marked_at c

unfoldable pub evidence_at : ℕ → Cut → Read Evidence
evidence_at last c = do
  k ← evidence_kind_at last c
  evidence_body_at k.0 k.1

-- ---- locks

abbrev pub lock_certificate : LockCertificate → List ℕ
lock_certificate l = u32 l.regency ++ (l.digest ++ listed (votes_of Write) l.writes)

pub record FitsLockCertificate (l : LockCertificate) : Type 0 where
  pub regency_fits : l.regency < 2 ^ 32
  pub digest_fits : length l.digest ≡ 32
  pub writes_fit : FitsList (votes_of Write) (λ signer. FitsVote Write) l.writes

unfoldable pub lock_certificate_at : Cut → Read LockCertificate
lock_certificate_at c = do
  r ← number_at w32 c
  d ← digest_at r.1
  l ← list_at (votes_of Write) d.1
  Ok (record { regency = r.0; digest = d.0; writes = l.0 }, l.1)

-- ---- reports

-- a last place is read: 0, or a place
abbrev pub last_at : Cut → Read ℕ
last_at = ranged (λ n. nat_lt n (2 ^ 63)) (number_at w64)

abbrev pub report : Report → List ℕ
report s = u8 5 ++ (u32 s.view ++ (u32 s.regency ++ (u64 s.last ++ (evidence s.evidence ++ optional lock_certificate s.lock))))

pub record FitsReport (s : Report) : Type 0 where
  pub view_fits : s.view < 2 ^ 32
  pub regency_fits : s.regency < 2 ^ 32
  pub last_fits : s.last < 2 ^ 63
  pub evidence_fits : FitsEvidence s.last s.evidence
  pub lock_fits : FitsOptional FitsLockCertificate s.lock

unfoldable pub report_at : ℕ → Cut → Read Report
report_at signer c = do
  k ← kind_at 5 c
  v ← number_at w32 k.1
  r ← number_at w32 v.1
  p ← last_at r.1
  e ← evidence_at p.0 p.1
  l ← optional_at lock_certificate_at e.1
  Ok (record { view = v.0; regency = r.0; last = p.0; evidence = e.0; lock = l.0 }, l.1)

abbrev pub reports : Form Report
reports = record { kind = member_kind; spell = report; read = report_at }
