-- What stands in a message that has a spelling, has one too. A statement is told by its signer, its bytes and its tag.
use Rattle.std.proofs.Common.{◌≡◌, ⊎_elim, ℕ, true, List, [], ◌∷◌, ◌++◌, ap, sym, ◌∙◌, subst, inl, inr, Option, Some, None, eqb-true}
use Rattle.std.specs.Prelude.{map}
use Rattle.std.specs.List.{AllByRecursion}
use Rattle.smart_base.specs.Lists.{same_bytes}
use Rattle.smart_base.specs.declared.party.Party.{Party}
use Rattle.smart_base.specs.declared.party.Party.TheVariants as parties
use Rattle.smart_base.proofs.SameLists.{and_true}
use Rattle.smart_statements.specs.Forms.{SignedBy}
use Rattle.smart_statements.specs.Kinds.{requests}
use Rattle.smart_statements.specs.Batches.{Batch, FitsBatch}
use Rattle.smart_statements.specs.SignedLists.{FitsOptional}
use Rattle.smart_statements.specs.Reports.{reports, FitsReport, marks, FitsMark, FitsVote, votes_of, FitsEvidence, FitsLockCertificate}
use Rattle.smart_statements.specs.Spelling.{FitsRequest, FitsSigned}
use Rattle.smart_statements.specs.declared.statement.VoteKind.{VoteKind}
use Rattle.smart_statements.specs.declared.statement.VoteKind.TheVariants.{Write, Accept}
use Rattle.smart_statements.specs.declared.statement.Ballot.{Ballot}
use Rattle.smart_statements.specs.declared.report.Mark.{Mark}
use Rattle.smart_statements.specs.declared.report.Report.{Report}
use Rattle.smart_statements.specs.declared.report.Evidence.{Evidence}
use Rattle.smart_statements.specs.declared.report.Evidence.TheVariants as evidence
use Rattle.smart_statements.specs.declared.report.LockCertificate.{LockCertificate}
use Rattle.smart_messages.specs.declared.message.Message.{Message}
use Rattle.smart_messages.specs.declared.message.Sealed.{Sealed}
use Rattle.smart_messages.specs.Messages.{FitsContent, batch_in, decision_in}
use Rattle.smart_messages.proofs.Messages.{FitsStatement, own_fits, proof_in_fits, batch_in_fits}
use Rattle.vote_book.specs.Books.{Among}
use Rattle.vote_book.proofs.Tested.{same_bytes_is}
use Rattle.agreement_laws.specs.Statements.{Statement, Asked, Voted, Reported, Synced, Marked, within, in_report, parts_of_evidence, parts_of_lock, requests_of, own, proof_in, said, statements_in}
use Rattle.agreement_laws.proofs.Lists.{among_either, given, within_one}
use Rattle.audit_rules.specs.Audits.{same_party, same_sealed}

-- ---- what has a spelling

-- what holds by recursion, holds of each that is there
all_among : {A : Type 0} (P : A → Type 0) (xs : List A) (x : A) → AllByRecursion P xs → Among x xs → P x
all_among P [] x all there = absurd there
all_among P (y ∷ xs) x all (inl is) = subst P (sym is) all.0
all_among P (y ∷ xs) x all (inr there) = all_among P xs x all.1 there

fits_as : (s t : Statement) → s ≡ t → FitsStatement t → FitsStatement s
fits_as s t same fits = subst FitsStatement (sym same) fits

votes_fit : (kind : VoteKind) (votes : List (SignedBy Ballot)) (x : Statement) → AllByRecursion (FitsSigned (votes_of kind) (λ signer. FitsVote kind)) votes → Among x (map Voted votes) → FitsStatement x
votes_fit kind votes x all there =
    let found = given Voted votes x there in
    fits_as x (Voted found.value) found.is (all_among (FitsSigned (votes_of kind) (λ signer. FitsVote kind)) votes found.value all found.there).statement_fits.ballot_fits

marks_fit : (items : List (SignedBy Mark)) (x : Statement) → AllByRecursion (FitsSigned marks (λ signer. FitsMark)) items → Among x (map Marked items) → FitsStatement x
marks_fit items x all there =
    let found = given Marked items x there in
    fits_as x (Marked found.value) found.is (all_among (FitsSigned marks (λ signer. FitsMark)) items found.value all found.there).statement_fits

evidence_fits : (last : ℕ) (e : Evidence) (x : Statement) → FitsEvidence last e → Among x (parts_of_evidence e) → FitsStatement x
evidence_fits last evidence.Nothing x fits there = absurd there
evidence_fits last (evidence.Decided p) x fits there = votes_fit Accept p.accepts x fits.accepts_fit.1 there
evidence_fits last (evidence.Marked m) x fits there = marks_fit m.marks x fits.marks_fit.1 there

lock_fits : (lock : Option LockCertificate) (x : Statement) → FitsOptional FitsLockCertificate lock → Among x (parts_of_lock lock) → FitsStatement x
lock_fits None x fits there = absurd there
lock_fits (Some l) x fits there = votes_fit Write l.writes x fits.writes_fit.1 there

report_fits : (r : SignedBy Report) (x : Statement) → FitsReport r.statement → Among x (in_report r) → FitsStatement x
report_fits r x fits (inl is) = fits_as x (Reported r) is fits
report_fits r x fits (inr there) =
    ⊎_elim (λ e. evidence_fits r.statement.last r.statement.evidence x fits.evidence_fits e) (λ l. lock_fits r.statement.lock x fits.lock_fits l)
    (among_either x (parts_of_evidence r.statement.evidence) (parts_of_lock r.statement.lock) there)

alone_fits : (s x : Statement) → FitsStatement s → Among x (s ∷ []) → FitsStatement x
alone_fits s x fits (inl is) = fits_as x s is fits
alone_fits s x fits (inr none) = absurd none

within_fits : (s x : Statement) → FitsStatement s → Among x (within s) → FitsStatement x
within_fits (Reported r) x fits there = report_fits r x fits there
within_fits (Synced s) x fits (inl is) = fits_as x (Synced s) is fits
within_fits (Synced s) x fits (inr there) =
    let found = within_one in_report s.statement.collect x there in
    report_fits found.value x (all_among (FitsSigned reports (λ signer. FitsReport)) s.statement.collect found.value fits.collect_fits.1 found.there).statement_fits found.within
within_fits s x fits there = alone_fits s x fits there

batch_fits : (batch : Option Batch) (x : Statement) → FitsOptional FitsBatch batch → Among x (requests_of batch) → FitsStatement x
batch_fits None x fits there = absurd there
batch_fits (Some batch) x fits there =
    let found = given Asked batch x there in
    fits_as x (Asked found.value) found.is (all_among (FitsSigned requests FitsRequest) batch found.value fits.each_fits found.there).statement_fits

-- a statement that a message makes
pub made_fits : (m : Message) (s : Statement) → FitsContent m → Among s (own m) → FitsStatement s
made_fits m s fits there = all_among FitsStatement (own m) s (own_fits m fits) there

said_fits : (m : Message) (s : Statement) → FitsContent m → Among s (said m) → FitsStatement s
said_fits m s fits there =
    ⊎_elim (λ first. made_fits m s fits first)
    (λ rest. ⊎_elim (λ shown. all_among FitsStatement (proof_in (decision_in m)) s (proof_in_fits m fits) shown) (λ asked. batch_fits (batch_in m) s (batch_in_fits m fits) asked)
    (among_either s (proof_in (decision_in m)) (requests_of (batch_in m)) rest))
    (among_either s (own m) (proof_in (decision_in m) ++ requests_of (batch_in m)) there)

-- each statement that stands in a message that has a spelling
pub stands_fits : (m : Message) (x : Statement) → FitsContent m → Among x (statements_in m) → FitsStatement x
stands_fits m x fits there = let found = within_one within (said m) x there in within_fits found.value x (said_fits m found.value fits found.there) found.within

-- ---- statements that are alike are one

same_party-is : (a b : Party) → same_party a b ≡ true → a ≡ b
same_party-is (parties.Member a) (parties.Member b) same = ap (λ (i : ℕ). parties.Member i) (eqb-true a b same)
same_party-is (parties.Member a) (parties.Client b) same = absurd (cc)
same_party-is (parties.Client a) (parties.Member b) same = absurd (cc)
same_party-is (parties.Client a) (parties.Client b) same = ap (λ (i : ℕ). parties.Client i) (eqb-true a b same)

sealed_by : (a b : Sealed) → a.who ≡ b.who → a.text ≡ b.text → a.tag ≡ b.tag → a ≡ b
sealed_by a b who text tag =
    ap (λ (p : Party). record { who = p; text = a.text; tag = a.tag }) who
    ∙ (ap (λ (bytes : List ℕ). record { who = b.who; text = bytes; tag = a.tag }) text ∙ ap (λ (bytes : List ℕ). record { who = b.who; text = b.text; tag = bytes }) tag)

pub same_sealed-is : (a b : Sealed) → same_sealed a b ≡ true → a ≡ b
same_sealed-is a b same =
    let first = and_true (same_party a.who b.who) _ same in
    let rest = and_true (same_bytes a.text b.text) (same_bytes a.tag b.tag) first.1 in
    sealed_by a b (same_party-is a.who b.who first.0) (same_bytes_is a.text b.text rest.0) (same_bytes_is a.tag b.tag rest.1)
