-- A statement is told by its signer and its bytes, among those that are read.
use Rattle.std.proofs.Common.{◌≡◌, ⊎_elim, ℕ, Bool, true, false, List, [], ◌∷◌, ◌++◌, refl, ap, sym, ◌∙◌, subst, cond, inl, inr, eqb-true, Option, Some, None}
use Rattle.std.specs.Prelude.{map, filter}
use Rattle.std.specs.List.{flat_map, AllByRecursion}
use Rattle.smart_base.specs.Lists.{same_bytes}
use Rattle.smart_base.specs.declared.party.Party.{Party}
use Rattle.smart_base.specs.declared.party.Party.TheVariants as parties
use Rattle.smart_keys.specs.Keys.{tag_of}
use Rattle.smart_keys.proofs.Tags.{is_tag-equal}
use Rattle.smart_statements.specs.Forms.{SignedBy}
use Rattle.smart_statements.specs.Kinds.{requests}
use Rattle.smart_statements.specs.Batches.{Batch, FitsBatch}
use Rattle.smart_statements.specs.SignedLists.{FitsOptional}
use Rattle.smart_statements.specs.Reports.{reports, FitsReport, marks, FitsMark, FitsVote, votes_of, FitsEvidence, FitsLockCertificate}
use Rattle.smart_statements.specs.Spelling.{FitsRequest, FitsSigned}
use Rattle.smart_statements.specs.declared.statement.Request.{Request}
use Rattle.smart_statements.specs.declared.statement.VoteKind.{VoteKind}
use Rattle.smart_statements.specs.declared.statement.VoteKind.TheVariants.{Write, Accept}
use Rattle.smart_statements.specs.declared.statement.Ballot.{Ballot}
use Rattle.smart_statements.specs.declared.report.Mark.{Mark}
use Rattle.smart_statements.specs.declared.report.Report.{Report}
use Rattle.smart_statements.specs.declared.report.Evidence.{Evidence}
use Rattle.smart_statements.specs.declared.report.Evidence.TheVariants as evidence
use Rattle.smart_statements.specs.declared.report.LockCertificate.{LockCertificate}
use Rattle.smart_messages.specs.declared.message.Message.{Message}
use Rattle.smart_messages.specs.declared.message.Sealed.{Sealed}
use Rattle.smart_messages.specs.Messages.{FitsContent, batch_in, decision_in}
use Rattle.smart_messages.proofs.Messages.{FitsStatement, one_seal, own_fits, proof_in_fits, batch_in_fits}
use Rattle.vote_book.specs.Books.{Among}
use Rattle.agreement_laws.specs.Statements.{Statement, Asked, Voted, Reported, Synced, Marked, sealed_of, signer_of, verifies, within, in_report, parts_of_evidence, parts_of_lock, requests_of, own, proof_in, said, statements}
use Rattle.agreement_laws.proofs.Lists.{among_either, among_filtered, among_filter, among_flat, given, within_one}
use Rattle.world_rules.specs.Secrets.{group_secret}
use Rattle.world_rules.specs.Premises.{claim_of, bytes_stated, claims, same_party, same_claim}
use Rattle.world_rules.specs.declared.message.Content.{Content}
use Rattle.world_rules.specs.declared.message.Content.TheVariants as contents
use Rattle.world_rules.specs.Stated.{stated_in}
use Rattle.smart_base.proofs.SameLists.{and_true}
use Rattle.vote_book.proofs.Tested.{same_bytes_is}

-- statements that are alike are one

-- a statement that has a spelling, with its signer's tag
abbrev pub Proper : Statement → Type 0
Proper s = FitsStatement s × (verifies group_secret s ≡ true)

-- a signer's seal of some bytes
abbrev seal_by : Party → List ℕ → Sealed
seal_by who bytes = record { who = who; text = bytes; tag = tag_of group_secret who bytes }

-- what is verified bears its signer's seal
seal_is : (s : Statement) → verifies group_secret s ≡ true → sealed_of s ≡ seal_by (signer_of s) (bytes_stated s)
seal_is s is =
    ap (λ (t : List ℕ). record { who = signer_of s; text = bytes_stated s; tag = t })
    (is_tag-equal group_secret (signer_of s) (bytes_stated s) (sealed_of s).tag is)

-- two that claim one thing are one
one_claim : (s t : Statement) → Proper s → Proper t → signer_of s ≡ signer_of t → bytes_stated s ≡ bytes_stated t → s ≡ t
one_claim s t ps pt who same =
    one_seal s t ps.0 pt.0
    (seal_is s ps.1
    ∙ (ap (λ (p : Party). seal_by p (bytes_stated s)) who
    ∙ (ap (λ (bytes : List ℕ). seal_by (signer_of t) bytes) same ∙ sym (seal_is t pt.1))))

-- parties that are the same are equal
pub same_party-equal : (a b : Party) → same_party a b ≡ true → a ≡ b
same_party-equal (parties.Member a) (parties.Member b) same = ap (λ (i : ℕ). parties.Member i) (eqb-true a b same)
same_party-equal (parties.Member a) (parties.Client b) same = absurd (cc)
same_party-equal (parties.Client a) (parties.Member b) same = absurd (cc)
same_party-equal (parties.Client a) (parties.Client b) same = ap (λ (i : ℕ). parties.Client i) (eqb-true a b same)

-- so statements whose claims are the same are one
pub same_claim-one : (s t : Statement) → Proper s → Proper t → same_claim (claim_of s) (claim_of t) ≡ true → s ≡ t
same_claim-one s t ps pt same =
    let both = and_true (same_party (signer_of s) (signer_of t)) (same_bytes (bytes_stated s) (bytes_stated t)) same in
    one_claim s t ps pt (same_party-equal (signer_of s) (signer_of t) both.0) (same_bytes_is (bytes_stated s) (bytes_stated t) both.1)

-- what a content states it claims
pub claims_stated : (x : Content) → claims x ≡ map claim_of (stated_in x)
claims_stated (contents.Message m) = refl
claims_stated (contents.Raw bytes) = refl

-- what a message states

-- what a filter leaves passes its test
among_passes : {A : Type 0} (p : A → Bool) (xs : List A) (y : A) → Among y (filter p xs) → p y ≡ true
among_passes p [] y there = absurd there
among_passes {A} p (x ∷ xs) y there = by (p x) refl (λ later. among_passes p xs y later) there
  where
    by : (t : Bool) → p x ≡ t → (Among y (filter p xs) → p y ≡ true) → Among y (cond t (x ∷ filter p xs) (filter p xs)) → p y ≡ true
    by true is rest (inl same) = subst (λ (z : A). p z ≡ true) (sym same) is
    by true is rest (inr later) = rest later
    by false is rest later = rest later

-- it stands in what the message says, and bears its signer's tag
pub record IsSaid (m : Message) (x : Statement) : Type 0 where
  pub part : Statement
  pub said_there : Among part (said m)
  pub inside : Among x (within part)
  pub verified : verifies group_secret x ≡ true

pub message_says : (m : Message) (x : Statement) → Among x (statements group_secret m) → IsSaid m x
message_says m x there =
    let all = flat_map within (said m) in
    let found = within_one within (said m) x (among_filtered (verifies group_secret) all x there) in
    record { part = found.value; said_there = found.there; inside = found.within; verified = among_passes (verifies group_secret) all x there }

-- and what stands in what it says and bears its tag is stated
pub says_message : (m : Message) (part x : Statement) → Among part (said m) → Among x (within part) → verifies group_secret x ≡ true → Among x (statements group_secret m)
says_message m part x there inside verified = among_filter (verifies group_secret) (flat_map within (said m)) x (among_flat within (said m) part x there inside) verified

-- what holds by recursion, holds of each that is there
all_among : {A : Type 0} (P : A → Type 0) (xs : List A) (x : A) → AllByRecursion P xs → Among x xs → P x
all_among P [] x all there = absurd there
all_among P (y ∷ xs) x all (inl is) = subst P (sym is) all.0
all_among P (y ∷ xs) x all (inr there) = all_among P xs x all.1 there

-- what a statement is
fits_as : (s t : Statement) → s ≡ t → FitsStatement t → FitsStatement s
fits_as s t same fits = subst FitsStatement (sym same) fits

-- votes of one kind
votes_fit : (kind : VoteKind) (votes : List (SignedBy Ballot)) (x : Statement) → AllByRecursion (FitsSigned (votes_of kind) (λ signer. FitsVote kind)) votes → Among x (map Voted votes) → FitsStatement x
votes_fit kind votes x all there =
    let found = given Voted votes x there in
    fits_as x (Voted found.value) found.is (all_among (FitsSigned (votes_of kind) (λ signer. FitsVote kind)) votes found.value all found.there).statement_fits.ballot_fits

marks_fit : (items : List (SignedBy Mark)) (x : Statement) → AllByRecursion (FitsSigned marks (λ signer. FitsMark)) items → Among x (map Marked items) → FitsStatement x
marks_fit items x all there =
    let found = given Marked items x there in
    fits_as x (Marked found.value) found.is (all_among (FitsSigned marks (λ signer. FitsMark)) items found.value all found.there).statement_fits

evidence_fits : (last : ℕ) (e : Evidence) (x : Statement) → FitsEvidence last e → Among x (parts_of_evidence e) → FitsStatement x
evidence_fits last evidence.Nothing x fits there = absurd there
evidence_fits last (evidence.Decided p) x fits there = votes_fit Accept p.accepts x fits.accepts_fit.1 there
evidence_fits last (evidence.Marked m) x fits there = marks_fit m.marks x fits.marks_fit.1 there

lock_fits : (lock : Option LockCertificate) (x : Statement) → FitsOptional FitsLockCertificate lock → Among x (parts_of_lock lock) → FitsStatement x
lock_fits None x fits there = absurd there
lock_fits (Some l) x fits there = votes_fit Write l.writes x fits.writes_fit.1 there

-- what stands in a report
report_fits : (r : SignedBy Report) (x : Statement) → FitsReport r.statement → Among x (in_report r) → FitsStatement x
report_fits r x fits (inl is) = fits_as x (Reported r) is fits
report_fits r x fits (inr there) =
    ⊎_elim (λ e. evidence_fits r.statement.last r.statement.evidence x fits.evidence_fits e) (λ l. lock_fits r.statement.lock x fits.lock_fits l)
    (among_either x (parts_of_evidence r.statement.evidence) (parts_of_lock r.statement.lock) there)

alone_fits : (s x : Statement) → FitsStatement s → Among x (s ∷ []) → FitsStatement x
alone_fits s x fits (inl is) = fits_as x s is fits
alone_fits s x fits (inr none) = absurd none

-- what stands in a statement that has a spelling
within_fits : (s x : Statement) → FitsStatement s → Among x (within s) → FitsStatement x
within_fits (Reported r) x fits there = report_fits r x fits there
within_fits (Synced s) x fits (inl is) = fits_as x (Synced s) is fits
within_fits (Synced s) x fits (inr there) =
    let found = within_one in_report s.statement.collect x there in
    report_fits found.value x (all_among (FitsSigned reports (λ signer. FitsReport)) s.statement.collect found.value fits.collect_fits.1 found.there).statement_fits found.within
within_fits s x fits there = alone_fits s x fits there

-- a request of a batch
pub record OfBatch (batch : Batch) (x : Statement) : Type 0 where
  pub request : SignedBy Request
  pub there : Among request batch
  pub is : x ≡ Asked request

pub of_batch : (batch : Batch) (x : Statement) → Among x (map Asked batch) → OfBatch batch x
of_batch batch x there = let found = given Asked batch x there in record { request = found.value; there = found.there; is = found.is }

batch_fits : (batch : Batch) (x : Statement) → FitsBatch batch → Among x (map Asked batch) → FitsStatement x
batch_fits batch x fits there =
    let of = of_batch batch x there in
    fits_as x (Asked of.request) of.is (all_among (FitsSigned requests FitsRequest) batch of.request fits.each_fits of.there).statement_fits

there_fits : (batch : Option Batch) (x : Statement) → FitsOptional FitsBatch batch → Among x (requests_of batch) → FitsStatement x
there_fits None x fits there = absurd there
there_fits (Some batch) x fits there = batch_fits batch x fits there

-- what a message says
said_fits : (m : Message) (s : Statement) → FitsContent m → Among s (said m) → FitsStatement s
said_fits m s fits there =
    ⊎_elim (λ first. all_among FitsStatement (own m) s (own_fits m fits) first)
    (λ rest. ⊎_elim (λ shown. all_among FitsStatement (proof_in (decision_in m)) s (proof_in_fits m fits) shown) (λ asked. there_fits (batch_in m) s (batch_in_fits m fits) asked)
    (among_either s (proof_in (decision_in m)) (requests_of (batch_in m)) rest))
    (among_either s (own m) (proof_in (decision_in m) ++ requests_of (batch_in m)) there)

-- each statement of a message that is read is proper
pub message_proper : (m : Message) (x : Statement) → FitsContent m → Among x (statements group_secret m) → Proper x
message_proper m x fits there =
    let is : IsSaid m x = message_says m x there in
    (within_fits is.part x (said_fits m is.part fits is.said_there) is.inside, is.verified)
