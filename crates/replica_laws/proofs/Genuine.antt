-- Messages that have a spelling and whose statements bear the tag of their signer.
use Rattle.std.proofs.Common.{◌≡◌, ℕ, ◌+◌, ◌*◌, ◌^◌, ◌<◌, ◌≤◌, ◌++◌, true, List, [], ◌∷◌, length, length-append, refl, arith, Option, Some, None}
use Rattle.std.specs.Int.{w16}
use Rattle.std.specs.List.{list_all, flat_map, AllByRecursion}
use Rattle.smart_base.specs.Lists.{Each}
use Rattle.smart_base.specs.Spelling.{behind, IsCount}
use Rattle.smart_keys.proofs.Digests.{digest-length}
use Rattle.smart_keys.proofs.Tags.{tag_of-length, is_tag-tag_of}
use Rattle.smart_statements.specs.Forms.{Form, SignedBy, party_of}
use Rattle.smart_statements.specs.Kinds.{requests, proposals, ballots, answers}
use Rattle.smart_statements.specs.Batches.{Batch, batch_text, FitsBatch}
use Rattle.smart_messages.specs.Messages.{spelling, FitsContent}
use Rattle.smart_statements.specs.Spelling as spells
use Rattle.smart_statements.specs.Spelling.{FitsProposal, FitsBallot, FitsAnswer, FitsRequest, IsSigner, FitsSigned}
use Rattle.smart_statements.specs.Statements.{proposal_small, ballot_small, answer_small}
use Rattle.smart_statements.specs.SignedLists.{listed, FitsList, optional, FitsOptional}
use Rattle.smart_statements.specs.Reports as spells_report
use Rattle.smart_statements.specs.Reports.{reports, marks, votes_of, FitsVote, FitsMark, FitsReport, FitsEvidence, FitsLockCertificate}
use Rattle.smart_statements.specs.ReportLaws.{mark_small}
use Rattle.smart_messages.specs.Regencies as spells_change
use Rattle.smart_messages.specs.Regencies.{stops, syncs, view_infos, FitsStop, FitsSync, FitsViewInfo, stop_small, view_info_short, view_info_small}
use Rattle.smart_messages.proofs.Messages.{spelling_is}
use Rattle.smart_statements.specs.declared.statement.Request.{Request}
use Rattle.smart_statements.specs.declared.statement.Proposal.{Proposal}
use Rattle.smart_statements.specs.declared.statement.Ballot.{Ballot}
use Rattle.smart_statements.specs.declared.statement.VoteKind.{VoteKind}
use Rattle.smart_statements.specs.declared.statement.VoteKind.TheVariants.{Write, Accept}
use Rattle.smart_statements.specs.declared.statement.Answer.{Answer}
use Rattle.smart_statements.specs.declared.report.Evidence.{Evidence}
use Rattle.smart_statements.specs.declared.report.Evidence.TheVariants as evidence
use Rattle.smart_statements.specs.declared.report.LockCertificate.{LockCertificate}
use Rattle.smart_statements.specs.declared.report.Mark.{Mark}
use Rattle.smart_statements.specs.declared.report.Report.{Report}
use Rattle.smart_messages.specs.declared.regency.Stop.{Stop}
use Rattle.smart_messages.specs.declared.regency.Sync.{Sync}
use Rattle.smart_messages.specs.declared.regency.ViewInfo.{ViewInfo}
use Rattle.smart_messages.specs.declared.message.Message.TheVariants as changes
use Rattle.smart_messages.specs.declared.message.Message.TheVariants.{Ask, Propose, Vote, Reply}
use Rattle.smart_messages.specs.declared.message.Message.{Message}
use Rattle.replica_rules.specs.Seals.{signed, is_verified, digest_of}
use Rattle.replica_laws.specs.Sending.{all_tagged, is_tagged, IsTerse, AreTerse, IsGenuine}
use Rattle.smart_base.proofs.SameLists.{and_true}
use Rattle.std.proofs.lemmas.Bool.{and_from}
use Rattle.transfer_form.specs.Transfers.{IsMember}
use Rattle.transfer_form.specs.declared.transfer.ProvenBatch.{ProvenBatch}
use Rattle.transfer_form.specs.declared.transfer.StateAsk.{StateAsk}
use Rattle.transfer_form.specs.declared.transfer.StateOffer.{StateOffer}
use Rattle.transfer_form.specs.declared.transfer.StatePart.{StatePart}

-- its parts have spellings, and it has one itself where the reports in it bear no idle evidence. Each statement in it bears its signer's tag
pub record IsGood (secret : List ℕ) (message : Message) : Type 0 where
  pub fits : FitsContent message
  pub short : AreTerse message → length (spelling message) ≤ 1048576
  pub tagged : is_tagged secret message ≡ true

-- so it is read as itself
pub good-genuine : (secret : List ℕ) (x : Message) → IsGood secret x → IsGenuine secret x
good-genuine secret x is = record {
  read = λ terse. spelling_is x (record { content_fits = is.fits; bytes_fit = is.short terse });
  tagged = is.tagged;
}

-- what is signed is verified
pub signed-verified : {A : Type 0} (form : Form A) (secret : List ℕ) (signer : ℕ) (s : A) → is_verified form secret (signed form secret signer s) ≡ true
signed-verified form secret signer s = is_tag-tag_of secret (party_of form.kind signer) (form.spell s)

-- a digest of a batch has its length
pub digest_of-length : (batch : Batch) → length (digest_of batch) ≡ 32
unfolding digest_of
digest_of-length batch = digest-length (batch_text batch)

-- what is signed has a spelling where its statement has one
pub signed-fits : {A : Type 0} (form : Form A) (fits : ℕ → A → Type 0) (secret : List ℕ) (signer : ℕ) (s : A) → IsSigner form.kind signer → fits signer s → length (form.spell s) < 2 ^ 32
    → FitsSigned form fits (signed form secret signer s)
signed-fits form fits secret signer s named fit small =
    let long = tag_of-length secret (party_of form.kind signer) (form.spell s) in
    record { signer_fits = named; statement_fits = fit; text_fits = small; tag_fits = (omega (arith, long), omega (arith, long)) }

-- how long a signed statement is
pub signed-length : {A : Type 0} (form : Form A) (s : SignedBy A) → length (spells.signed form s) ≡ 9 + (length (form.spell s.statement) + length s.tag)
signed-length form s = omega (arith, length-append (form.spell s.statement) (behind w16 s.tag))

-- how long messages of one signed statement are
tag-length : {A : Type 0} (form : Form A) (secret : List ℕ) (signer : ℕ) (s : A) → length (spells.signed form (signed form secret signer s)) ≡ 41 + length (form.spell s)
tag-length form secret signer s = omega (arith, signed-length form (signed form secret signer s), tag_of-length secret (party_of form.kind signer) (form.spell s))

-- a client's request, as it came
pub ask-good : (secret : List ℕ) (q : SignedBy Request) → FitsSigned requests FitsRequest q → is_verified requests secret q ≡ true → IsGood secret (Ask q)
unfolding spelling
ask-good secret q fit tagged =
    let long = signed-length requests q in
    let text : length (spells.request q.statement) ≡ 23 + length q.statement.op = omega arith in
    record { fits = fit; short = λ terse. omega (arith, long, text, fit.statement_fits.op_fits, fit.tag_fits); tagged = tagged }

-- a member's vote
pub vote-good : (secret : List ℕ) (id : ℕ) (b : Ballot) → IsSigner 1 id → FitsBallot b → IsGood secret (Vote (signed ballots secret id b))
unfolding spelling
vote-good secret id b named fit =
    let long = tag-length ballots secret id b in
    let text : length (spells.ballot b) ≡ 17 + length b.digest = omega arith in
    record {
      fits = signed-fits ballots (λ signer. FitsBallot) secret id b named fit (ballot_small b fit.digest_fits);
      short = λ terse. omega (arith, long, text, fit.digest_fits);
      tagged = signed-verified ballots secret id b;
    }

-- a member's reply
pub reply-good : (secret : List ℕ) (id : ℕ) (a : Answer) → IsSigner 1 id → FitsAnswer a → IsGood secret (Reply (signed answers secret id a))
unfolding spelling
reply-good secret id a named fit =
    let long = tag-length answers secret id a in
    let text : length (spells.answer a) ≡ 29 + length a.reply = omega arith in
    record {
      fits = signed-fits answers (λ signer. FitsAnswer) secret id a named fit (answer_small a fit.reply_fits);
      short = λ terse. omega (arith, long, text, fit.reply_fits);
      tagged = signed-verified answers secret id a;
    }

-- a member's statement of a view
pub told-good : (secret : List ℕ) (id : ℕ) (i : ViewInfo) → IsSigner 1 id → FitsViewInfo i → IsGood secret (changes.ViewTold (signed view_infos secret id i))
unfolding spelling
told-good secret id i named fit =
    let long = tag-length view_infos secret id i in
    let text = view_info_short i fit in
    record {
      fits = signed-fits view_infos (λ signer. FitsViewInfo) secret id i named fit (view_info_small i fit);
      short = λ terse. omega (arith, long, text);
      tagged = signed-verified view_infos secret id i;
    }

-- a member's mark
pub mark-good : (secret : List ℕ) (id : ℕ) (k : Mark) → IsSigner 1 id → FitsMark k → IsGood secret (changes.Mark (signed marks secret id k))
unfolding spelling
mark-good secret id k named fit =
    let long = tag-length marks secret id k in
    let text : length (spells_report.mark k) ≡ 9 + length k.digest = omega arith in
    record {
      fits = signed-fits marks (λ signer. FitsMark) secret id k named fit (mark_small k fit.digest_fits);
      short = λ terse. omega (arith, long, text, fit.digest_fits);
      tagged = signed-verified marks secret id k;
    }

-- each request of a batch bears its client's tag
abbrev pub AreVerified : List ℕ → Batch → Type 0
AreVerified secret batch = list_all (λ q. is_verified requests secret q) batch ≡ true

-- a leader's proposal
pub propose-good : (secret : List ℕ) (id : ℕ) (p : Proposal) (batch : Batch) → IsSigner 1 id → FitsProposal p → FitsBatch batch → AreVerified secret batch
    → IsGood secret (Propose (record { head = signed proposals secret id p; batch = batch }))
unfolding spelling
propose-good secret id p batch named fit all tagged =
    let long = tag-length proposals secret id p in
    let text : length (spells.proposal p) ≡ 17 + length p.digest = omega arith in
    record {
      fits = (signed-fits proposals (λ signer. FitsProposal) secret id p named fit (proposal_small p fit.digest_fits), all);
      short = λ terse. omega (arith, long, text, fit.digest_fits, all.bytes_fit, length-append (spells.signed proposals (signed proposals secret id p)) (batch_text batch));
      tagged = and_from (is_verified proposals secret (signed proposals secret id p)) (list_all (λ q. is_verified requests secret q) batch)
          (signed-verified proposals secret id p) tagged;
    }

-- a batch of one request
pub single-fits : (q : SignedBy Request) → FitsSigned requests FitsRequest q → FitsBatch (q ∷ [])
unfolding batch_text
single-fits q fit =
    let long = signed-length requests q in
    let text : length (spells.request q.statement) ≡ 23 + length q.statement.op = omega arith in
    record {
      count_fits = (omega arith, omega arith);
      each_fits = (fit, tt);
      bytes_fit = omega (arith, long, text, fit.statement_fits.op_fits, fit.tag_fits, length-append (spells.signed requests q) []);
    }

-- whose request bears its tag
pub single-verified : (secret : List ℕ) (q : SignedBy Request) → is_verified requests secret q ≡ true → AreVerified secret (q ∷ [])
single-verified secret q tagged = and_from (is_verified requests secret q) true tagged refl

-- a batch of one request more, within the limits
pub longer-fits : (batch : Batch) (q : SignedBy Request) → FitsBatch batch → FitsSigned requests FitsRequest q → length (batch ++ q ∷ []) ≤ 64 → length (batch_text (batch ++ q ∷ [])) ≤ 262144 → FitsBatch (batch ++ q ∷ [])
longer-fits batch q is fit few short =
    record { count_fits = (omega (arith, length-append batch (q ∷ [])), few); each_fits = all_end batch is.each_fits; bytes_fit = short }
  where
    all_end : (qs : Batch) → AllByRecursion (FitsSigned requests FitsRequest) qs → AllByRecursion (FitsSigned requests FitsRequest) (qs ++ q ∷ [])
    all_end [] all = (fit, tt)
    all_end (r ∷ rs) all = (all.0, all_end rs all.1)

-- whose request bears its tag too
pub longer-verified : (secret : List ℕ) (batch : Batch) (q : SignedBy Request) → AreVerified secret batch → is_verified requests secret q ≡ true → AreVerified secret (batch ++ q ∷ [])
longer-verified secret [] q are tagged = single-verified secret q tagged
longer-verified secret (r ∷ rs) q are tagged =
    let both = and_true (is_verified requests secret r) (list_all (λ x. is_verified requests secret x) rs) are in
    and_from (is_verified requests secret r) (list_all (λ x. is_verified requests secret x) (rs ++ q ∷ [])) both.0 (longer-verified secret rs q both.1 tagged)

-- ---- changes of the regency

-- a member's wish for a regency
pub stop-good : (secret : List ℕ) (id : ℕ) (s : Stop) → IsSigner 1 id → FitsStop s → IsGood secret (changes.Stop (signed stops secret id s))
unfolding spelling
stop-good secret id s named fit =
    let long = tag-length stops secret id s in
    let text : length (spells_change.stop s) ≡ 9 = omega arith in
    record {
      fits = signed-fits stops (λ signer. FitsStop) secret id s named fit (stop_small s);
      short = λ terse. omega (arith, long, text);
      tagged = signed-verified stops secret id s;
    }

-- votes of one kind, of at most so many members
pub record FitVotes (kind : VoteKind) (votes : List (SignedBy Ballot)) : Type 0 where
  pub few : length votes ≤ 31
  pub all : AllByRecursion (FitsSigned (votes_of kind) (λ signer. FitsVote kind)) votes

pub votes-list : (kind : VoteKind) (votes : List (SignedBy Ballot)) → FitVotes kind votes → FitsList (votes_of kind) (λ signer. FitsVote kind) votes
votes-list kind votes fit = let few = fit.few in (omega (arith, few), fit.all)

vote-length : (kind : VoteKind) (b : SignedBy Ballot) → FitsSigned (votes_of kind) (λ signer. FitsVote kind) b → length (spells.signed (votes_of kind) b) ≤ 4154
vote-length kind b fit =
    let long = signed-length (votes_of kind) b in
    let text : length (spells.ballot b.statement) ≡ 17 + length b.statement.digest = omega arith in
    let digest = fit.statement_fits.ballot_fits.digest_fits in
    omega (arith, long, text, digest, fit.tag_fits)

votes-text : (kind : VoteKind) (votes : List (SignedBy Ballot)) → AllByRecursion (FitsSigned (votes_of kind) (λ signer. FitsVote kind)) votes
    → length (flat_map (spells.signed (votes_of kind)) votes) ≤ 4154 * length votes
votes-text kind [] all = omega arith
votes-text kind (b ∷ votes) all =
    let one = vote-length kind b all.0 in
    let rest = votes-text kind votes all.1 in
    let long = length-append (spells.signed (votes_of kind) b) (flat_map (spells.signed (votes_of kind)) votes) in
    omega (arith, one, rest, long)

votes-length : (kind : VoteKind) (votes : List (SignedBy Ballot)) → FitVotes kind votes → length (listed (votes_of kind) votes) ≤ 128776
votes-length kind votes fit =
    let text = votes-text kind votes fit.all in
    let few = fit.few in
    omega (arith, text, few)

-- marks of at most so many members
pub record FitMarks (most : ℕ) (ms : List (SignedBy Mark)) : Type 0 where
  pub few : length ms ≤ most
  pub all : AllByRecursion (FitsSigned marks (λ signer. FitsMark)) ms

mark-length : (k : SignedBy Mark) → FitsSigned marks (λ signer. FitsMark) k → length (spells.signed marks k) ≤ 4146
mark-length k fit =
    let long = signed-length marks k in
    let text : length (spells_report.mark k.statement) ≡ 9 + length k.statement.digest = omega arith in
    omega (arith, long, text, fit.statement_fits.digest_fits, fit.tag_fits)

marks-text : (ms : List (SignedBy Mark)) → AllByRecursion (FitsSigned marks (λ signer. FitsMark)) ms → length (flat_map (spells.signed marks) ms) ≤ 4146 * length ms
marks-text [] all = omega arith
marks-text (k ∷ ms) all =
    let one = mark-length k all.0 in
    let rest = marks-text ms all.1 in
    let long = length-append (spells.signed marks k) (flat_map (spells.signed marks) ms) in
    omega (arith, one, rest, long)

marks-length : (ms : List (SignedBy Mark)) → AllByRecursion (FitsSigned marks (λ signer. FitsMark)) ms → length (listed marks ms) ≤ 2 + 4146 * length ms
marks-length ms all = let text = marks-text ms all in omega (arith, text)

-- evidence of a place that was decided or installed, and none before the first
abbrev pub FitEvidence : ℕ → Evidence → Type 0
FitEvidence last evidence.Nothing = last ≡ 0
FitEvidence last (evidence.Decided p) = ((p.view < 2 ^ 32) × (p.regency < 2 ^ 32)) × ((length p.digest ≡ 32) × FitVotes Accept p.accepts)
FitEvidence last (evidence.Marked m) = (m.view < 2 ^ 32) × ((length m.digest ≡ 32) × FitMarks 31 m.marks)

evidence-fits : (last : ℕ) (e : Evidence) → FitEvidence last e → FitsEvidence last e
evidence-fits last evidence.Nothing fit = fit
evidence-fits last (evidence.Decided p) fit = record { view_fits = fit.0.0; regency_fits = fit.0.1; digest_fits = fit.1.0; accepts_fit = votes-list Accept p.accepts fit.1.1 }
evidence-fits last (evidence.Marked m) fit =
    let few = fit.1.1.few in
    record { view_fits = fit.0; digest_fits = fit.1.0; marks_fit = (omega (arith, few), fit.1.1.all) }

evidence-length : (last : ℕ) (e : Evidence) → FitEvidence last e → length (spells_report.evidence e) ≤ 128817
evidence-length last evidence.Nothing fit = omega arith
evidence-length last (evidence.Decided p) fit =
    let list = votes-length Accept p.accepts fit.1.1 in
    let digest = fit.1.0 in
    let long = length-append p.digest (listed (votes_of Accept) p.accepts) in
    omega (arith, list, digest, long)
evidence-length last (evidence.Marked m) fit =
    let list = marks-length m.marks fit.1.1.all in
    let few = fit.1.1.few in
    let digest = fit.1.0 in
    let long = length-append m.digest (listed marks m.marks) in
    omega (arith, list, few, digest, long)

-- a lock
abbrev pub FitLock : Option LockCertificate → Type 0
FitLock None = Unit {0}
FitLock (Some l) = (l.regency < 2 ^ 32) × ((length l.digest ≡ 32) × FitVotes Write l.writes)

lock-fits : (lock : Option LockCertificate) → FitLock lock → FitsOptional FitsLockCertificate lock
lock-fits None fit = tt
lock-fits (Some l) fit = record { regency_fits = fit.0; digest_fits = fit.1.0; writes_fit = votes-list Write l.writes fit.1.1 }

lock-length : (lock : Option LockCertificate) → FitLock lock → length (optional spells_report.lock_certificate lock) ≤ 128813
lock-length None fit = omega arith
lock-length (Some l) fit =
    let list = votes-length Write l.writes fit.1.1 in
    let digest = fit.1.0 in
    let long = length-append l.digest (listed (votes_of Write) l.writes) in
    omega (arith, list, digest, long)

-- a report of a member's own
pub record FitReport (s : Report) : Type 0 where
  pub view_fits : s.view < 2 ^ 32
  pub regency_fits : s.regency < 2 ^ 32
  pub last_fits : s.last < 2 ^ 63
  pub evidence_fits : FitEvidence s.last s.evidence
  pub lock_fits : FitLock s.lock

report-length : (s : Report) → FitReport s → length (spells_report.report s) ≤ 257647
report-length s fit =
    let one = evidence-length s.last s.evidence fit.evidence_fits in
    let two = lock-length s.lock fit.lock_fits in
    let long = length-append (spells_report.evidence s.evidence) (optional spells_report.lock_certificate s.lock) in
    omega (arith, one, two, long)

report-fits : (s : Report) → FitReport s → FitsReport s
report-fits s fit = record {
  view_fits = fit.view_fits;
  regency_fits = fit.regency_fits;
  last_fits = fit.last_fits;
  evidence_fits = evidence-fits s.last s.evidence fit.evidence_fits;
  lock_fits = lock-fits s.lock fit.lock_fits;
}

-- a batch that may be there
abbrev pub FitsSome : List ℕ → Option Batch → Type 0
FitsSome secret None = Unit {0}
FitsSome secret (Some batch) = FitsBatch batch × AreVerified secret batch

some-fits : (secret : List ℕ) (batch : Option Batch) → FitsSome secret batch → FitsOptional FitsBatch batch
some-fits secret None fit = tt
some-fits secret (Some batch) fit = fit.0

some-tagged : (secret : List ℕ) (batch : Option Batch) → FitsSome secret batch → all_tagged secret batch ≡ true
some-tagged secret None fit = refl
some-tagged secret (Some batch) fit = fit.1

some-length : (secret : List ℕ) (batch : Option Batch) → FitsSome secret batch → length (optional batch_text batch) ≤ 262145
some-length secret None fit = omega arith
some-length secret (Some batch) fit = let short = fit.0.bytes_fit in omega (arith, short)

-- a member's report to a leader, with the batch of its lock
pub report-good : (secret : List ℕ) (id : ℕ) (s : Report) (batch : Option Batch) → IsSigner 1 id → FitReport s → FitsSome secret batch
    → IsGood secret (changes.StopData (record { head = signed reports secret id s; batch = batch }))
unfolding spelling
report-good secret id s batch named fit some =
    let long = tag-length reports secret id s in
    let text = report-length s fit in
    let short = some-length secret batch some in
    let both = length-append (spells.signed reports (signed reports secret id s)) (optional batch_text batch) in
    record {
      fits = (signed-fits reports (λ signer. FitsReport) secret id s named (report-fits s fit) (omega (arith, text)), some-fits secret batch some);
      short = λ terse. omega (arith, long, text, short, both);
      tagged = and_from (is_verified reports secret (signed reports secret id s)) (all_tagged secret batch) (signed-verified reports secret id s) (some-tagged secret batch some);
    }

-- a report that came: it has a spelling, no longer than a message, and bears its member's tag
pub record FitsCollected (secret : List ℕ) (r : SignedBy Report) : Type 0 where
  pub signed_fits : FitsSigned reports (λ signer. FitsReport) r
  pub short : length (spells.signed reports r) ≤ 1048576
  pub brief : IsTerse r.statement → length (spells.signed reports r) ≤ 5720
  pub tagged : is_verified reports secret r ≡ true

collect-text : (secret : List ℕ) (rs : List (SignedBy Report)) → Each (FitsCollected secret) rs → length (flat_map (spells.signed reports) rs) ≤ 1048576 * length rs
collect-text secret [] each = omega arith
collect-text secret (r ∷ rs) each =
    let one = each.0.short in
    let rest = collect-text secret rs each.1 in
    let long = length-append (spells.signed reports r) (flat_map (spells.signed reports) rs) in
    omega (arith, one, rest, long)

collect-fits : (secret : List ℕ) (rs : List (SignedBy Report)) → Each (FitsCollected secret) rs → AllByRecursion (FitsSigned reports (λ signer. FitsReport)) rs
collect-fits secret [] each = tt
collect-fits secret (r ∷ rs) each = (each.0.signed_fits, collect-fits secret rs each.1)

collect-tagged : (secret : List ℕ) (rs : List (SignedBy Report)) → Each (FitsCollected secret) rs → list_all (λ r. is_verified reports secret r) rs ≡ true
collect-tagged secret [] each = refl
collect-tagged secret (r ∷ rs) each = and_from (is_verified reports secret r) (list_all (λ x. is_verified reports secret x) rs) each.0.tagged (collect-tagged secret rs each.1)

terse-text : (secret : List ℕ) (rs : List (SignedBy Report)) → Each (FitsCollected secret) rs → Each (λ r. IsTerse r.statement) rs → length (flat_map (spells.signed reports) rs) ≤ 5720 * length rs
terse-text secret [] each terse = omega arith
terse-text secret (r ∷ rs) each terse =
    let one = each.0.brief terse.0 in
    let rest = terse-text secret rs each.1 terse.1 in
    let long = length-append (spells.signed reports r) (flat_map (spells.signed reports) rs) in
    omega (arith, one, rest, long)

sync-short : (secret : List ℕ) (id : ℕ) (s : Sync) → length s.collect ≤ 31 → length (flat_map (spells.signed reports) s.collect) ≤ 5720 * length s.collect
    → length (spelling (changes.Sync (signed syncs secret id s))) ≤ 1048576
unfolding spelling
sync-short secret id s few text = let long = tag-length syncs secret id s in omega (arith, long, few, text)

-- the beginning of a regency, with the reports of few members: all its parts have a spelling
pub sync-good : (secret : List ℕ) (id : ℕ) (s : Sync) → IsSigner 1 id → s.view < 2 ^ 32 → s.regency < 2 ^ 32 → length s.collect ≤ 31 → Each (FitsCollected secret) s.collect
    → IsGood secret (changes.Sync (signed syncs secret id s))
sync-good secret id s named view regency few each =
    let text = collect-text secret s.collect each in
    record {
      fits = signed-fits syncs (λ signer. FitsSync) secret id s named
          (record { view_fits = view; regency_fits = regency; collect_fits = (omega (arith, few), collect-fits secret s.collect each) }) (omega (arith, text, few));
      short = λ terse. sync-short secret id s few (terse-text secret s.collect each terse);
      tagged = and_from (is_verified syncs secret (signed syncs secret id s)) (list_all (λ r. is_verified reports secret r) s.collect) (signed-verified syncs secret id s) (collect-tagged secret s.collect each);
    }

-- ---- what members exchange to take over a replica

-- a decided batch that is shown to another
pub decision-good : (secret : List ℕ) (d : ProvenBatch) → IsCount d.place → FitsBatch d.batch → FitVotes Accept d.accepts → Each (λ b. is_verified ballots secret b ≡ true) d.accepts
    → AreVerified secret d.batch → IsGood secret (changes.Decision d)
unfolding spelling
decision-good secret d place batch accepts voted tagged =
    let list = votes-length Accept d.accepts accepts in
    let long = length-append (batch_text d.batch) (listed (votes_of Accept) d.accepts) in
    record {
      fits = record { place_fits = place; batch_fits = batch; accepts_fit = votes-list Accept d.accepts accepts };
      short = λ terse. omega (arith, list, long, batch.bytes_fit);
      tagged = and_from (list_all (λ b. is_verified ballots secret b) d.accepts) (list_all (λ q. is_verified requests secret q) d.batch) (each_verified d.accepts voted) tagged;
    }
  where
    each_verified : (bs : List (SignedBy Ballot)) → Each (λ b. is_verified ballots secret b ≡ true) bs → list_all (λ b. is_verified ballots secret b) bs ≡ true
    each_verified [] each = refl
    each_verified (b ∷ bs) each = and_from (is_verified ballots secret b) (list_all (λ x. is_verified ballots secret x) bs) each.0 (each_verified bs each.1)

-- a member's ask for state
pub ask_state-good : (secret : List ℕ) (a : StateAsk) → IsMember a.member → a.place < 2 ^ 63 → a.fetch < 2 ^ 63 → IsGood secret (changes.StateAsk a)
unfolding spelling
ask_state-good secret a named place fetch = record { fits = record { member_fits = named; place_fits = place; fetch_fits = fetch }; short = λ terse. omega arith; tagged = refl }

-- a member's offer
pub offer-good : (secret : List ℕ) (o : StateOffer) → IsMember o.member → o.place < 2 ^ 63 → o.size < 2 ^ 32 → FitMarks 64 o.marks → list_all (λ m. is_verified marks secret m) o.marks ≡ true
    → IsGood secret (changes.StateOffer o)
unfolding spelling
offer-good secret o named place size few tagged =
    let list = marks-length o.marks few.all in
    let most = few.few in
    record {
      fits = record { member_fits = named; place_fits = place; size_fits = size; marks_fit = (few.few, few.all) };
      short = λ terse. omega (arith, list, most);
      tagged = tagged;
    }

-- a part of a snapshot
pub part-good : (secret : List ℕ) (p : StatePart) → IsCount p.place → p.index < 2 ^ 32 → p.total < 2 ^ 32 → length p.bytes ≤ 65536 → IsGood secret (changes.StatePart p)
unfolding spelling
part-good secret p place index total short =
    record { fits = record { place_fits = place; index_fits = index; total_fits = total; bytes_fit = short }; short = λ terse. omega (arith, short); tagged = refl }
