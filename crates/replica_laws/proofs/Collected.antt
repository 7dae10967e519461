-- How long a report is whose evidence and lock hold.
use Rattle.std.proofs.Common.{◌≡◌, inl, inr, ℕ, ◌+◌, ◌*◌, ◌<◌, ◌≤◌, ◌==◌, ◌||◌, Bool, true, false, not, List, [], ◌∷◌, length, length-append, filter, refl, ap, sym, ◌∙◌, subst, cond, nat_le, arith, Option, Some, None, eqb-true}
use Rattle.std.specs.Prelude.{IfSome, IsSomeAnd}
use Rattle.std.specs.List.{list_any, flat_map, AllByRecursion}
use Rattle.smart_base.specs.Lists.{Each, Distinct}
use Rattle.smart_base.specs.Views.{View, is_view, is_member}
use Rattle.smart_base.proofs.ViewLaws.{members-few}
use Rattle.smart_keys.proofs.Tags.{tag_of-length, is_tag-equal}
use Rattle.smart_statements.specs.Forms.{Form, SignedBy, party_of}
use Rattle.smart_statements.specs.Kinds.{ballots}
use Rattle.smart_statements.specs.Spelling as spells
use Rattle.smart_statements.specs.Spelling.{FitsSigned}
use Rattle.smart_statements.specs.SignedLists.{listed, optional, FitsOptional}
use Rattle.smart_statements.specs.Reports as spells_report
use Rattle.smart_statements.specs.Reports.{reports, marks, votes_of, FitsVote, FitsMark, FitsReport, FitsEvidence, FitsLockCertificate}
use Rattle.smart_statements.specs.declared.statement.Ballot.{Ballot}
use Rattle.smart_statements.specs.declared.statement.VoteKind.{VoteKind}
use Rattle.smart_statements.specs.declared.statement.VoteKind.TheVariants.{Write, Accept}
use Rattle.smart_statements.specs.declared.report.DecisionProof.{DecisionProof}
use Rattle.smart_statements.specs.declared.report.Evidence.{Evidence}
use Rattle.smart_statements.specs.declared.report.Evidence.TheVariants as evidence
use Rattle.smart_statements.specs.declared.report.LockCertificate.{LockCertificate}
use Rattle.smart_statements.specs.declared.report.Mark.{Mark}
use Rattle.smart_statements.specs.declared.report.MarkCertificate.{MarkCertificate}
use Rattle.smart_statements.specs.declared.report.Report.{Report}
use Rattle.certificates.specs.Certificates.{AreSigned, IsDecisionProof, IsMarkCertificate, signers}
use Rattle.certificates.specs.Collects.{view_holding, view_numbered, slot_of, EvidenceHolds, evidence_holds, has_no_false_lock}
use Rattle.certificates.proofs.Reported.{evidence-exact, lock-exact}
use Rattle.replica_rules.specs.Seals.{is_verified}
use Rattle.replica_laws.specs.Sending.{IsTerse}
use Rattle.replica_laws.proofs.Lists.{if_or, if_cond}
use Rattle.replica_laws.proofs.Genuine.{signed-length}
use Rattle.agreement_laws.proofs.Groups.{signers_length}
use Rattle.agreement_laws.proofs.Lists.{either}
use Rattle.std.proofs.lemmas.Bool.{or_parts}

-- ---- distinct members are few

without : ℕ → List ℕ → List ℕ
without x members = filter (λ m. not (m == x)) members

no_longer : (x : ℕ) (members : List ℕ) → length (without x members) ≤ length members
unfolding without
no_longer x [] = omega arith
no_longer x (m ∷ ms) =
    let rest = no_longer x ms in
    either (λ (ys : List ℕ). length ys ≤ length (m ∷ ms)) (not (m == x)) (m ∷ without x ms) (without x ms) (omega (arith, rest)) (omega (arith, rest))

shorter_step : (x m : ℕ) (ms : List ℕ) (same : Bool) → (list_any (λ y. y == x) ms ≡ true → length (without x ms) < length ms) → (same || list_any (λ y. y == x) ms) ≡ true
    → length (cond (not same) (m ∷ without x ms) (without x ms)) < length (m ∷ ms)
shorter_step x m ms true rest is = let le = no_longer x ms in omega (arith, le)
shorter_step x m ms false rest is = let less = rest is in omega (arith, less)

shorter : (x : ℕ) (members : List ℕ) → list_any (λ m. m == x) members ≡ true → length (without x members) < length members
unfolding without
shorter x [] is = absurd (cc)
shorter x (m ∷ ms) is = shorter_step x m ms (m == x) (shorter x ms) is

stays_step : (x s m : ℕ) (ms : List ℕ) (here same : Bool) → (m == s) ≡ here → (m == x) ≡ same → (s == x) ≡ false → (list_any (λ y. y == s) ms ≡ true → list_any (λ y. y == s) (without x ms) ≡ true)
    → (here || list_any (λ y. y == s) ms) ≡ true → list_any (λ y. y == s) (cond (not same) (m ∷ without x ms) (without x ms)) ≡ true
stays_step x s m ms true true is_here is_same apart rest there =
    let e : m ≡ s = eqb-true m s is_here in
    let clash : (s == x) ≡ true = subst (λ (k : ℕ). (k == x) ≡ true) e is_same in
    absurd (cc)
stays_step x s m ms true false is_here is_same apart rest there = rw is_here refl
stays_step x s m ms false true is_here is_same apart rest there = rest there
stays_step x s m ms false false is_here is_same apart rest there = rw is_here (rest there)

stays : (x s : ℕ) (members : List ℕ) → (s == x) ≡ false → list_any (λ m. m == s) members ≡ true → list_any (λ m. m == s) (without x members) ≡ true
unfolding without
stays x s [] apart there = absurd (cc)
stays x s (m ∷ ms) apart there = stays_step x s m ms (m == s) (m == x) refl refl apart (stays x s ms apart) there

all_stay : (x : ℕ) (names members : List ℕ) → list_any (λ y. y == x) names ≡ false → Each (λ s. list_any (λ m. m == s) members ≡ true) names
    → Each (λ s. list_any (λ m. m == s) (without x members) ≡ true) names
all_stay x [] members apart each = tt
all_stay x (s ∷ names) members apart each =
    let parts = or_parts (s == x) (list_any (λ y. y == x) names) apart in
    (stays x s members parts.0 each.0, all_stay x names members parts.1 each.1)

distinct_few : (names members : List ℕ) → Distinct names → Each (λ s. list_any (λ m. m == s) members ≡ true) names → length names ≤ length members
distinct_few [] members distinct each = omega arith
distinct_few (x ∷ names) members distinct each =
    let less = shorter x members each.0 in
    let rest = distinct_few names (without x members) distinct.1 (all_stay x names members distinct.0 each.1) in
    omega (arith, less, rest)

signed_members : {S : Type 0} (v : View) (items : List (SignedBy S)) → Each (λ item. is_member v item.signer ≡ true) items → Each (λ s. list_any (λ m. m == s) v.members ≡ true) (signers items)
signed_members v [] each = tt
signed_members v (item ∷ items) each = (each.0, signed_members v items each.1)

-- statements of distinct members of a view
signed-few : {A : Type 0} (secret : List ℕ) (form : Form A) (v : View) (Wanted : A → Type 0) (items : List (SignedBy A)) → is_view v ≡ true → AreSigned A secret form v Wanted items → length items ≤ 31
signed-few secret form v Wanted items is signed =
    let few = distinct_few (signers items) v.members signed.distinct (signed_members v items signed.members) in
    let same = signers_length items in
    let members = members-few v is in
    omega (arith, few, same, members)

-- ---- lengths

-- a tag that is a party's
pub tag-is : {A : Type 0} (form : Form A) (secret : List ℕ) (s : SignedBy A) → is_verified form secret s ≡ true → length s.tag ≡ 32
tag-is form secret s is =
    ap (λ (t : List ℕ). length t) (is_tag-equal secret (party_of form.kind s.signer) (form.spell s.statement) s.tag is)
    ∙ tag_of-length secret (party_of form.kind s.signer) (form.spell s.statement)

votes-text : (secret : List ℕ) (kind : VoteKind) (votes : List (SignedBy Ballot)) → AllByRecursion (FitsSigned (votes_of kind) (λ signer. FitsVote kind)) votes
    → Each (λ b. is_verified ballots secret b ≡ true) votes → length (flat_map (spells.signed (votes_of kind)) votes) ≤ 90 * length votes
votes-text secret kind [] all each = omega arith
votes-text secret kind (b ∷ votes) all each =
    let tag = tag-is ballots secret b each.0 in
    let text : length (spells.ballot b.statement) ≡ 17 + length b.statement.digest = omega arith in
    let digest = all.0.statement_fits.ballot_fits.digest_fits in
    let one = signed-length (votes_of kind) b in
    let rest = votes-text secret kind votes all.1 each.1 in
    let long = length-append (spells.signed (votes_of kind) b) (flat_map (spells.signed (votes_of kind)) votes) in
    omega (arith, tag, text, digest, one, rest, long)

votes-length : (secret : List ℕ) (v : View) (Wanted : Ballot → Type 0) (kind : VoteKind) (votes : List (SignedBy Ballot)) → is_view v ≡ true → AreSigned Ballot secret ballots v Wanted votes
    → AllByRecursion (FitsSigned (votes_of kind) (λ signer. FitsVote kind)) votes → length (listed (votes_of kind) votes) ≤ 2792
votes-length secret v Wanted kind votes is signed all =
    let few = signed-few secret ballots v Wanted votes is signed in
    let text = votes-text secret kind votes all signed.verified in
    omega (arith, few, text)

marks-text : (secret : List ℕ) (items : List (SignedBy Mark)) → AllByRecursion (FitsSigned marks (λ signer. FitsMark)) items → Each (λ m. is_verified marks secret m ≡ true) items
    → length (flat_map (spells.signed marks) items) ≤ 82 * length items
marks-text secret [] all each = omega arith
marks-text secret (m ∷ items) all each =
    let tag = tag-is marks secret m each.0 in
    let text : length (spells_report.mark m.statement) ≡ 9 + length m.statement.digest = omega arith in
    let digest = all.0.statement_fits.digest_fits in
    let one = signed-length marks m in
    let rest = marks-text secret items all.1 each.1 in
    let long = length-append (spells.signed marks m) (flat_map (spells.signed marks) items) in
    omega (arith, tag, text, digest, one, rest, long)

marks-length : (secret : List ℕ) (v : View) (Wanted : Mark → Type 0) (items : List (SignedBy Mark)) → is_view v ≡ true → AreSigned Mark secret marks v Wanted items
    → AllByRecursion (FitsSigned marks (λ signer. FitsMark)) items → length (listed marks items) ≤ 2544
marks-length secret v Wanted items is signed all =
    let few = signed-few secret marks v Wanted items is signed in
    let text = marks-text secret items all signed.verified in
    omega (arith, few, text)

-- ---- evidence

numbered-step : (v : View) (rest : Option View) (same : Bool) → is_view v ≡ true → IfSome rest (λ w. is_view w ≡ true) → IfSome (cond same (Some v) rest) (λ w. is_view w ≡ true)
numbered-step v rest true one others = one
numbered-step v rest false one others = others

-- a view of a list that has a number
numbered-view : (views : List View) (number : ℕ) → Each (λ v. is_view v ≡ true) views → IfSome (view_numbered views number) (λ v. is_view v ≡ true)
numbered-view [] number each = tt
numbered-view (v ∷ views) number each = numbered-step v (view_numbered views number) (v.number == number) each.0 (numbered-view views number each.1)

certificate-length : (secret : List ℕ) (last : ℕ) (m : MarkCertificate) (found : Option View) → IfSome found (λ v. is_view v ≡ true)
    → IsSomeAnd found (λ v. IsMarkCertificate secret v last m.digest m.marks) → FitsEvidence last (evidence.Marked m) → length (spells_report.evidence (evidence.Marked m)) ≤ 2833
certificate-length secret last m None is shown fit = absurd shown
certificate-length secret last m (Some v) is shown fit =
    let list = marks-length secret v _ m.marks is shown.0 fit.marks_fit.1 in
    let digest = fit.digest_fits in
    let long = length-append m.digest (listed marks m.marks) in
    omega (arith, list, digest, long)

-- a view of a list that holds a place
holding-view : (views : List View) (place : ℕ) → Each (λ v. is_view v ≡ true) views → IfSome (view_holding views place) (λ v. is_view v ≡ true)
holding-view [] place each = tt
holding-view (v ∷ views) place each =
    if_or (λ (w : View). is_view w ≡ true) (view_holding views place) (cond (nat_le v.start place) (Some v) None) (holding-view views place each.1)
    (if_cond (λ (w : View). is_view w ≡ true) (nat_le v.start place) (Some v) (λ is. each.0))

proof-length : (secret : List ℕ) (last : ℕ) (p : DecisionProof) (found : Option View) → IfSome found (λ v. is_view v ≡ true)
    → IsSomeAnd found (λ v. (p.view ≡ v.number) × IsDecisionProof secret v (slot_of v last p.regency) p.digest p.accepts) → FitsEvidence last (evidence.Decided p)
    → length (spells_report.evidence (evidence.Decided p)) ≤ 2833
proof-length secret last p None is shown fit = absurd shown
proof-length secret last p (Some v) is shown fit =
    let list = votes-length secret v _ Accept p.accepts is shown.1.0 fit.accepts_fit.1 in
    let digest = fit.digest_fits in
    let long = length-append p.digest (listed (votes_of Accept) p.accepts) in
    omega (arith, list, digest, long)

evidence-length : (secret : List ℕ) (views : List View) (s : Report) → Each (λ v. is_view v ≡ true) views → IsTerse s → (e : Evidence) → s.evidence ≡ e
    → EvidenceHolds secret views s.last e → FitsEvidence s.last e → length (spells_report.evidence e) ≤ 2833
evidence-length secret views s all terse evidence.Nothing is holds fit = omega arith
evidence-length secret views s all terse (evidence.Decided p) is (inl first) fit = let clash = sym is ∙ terse first in absurd (cc)
evidence-length secret views s all terse (evidence.Decided p) is (inr shown) fit = proof-length secret s.last p (view_holding views s.last) (holding-view views s.last all) shown fit
evidence-length secret views s all terse (evidence.Marked m) is (inl first) fit = let clash = sym is ∙ terse first in absurd (cc)
evidence-length secret views s all terse (evidence.Marked m) is (inr shown) fit = certificate-length secret s.last m (view_numbered views m.view) (numbered-view views m.view all) shown fit

-- ---- locks

lock-length : (secret : List ℕ) (v : View) (last regency : ℕ) (lock : Option LockCertificate) → is_view v ≡ true → has_no_false_lock secret v last regency lock ≡ true → FitsOptional FitsLockCertificate lock
    → length (optional spells_report.lock_certificate lock) ≤ 2829
lock-length secret v last regency None is holds fit = omega arith
lock-length secret v last regency (Some l) is holds fit =
    let good = (lock-exact secret v last regency l).0 holds in
    let list = votes-length secret v _ Write l.writes is good.written.0 fit.writes_fit.1 in
    let digest = fit.digest_fits in
    let long = length-append l.digest (listed (votes_of Write) l.writes) in
    omega (arith, list, digest, long)

-- ---- reports

-- a report whose evidence and lock hold, and which bears no idle evidence
pub report-short : (secret : List ℕ) (views : List View) (v : View) (r : SignedBy Report) → Each (λ w. is_view w ≡ true) views → is_view v ≡ true → FitsSigned reports (λ signer. FitsReport) r
    → is_verified reports secret r ≡ true → evidence_holds secret views r.statement.last r.statement.evidence ≡ true
    → has_no_false_lock secret v r.statement.last r.statement.regency r.statement.lock ≡ true → IsTerse r.statement → length (spells.signed reports r) ≤ 5720
report-short secret views v r all is fit tagged holds lock terse =
    let s : Report = r.statement in
    let tag = tag-is reports secret r tagged in
    let one = evidence-length secret views s all terse s.evidence refl ((evidence-exact secret views s.last s.evidence).0 holds) fit.statement_fits.evidence_fits in
    let two = lock-length secret v s.last s.regency s.lock is lock fit.statement_fits.lock_fits in
    let both = length-append (spells_report.evidence s.evidence) (optional spells_report.lock_certificate s.lock) in
    let text : length (spells_report.report s) ≤ 5679 = omega (arith, one, two, both) in
    let long = signed-length reports r in
    omega (arith, tag, text, long)
