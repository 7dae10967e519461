-- The laws of marks and reports, field by field: what is read is what is spelled.
use Rattle.std.proofs.Common.{◌≡◌, ℕ, ◌+◌, ◌^◌, ◌<◌, Bool, true, false, cond, eqb, ltb, ◌&&◌, ◌||◌, List, length, Option, Ok, refl, sym, ap, subst, ◌∙◌, arith}
use Rattle.std.specs.Int.{w8, w32, w64, to_be_bytes}
use Rattle.std.proofs.lemmas.Bool.{eqb-true, ltb-true, lt-ltb}
use Rattle.smart_base.specs.Cuts.{Cut, IsBytes, number_at}
use Rattle.smart_base.specs.Spelling.{u8, IsCount, Spelled, Law}
use Rattle.smart_base.specs.Fields.{kind_at, count_at, digest_at}
use Rattle.smart_base.specs.Laws.{bind_ok, bind_is, ok_is, spelled-bytes, spelled-then, spelled-front, spelled-back, middle, then_law, last_law, refit, ranged_law}
use Rattle.smart_base.specs.FieldLaws.{u8_law, u32_law, u64_law, kind_law, count_law, digest_law}
use Rattle.smart_statements.specs.Forms.{SignedBy}
use Rattle.smart_statements.specs.Spelling.{slot, vote_kind, ballot, FitsSlot}
use Rattle.smart_statements.specs.Reading.{slot_at}
use Rattle.smart_statements.specs.Statements.{slot_law}
use Rattle.smart_statements.specs.SignedLists.{listed, FitsList, list_at, optional, FitsOptional, optional_at}
use Rattle.smart_statements.specs.SignedListLaws.{list_law, optional_law}
use Rattle.smart_statements.specs.Reports.{vote_at, votes_of, FitsVote, mark, FitsMark, mark_at, marks, decision_proof, FitsDecisionProof, decision_proof_at, mark_certificate, FitsMarkCertificate, mark_certificate_at, evidence, FitsEvidence, is_evidence_kind, evidence_kind_at, decided_at, marked_at, evidence_body_at, evidence_at, lock_certificate, FitsLockCertificate, lock_certificate_at, last_at, report, FitsReport, report_at}
use Rattle.smart_statements.specs.declared.statement.Slot.{Slot}
use Rattle.smart_statements.specs.declared.statement.VoteKind.{VoteKind}
use Rattle.smart_statements.specs.declared.statement.VoteKind.TheVariants.{Write, Accept}
use Rattle.smart_statements.specs.declared.statement.Ballot.{Ballot}
use Rattle.smart_statements.specs.declared.report.Mark.{Mark}
use Rattle.smart_statements.specs.declared.report.DecisionProof.{DecisionProof}
use Rattle.smart_statements.specs.declared.report.MarkCertificate.{MarkCertificate}
use Rattle.smart_statements.specs.declared.report.LockCertificate.{LockCertificate}
use Rattle.smart_statements.specs.declared.report.Evidence.{Evidence}
use Rattle.smart_statements.specs.declared.report.Evidence.TheVariants.{Nothing, Decided, Marked}
use Rattle.smart_statements.specs.declared.report.Report.{Report}

-- ---- votes of one kind alone

abbrev make_vote : VoteKind → Slot → List ℕ → Ballot
make_vote k s d = record { kind = k; slot = s; digest = d }

vote_is : (b : Ballot) (k : VoteKind) (s : Slot) → b.kind ≡ k → b.slot ≡ s → make_vote k s b.digest ≡ b
vote_is b k s e f = rw (← e, ← f) refl

vote_kind_small : (x : VoteKind) → vote_kind x < 2 ^ 8
vote_kind_small Write = omega arith
vote_kind_small Accept = omega arith

vote_kind_one : (x y : VoteKind) → vote_kind x ≡ vote_kind y → x ≡ y
vote_kind_one Write Write e = refl
vote_kind_one Write Accept e = absurd omega (arith, e)
vote_kind_one Accept Write e = absurd omega (arith, e)
vote_kind_one Accept Accept e = refl

pub vote_law : (kind : VoteKind) (signer : ℕ) → Law (FitsVote kind) ballot (vote_at kind signer)
unfolding vote_at
vote_law kind signer =
    refit _ (FitsVote kind) ballot (vote_at kind signer)
    (then_law (λ (b : Ballot). vote_kind b.kind) (λ b. Unit {0}) (λ n. (n ≡ vote_kind kind) × (n < 2 ^ 8)) (to_be_bytes w8) (kind_at (vote_kind kind)) _ _ _
    (kind_law (vote_kind kind)) λ k is_k.
    then_law (λ (b : Ballot). b.slot) (λ b. Unit {0} × (vote_kind b.kind ≡ k)) FitsSlot slot slot_at _ _ _ slot_law λ s is_s.
    last_law (λ (b : Ballot). b.digest) (λ b. (Unit {0} × (vote_kind b.kind ≡ k)) × (b.slot ≡ s)) (λ t. length t ≡ 32) (λ t. t) digest_at
    (λ d. make_vote kind s d) digest_law
    (λ d h. ((tt, sym is_k.0), refl)) (λ d. refl)
    (λ b h. vote_is b kind s (vote_kind_one b.kind kind (h.0.1 ∙ is_k.0)) h.1))
    (λ b h. record { kind_is = vote_kind_one b.kind kind h.1.0.0; ballot_fits = record { slot_fits = h.1.1.0; digest_fits = h.1.1.1 } })
    (λ b h. (tt, ((ap vote_kind h.kind_is, vote_kind_small b.kind), (h.ballot_fits.slot_fits, h.ballot_fits.digest_fits))))

pub votes_law : (kind : VoteKind) → Law (FitsList (votes_of kind) (λ signer. FitsVote kind)) (listed (votes_of kind)) (list_at (votes_of kind))
votes_law kind = list_law (votes_of kind) (λ signer. FitsVote kind) (omega arith) (vote_law kind)

-- ---- marks

abbrev make_mark : ℕ → List ℕ → Mark
make_mark p d = record { place = p; digest = d }

mark_is : (m : Mark) (p : ℕ) → m.place ≡ p → make_mark p m.digest ≡ m
mark_is m p e = rw (← e) refl

pub mark_law : (signer : ℕ) → Law FitsMark mark (mark_at signer)
unfolding mark_at
mark_law signer =
    refit _ FitsMark mark (mark_at signer)
    (then_law (λ (m : Mark). 7) (λ m. Unit {0}) (λ n. (n ≡ 7) × (n < 2 ^ 8)) (to_be_bytes w8) (kind_at 7) _ _ _ (kind_law 7) λ k is_k.
    then_law (λ (m : Mark). m.place) (λ m. Unit {0} × (7 ≡ k)) IsCount (to_be_bytes w64) count_at _ _ _ count_law λ p is_p.
    last_law (λ (m : Mark). m.digest) (λ m. (Unit {0} × (7 ≡ k)) × (m.place ≡ p)) (λ t. length t ≡ 32) (λ t. t) digest_at
    (λ d. make_mark p d) digest_law
    (λ d h. ((tt, sym is_k.0), refl)) (λ d. refl) (λ m h. mark_is m p h.1))
    (λ m h. record { place_fits = h.1.1.0; digest_fits = h.1.1.1 })
    (λ m h. (tt, ((refl, omega arith), (h.place_fits, h.digest_fits))))

pub mark_small : (m : Mark) → length m.digest ≡ 32 → length (mark m) < 2 ^ 32
mark_small m h = let long : length (mark m) ≡ 9 + length m.digest = omega arith in omega (arith, long, h)

-- ---- evidence of the last place

abbrev make_decision_proof : ℕ → ℕ → List ℕ → List (SignedBy Ballot) → DecisionProof
make_decision_proof v r d l = record { view = v; regency = r; digest = d; accepts = l }

decision_proof_is : (p : DecisionProof) (v r : ℕ) (d : List ℕ) → p.view ≡ v → p.regency ≡ r → p.digest ≡ d → make_decision_proof v r d p.accepts ≡ p
decision_proof_is p v r d e f g = rw (← e, ← f, ← g) refl

pub decision_proof_law : Law FitsDecisionProof decision_proof decision_proof_at
unfolding decision_proof_at
decision_proof_law =
    refit _ FitsDecisionProof decision_proof decision_proof_at
    (then_law (λ (p : DecisionProof). p.view) (λ p. Unit {0}) (λ n. n < 2 ^ 32) (to_be_bytes w32) (number_at w32) _ _ _ u32_law λ v is_v.
    then_law (λ (p : DecisionProof). p.regency) (λ p. Unit {0} × (p.view ≡ v)) (λ n. n < 2 ^ 32) (to_be_bytes w32) (number_at w32) _ _ _ u32_law λ r is_r.
    then_law (λ (p : DecisionProof). p.digest) (λ p. (Unit {0} × (p.view ≡ v)) × (p.regency ≡ r)) (λ t. length t ≡ 32) (λ t. t) digest_at _ _ _
    digest_law λ d is_d.
    last_law (λ (p : DecisionProof). p.accepts) (λ p. ((Unit {0} × (p.view ≡ v)) × (p.regency ≡ r)) × (p.digest ≡ d))
    (FitsList (votes_of Accept) (λ signer. FitsVote Accept)) (listed (votes_of Accept)) (list_at (votes_of Accept))
    (λ l. make_decision_proof v r d l) (votes_law Accept)
    (λ l h. (((tt, refl), refl), refl)) (λ l. refl) (λ p h. decision_proof_is p v r d h.0.0.1 h.0.1 h.1))
    (λ p h. record { view_fits = h.1.0; regency_fits = h.1.1.0; digest_fits = h.1.1.1.0; accepts_fit = h.1.1.1.1 })
    (λ p h. (tt, (h.view_fits, (h.regency_fits, (h.digest_fits, h.accepts_fit)))))

abbrev make_mark_certificate : ℕ → List ℕ → List (SignedBy Mark) → MarkCertificate
make_mark_certificate v d l = record { view = v; digest = d; marks = l }

mark_certificate_is : (m : MarkCertificate) (v : ℕ) (d : List ℕ) → m.view ≡ v → m.digest ≡ d → make_mark_certificate v d m.marks ≡ m
mark_certificate_is m v d e f = rw (← e, ← f) refl

pub mark_certificate_law : Law FitsMarkCertificate mark_certificate mark_certificate_at
unfolding mark_certificate_at
mark_certificate_law =
    refit _ FitsMarkCertificate mark_certificate mark_certificate_at
    (then_law (λ (m : MarkCertificate). m.view) (λ m. Unit {0}) (λ n. n < 2 ^ 32) (to_be_bytes w32) (number_at w32) _ _ _ u32_law λ v is_v.
    then_law (λ (m : MarkCertificate). m.digest) (λ m. Unit {0} × (m.view ≡ v)) (λ t. length t ≡ 32) (λ t. t) digest_at _ _ _ digest_law λ d is_d.
    last_law (λ (m : MarkCertificate). m.marks) (λ m. (Unit {0} × (m.view ≡ v)) × (m.digest ≡ d))
    (FitsList marks (λ signer. FitsMark)) (listed marks) (list_at marks)
    (λ l. make_mark_certificate v d l) (list_law marks (λ signer. FitsMark) (omega arith) mark_law)
    (λ l h. ((tt, refl), refl)) (λ l. refl) (λ m h. mark_certificate_is m v d h.0.1 h.1))
    (λ m h. record { view_fits = h.1.0; digest_fits = h.1.1.0; marks_fit = h.1.1.1 })
    (λ m h. (tt, (h.view_fits, (h.digest_fits, h.marks_fit))))

abbrev IsEvidenceKind : ℕ → ℕ → Type 0
IsEvidenceKind last n = (n < 2 ^ 8) × (is_evidence_kind last n ≡ true)

evidence_kind_law : (last : ℕ) → Law (IsEvidenceKind last) (to_be_bytes w8) (evidence_kind_at last)
evidence_kind_law last = ranged_law (λ n. n < 2 ^ 8) (to_be_bytes w8) (number_at w8) (is_evidence_kind last) u8_law

abbrev IsEvidence : ℕ → Cut → Evidence × Cut → Type 0
IsEvidence last c y = FitsEvidence last y.0 × Spelled c (evidence y.0) y.1

decided_takes : (last : ℕ) (c m : Cut) (y : Evidence × Cut) → IsBytes m.left → Spelled c (u8 1) m → decided_at m ≡ Ok y → IsEvidence last c y
unfolding decided_at
decided_takes last c m y bs s e =
    let b = bind_ok (decision_proof_at m) (λ p. Ok (Decided p.0, p.1)) y e in
    let t = decision_proof_law.takes m b.0 bs b.1 in
    subst (λ y. IsEvidence last c y) (ok_is (Decided b.0.0, b.0.1) y b.2) (t.0, spelled-then c (u8 1) m (decision_proof b.0.0) b.0.1 s t.1)

marked_takes : (last : ℕ) (c m : Cut) (y : Evidence × Cut) → IsBytes m.left → Spelled c (u8 2) m → marked_at m ≡ Ok y → IsEvidence last c y
unfolding marked_at
marked_takes last c m y bs s e =
    let b = bind_ok (mark_certificate_at m) (λ p. Ok (Marked p.0, p.1)) y e in
    let t = mark_certificate_law.takes m b.0 bs b.1 in
    subst (λ y. IsEvidence last c y) (ok_is (Marked b.0.0, b.0.1) y b.2) (t.0, spelled-then c (u8 2) m (mark_certificate b.0.0) b.0.1 s t.1)

-- which kind of evidence a byte is
first_is : (first : Bool) → ((true && first) || false || false) ≡ true → first ≡ true
first_is true e = refl
first_is false e = absurd cc

two_is : (zero first one two : Bool) → ((zero && first) || one || two) ≡ true → zero ≡ false → one ≡ false → two ≡ true
two_is true first one two e p q = absurd cc
two_is false first true two e p q = absurd cc
two_is false first false two e p q = e

nothing_fits : (last k : ℕ) → eqb k 0 ≡ true → is_evidence_kind last k ≡ true → last ≡ 0
nothing_fits last k e h = eqb-true last 0 (first_is (eqb last 0) (subst (λ (k : ℕ). is_evidence_kind last k ≡ true) (eqb-true k 0 e) h))

-- evidence was read behind its kind
body_takes : (last : ℕ) (zero one : Bool) (k : ℕ) (c m : Cut) (y : Evidence × Cut) → eqb k 0 ≡ zero → eqb k 1 ≡ one → IsEvidenceKind last k
    → IsBytes m.left → Spelled c (u8 k) m → cond zero (Ok (Nothing, m)) (cond one (decided_at m) (marked_at m)) ≡ Ok y → IsEvidence last c y
body_takes last true one k c m y p q known bs s e =
    subst (λ y. IsEvidence last c y) (ok_is (Nothing, m) y e)
    (nothing_fits last k p known.1, subst (λ (k : ℕ). Spelled c (u8 k) m) (eqb-true k 0 p) s)
body_takes last false true k c m y p q known bs s e =
    decided_takes last c m y bs (subst (λ (k : ℕ). Spelled c (u8 k) m) (eqb-true k 1 q) s) e
body_takes last false false k c m y p q known bs s e =
    marked_takes last c m y bs
    (subst (λ (k : ℕ). Spelled c (u8 k) m) (eqb-true k 2 (two_is (eqb k 0) (eqb last 0) (eqb k 1) (eqb k 2) known.1 p q)) s) e

nothing_known : (last : ℕ) → last ≡ 0 → is_evidence_kind last 0 ≡ true
nothing_known last e = rw e refl

evidence_again : (last : ℕ) (c : Cut) (e : Evidence) (d : Cut) → FitsEvidence last e → Spelled c (evidence e) d → evidence_at last c ≡ Ok (e, d)
unfolding evidence_at evidence_body_at decided_at marked_at
evidence_again last c Nothing d h s =
    bind_is (evidence_kind_at last c) (λ k. evidence_body_at k.0 k.1) (0, d)
    ((evidence_kind_law last).again c 0 d (omega arith, nothing_known last h) s)
evidence_again last c (Decided p) d h s =
    let m = middle c (u8 1) (decision_proof p) d in
    bind_is (evidence_kind_at last c) (λ k. evidence_body_at k.0 k.1) (1, m)
    ((evidence_kind_law last).again c 1 m (omega arith, refl) (spelled-front c (u8 1) (decision_proof p) d s))
    ∙ bind_is (decision_proof_at m) (λ p. Ok (Decided p.0, p.1)) (p, d)
    (decision_proof_law.again m p d h (spelled-back c (u8 1) (decision_proof p) d s))
evidence_again last c (Marked p) d h s =
    let m = middle c (u8 2) (mark_certificate p) d in
    bind_is (evidence_kind_at last c) (λ k. evidence_body_at k.0 k.1) (2, m)
    ((evidence_kind_law last).again c 2 m (omega arith, refl) (spelled-front c (u8 2) (mark_certificate p) d s))
    ∙ bind_is (mark_certificate_at m) (λ p. Ok (Marked p.0, p.1)) (p, d)
    (mark_certificate_law.again m p d h (spelled-back c (u8 2) (mark_certificate p) d s))

pub evidence_law : (last : ℕ) → Law (FitsEvidence last) evidence (evidence_at last)
unfolding evidence_at evidence_body_at
evidence_law last = record {
  takes = λ c y bs e.
      let b = bind_ok (evidence_kind_at last c) (λ k. evidence_body_at k.0 k.1) y e in
      let t = (evidence_kind_law last).takes c b.0 bs b.1 in
      body_takes last (eqb b.0.0 0) (eqb b.0.0 1) b.0.0 c b.0.1 y refl refl t.0 (spelled-bytes c (u8 b.0.0) b.0.1 bs t.1) t.1 b.2;
  again = evidence_again last;
}

-- ---- locks

abbrev make_lock : ℕ → List ℕ → List (SignedBy Ballot) → LockCertificate
make_lock r d l = record { regency = r; digest = d; writes = l }

lock_is : (l : LockCertificate) (r : ℕ) (d : List ℕ) → l.regency ≡ r → l.digest ≡ d → make_lock r d l.writes ≡ l
lock_is l r d e f = rw (← e, ← f) refl

pub lock_law : Law FitsLockCertificate lock_certificate lock_certificate_at
unfolding lock_certificate_at
lock_law =
    refit _ FitsLockCertificate lock_certificate lock_certificate_at
    (then_law (λ (l : LockCertificate). l.regency) (λ l. Unit {0}) (λ n. n < 2 ^ 32) (to_be_bytes w32) (number_at w32) _ _ _ u32_law λ r is_r.
    then_law (λ (l : LockCertificate). l.digest) (λ l. Unit {0} × (l.regency ≡ r)) (λ t. length t ≡ 32) (λ t. t) digest_at _ _ _ digest_law λ d is_d.
    last_law (λ (l : LockCertificate). l.writes) (λ l. (Unit {0} × (l.regency ≡ r)) × (l.digest ≡ d))
    (FitsList (votes_of Write) (λ signer. FitsVote Write)) (listed (votes_of Write)) (list_at (votes_of Write))
    (λ w. make_lock r d w) (votes_law Write)
    (λ w h. ((tt, refl), refl)) (λ w. refl) (λ l h. lock_is l r d h.0.1 h.1))
    (λ l h. record { regency_fits = h.1.0; digest_fits = h.1.1.0; writes_fit = h.1.1.1 })
    (λ l h. (tt, (h.regency_fits, (h.digest_fits, h.writes_fit))))

-- ---- reports

pub place_law : Law (λ n. n < 2 ^ 63) (to_be_bytes w64) last_at
place_law =
    refit (λ n. (n < 2 ^ 64) × (ltb n (2 ^ 63) ≡ true)) (λ n. n < 2 ^ 63) (to_be_bytes w64) last_at
    (ranged_law (λ n. n < 2 ^ 64) (to_be_bytes w64) (number_at w64) (λ n. ltb n (2 ^ 63)) u64_law)
    (λ n h. ltb-true n (2 ^ 63) h.1) (λ n h. (omega (arith, h), lt-ltb n (2 ^ 63) h))

abbrev make_report : ℕ → ℕ → ℕ → Evidence → Option LockCertificate → Report
make_report v r p e l = record { view = v; regency = r; last = p; evidence = e; lock = l }

report_is : (s : Report) (v r p : ℕ) (e : Evidence) → s.view ≡ v → s.regency ≡ r → s.last ≡ p → s.evidence ≡ e → make_report v r p e s.lock ≡ s
report_is s v r p e f g h i = rw (← f, ← g, ← h, ← i) refl

-- what the fields before the evidence have fixed
abbrev Known : ℕ → ℕ → ℕ → ℕ → Report → Type 0
Known k v r p s = (((Unit {0} × (5 ≡ k)) × (s.view ≡ v)) × (s.regency ≡ r)) × (s.last ≡ p)

pub report_law : (signer : ℕ) → Law FitsReport report (report_at signer)
unfolding report_at
report_law signer =
    refit _ FitsReport report (report_at signer)
    (then_law (λ (s : Report). 5) (λ s. Unit {0}) (λ n. (n ≡ 5) × (n < 2 ^ 8)) (to_be_bytes w8) (kind_at 5) _ _ _ (kind_law 5) λ k is_k.
    then_law (λ (s : Report). s.view) (λ s. Unit {0} × (5 ≡ k)) (λ n. n < 2 ^ 32) (to_be_bytes w32) (number_at w32) _ _ _ u32_law λ v is_v.
    then_law (λ (s : Report). s.regency) (λ s. (Unit {0} × (5 ≡ k)) × (s.view ≡ v)) (λ n. n < 2 ^ 32) (to_be_bytes w32) (number_at w32) _ _ _
    u32_law λ r is_r.
    then_law (λ (s : Report). s.last) (λ s. ((Unit {0} × (5 ≡ k)) × (s.view ≡ v)) × (s.regency ≡ r)) (λ n. n < 2 ^ 63) (to_be_bytes w64) last_at
    (λ s. FitsEvidence s.last s.evidence × FitsOptional FitsLockCertificate s.lock) _ _ place_law λ p is_p.
    refit _ (λ s. Known k v r p s × (FitsEvidence s.last s.evidence × FitsOptional FitsLockCertificate s.lock)) _ _
    (then_law (λ (s : Report). s.evidence) (Known k v r p) (FitsEvidence p) evidence (evidence_at p) _ _ _ (evidence_law p) λ e is_e.
    last_law (λ (s : Report). s.lock) (λ s. Known k v r p s × (s.evidence ≡ e)) (FitsOptional FitsLockCertificate)
    (optional lock_certificate) (optional_at lock_certificate_at)
    (λ l. make_report v r p e l) (optional_law FitsLockCertificate lock_certificate lock_certificate_at lock_law)
    (λ l h. (((((tt, sym is_k.0), refl), refl), refl), refl)) (λ l. refl)
    (λ s h. report_is s v r p e h.0.0.0.1 h.0.0.1 h.0.1 h.1))
    (λ s h. (h.0, (subst (λ (p : ℕ). FitsEvidence p s.evidence) (sym h.0.1) h.1.0, h.1.1)))
    (λ s h. (h.0, (subst (λ (p : ℕ). FitsEvidence p s.evidence) h.0.1 h.1.0, h.1.1))))
    (λ s h. record {
      view_fits = h.1.1.0;
      regency_fits = h.1.1.1.0;
      last_fits = h.1.1.1.1.0;
      evidence_fits = h.1.1.1.1.1.0;
      lock_fits = h.1.1.1.1.1.1;
    })
    (λ s h. (tt, ((refl, omega arith), (h.view_fits, (h.regency_fits, (h.last_fits, (h.evidence_fits, h.lock_fits)))))))
