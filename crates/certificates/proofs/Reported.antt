-- Evidence, locks and reports: each test tells what it is to tell.
use Rattle.std.proofs.Common.{◌≡◌, ℕ, ◌+◌, ◌<◌, ◌≤◌, ◌==◌, nat_le, nat_lt, Bool, true, false, ◌&&◌, ◌||◌, List, ◌∷◌, length, get_or, drop, refl, sym, ◌∙◌, ap, arith}
use Rattle.std.specs.Prelude.{◌↔◌, ◌⊎◌, ◌^◌, Option, Some, None, is_none, IsSomeAnd, IfSome, if◌then◌else◌}
use mathlib.Core.Logic.{inl, inr}
use Rattle.std.proofs.lemmas.Bool.{eqb-true, ltb-true, lt-ltb}
use Rattle.std.proofs.lemmas.Grind.{common_steps}
use Rattle.smart_base.specs.Lists.{or_else}
use Rattle.smart_base.specs.Views.{View, present}
use Rattle.smart_base.proofs.SameLists.{and_true}
use Rattle.smart_view.specs.Sizes.{collect_size}
use Rattle.smart_statements.specs.Forms.{SignedBy}
use Rattle.smart_statements.specs.Reports.{reports}
use Rattle.smart_statements.specs.declared.report.DecisionProof.{DecisionProof}
use Rattle.smart_statements.specs.declared.report.MarkCertificate.{MarkCertificate}
use Rattle.smart_statements.specs.declared.report.LockCertificate.{LockCertificate}
use Rattle.smart_statements.specs.declared.report.Evidence.{Evidence}
use Rattle.smart_statements.specs.declared.report.Evidence.TheVariants.{Nothing, Decided, Marked}
use Rattle.smart_statements.specs.declared.report.Report.{Report}
use Rattle.certificates.specs.Certificates.{write_of, accept_of, votes_fault, marks_fault, IsWriteCertificate, IsDecisionProof, IsMarkCertificate}
use Rattle.certificates.specs.Collects.{view_holding, view_numbered, slot_of, of_view, IsDecided, IsMarked, IsShown, EvidenceHolds, is_decided, is_marked, is_shown, evidence_holds, LockHolds, lock_holds, IsReportOf, IsCollect, has_no_false_lock, is_report_of, collect_fault}
use Rattle.certificates.specs.declared.fault.CertFault.{CertFault}
use Rattle.certificates.proofs.Faults.{drop_here, nothing_left}
use Rattle.certificates.proofs.Exact.{Tells, signed-exact}
use Rattle.certificates.proofs.Equal.{votes-exact, marks-exact}

-- ---- tests and what they tell

then_exact : {A B C : Type 0} → A ↔ B → B ↔ C → A ↔ C
then_exact ab bc = ((λ a. bc.0 (ab.0 a)), (λ c. ab.1 (bc.1 c)))

number_exact : (a b : ℕ) → ((a == b) ≡ true) ↔ (a ≡ b)
number_exact a b = ((λ is. eqb-true a b is), (λ is. grind (arith, common_steps)))

below_exact : (a b : ℕ) → (nat_lt a b ≡ true) ↔ (a < b)
below_exact a b = ((λ is. ltb-true a b is), (λ is. lt-ltb a b is))

none_exact : (found : Option CertFault) → (is_none found ≡ true) ↔ (found ≡ None)
none_exact None = ((λ is. refl), (λ is. refl))
none_exact (Some fault) = ((λ is. absurd (cc)), (λ is. absurd (cc)))

both_exact : {A B : Type 0} (a b : Bool) → (a ≡ true) ↔ A → (b ≡ true) ↔ B → ((a && b) ≡ true) ↔ (A × B)
both_exact {A} {B} a b one two = (from, to)
  where
    from : (a && b) ≡ true → A × B
    from is = let parts = and_true a b is in (one.0 parts.0, two.0 parts.1)

    to : A × B → (a && b) ≡ true
    to holds = rw (one.1 holds.0, two.1 holds.1) refl

either_parts : (a b : Bool) → (a || b) ≡ true → (a ≡ true) ⊎ (b ≡ true)
either_parts true b is = inl refl
either_parts false b is = inr is

either_right : (a b : Bool) → b ≡ true → (a || b) ≡ true
either_right true b is = refl
either_right false b is = is

either_from : {A B : Type 0} (a b : Bool) → (a ≡ true) ↔ A → (b ≡ true) ↔ B → A ⊎ B → (a || b) ≡ true
either_from a b one two (inl holds) = rw (one.1 holds) refl
either_from a b one two (inr holds) = either_right a b (two.1 holds)

either_to : {A B : Type 0} (a b : Bool) → (a ≡ true) ↔ A → (b ≡ true) ↔ B → (a ≡ true) ⊎ (b ≡ true) → A ⊎ B
either_to a b one two (inl is) = inl (one.0 is)
either_to a b one two (inr is) = inr (two.0 is)

either_exact : {A B : Type 0} (a b : Bool) → (a ≡ true) ↔ A → (b ≡ true) ↔ B → ((a || b) ≡ true) ↔ (A ⊎ B)
either_exact a b one two = ((λ is. either_to a b one two (either_parts a b is)), either_from a b one two)

view_exact : (found : Option View) (test : View → Bool) (Holds : View → Type 0) → ((v : View) → (test v ≡ true) ↔ Holds v) → (of_view found test ≡ true) ↔ IsSomeAnd found Holds
view_exact None test Holds exact = ((λ is. absurd (cc)), (λ no. absurd no))
view_exact (Some v) test Holds exact = exact v

-- ---- evidence

decided_exact : (secret : List ℕ) (views : List View) (last : ℕ) (p : DecisionProof) → (is_decided secret views last p ≡ true) ↔ IsDecided secret views last p
decided_exact secret views last p =
    view_exact (view_holding views last)
    (λ v. (p.view == v.number) && is_none (votes_fault secret v (accept_of (slot_of v last p.regency) p.digest) p.accepts))
    (λ v. (p.view ≡ v.number) × IsDecisionProof secret v (slot_of v last p.regency) p.digest p.accepts)
    (λ v. both_exact (p.view == v.number) (is_none (votes_fault secret v (accept_of (slot_of v last p.regency) p.digest) p.accepts))
    (number_exact p.view v.number)
    (then_exact (none_exact (votes_fault secret v (accept_of (slot_of v last p.regency) p.digest) p.accepts))
    (votes-exact secret v (accept_of (slot_of v last p.regency) p.digest) p.accepts)))

marked_exact : (secret : List ℕ) (views : List View) (last : ℕ) (m : MarkCertificate) → (is_marked secret views last m ≡ true) ↔ IsMarked secret views last m
marked_exact secret views last m =
    view_exact (view_numbered views m.view) (λ v. is_none (marks_fault secret v last m.digest m.marks)) (λ v. IsMarkCertificate secret v last m.digest m.marks)
    (λ v. then_exact (none_exact (marks_fault secret v last m.digest m.marks)) (marks-exact secret v last m.digest m.marks))

shown_exact : (secret : List ℕ) (views : List View) (last : ℕ) (e : Evidence) → (is_shown secret views last e ≡ true) ↔ IsShown secret views last e
shown_exact secret views last Nothing = ((λ is. absurd (cc)), (λ no. absurd no))
shown_exact secret views last (Decided p) = decided_exact secret views last p
shown_exact secret views last (Marked m) = marked_exact secret views last m

pub evidence-exact : (secret : List ℕ) (views : List View) (last : ℕ) (e : Evidence) → (evidence_holds secret views last e ≡ true) ↔ EvidenceHolds secret views last e
unfolding evidence_holds
evidence-exact secret views last e = either_exact (last == 0) (is_shown secret views last e) (number_exact last 0) (shown_exact secret views last e)

-- evidence of a place behind the first
pub shown-alone : (secret : List ℕ) (views : List View) (last : ℕ) (e : Evidence) (answer : Bool) → (last == 0) ≡ false → answer ≡ is_shown secret views last e
    → (answer ≡ true) ↔ EvidenceHolds secret views last e
unfolding evidence_holds
shown-alone secret views last e answer away is =
    let same : answer ≡ evidence_holds secret views last e = is ∙ ap (λ b. b || is_shown secret views last e) (sym away) in
    rw same (evidence-exact secret views last e)

-- ---- locks

lock_parts : (secret : List ℕ) (v : View) (last regency : ℕ) (l : LockCertificate)
    → (((last + 1 < 2 ^ 63) × (l.regency < regency)) × IsWriteCertificate secret v (slot_of v (last + 1) l.regency) l.digest l.writes) ↔ LockHolds secret v last regency l
lock_parts secret v last regency l = (
  (λ parts. record { place = parts.0.0; earlier = parts.0.1; written = parts.1 }),
  (λ lock. ((lock.place, lock.earlier), lock.written)),
)

pub lock-exact : (secret : List ℕ) (v : View) (last regency : ℕ) (l : LockCertificate) → (lock_holds secret v last regency l ≡ true) ↔ LockHolds secret v last regency l
unfolding lock_holds
lock-exact secret v last regency l =
    let wanted = write_of (slot_of v (last + 1) l.regency) l.digest in
    then_exact (both_exact (nat_lt (last + 1) (2 ^ 63) && nat_lt l.regency regency) (is_none (votes_fault secret v wanted l.writes))
    (both_exact (nat_lt (last + 1) (2 ^ 63)) (nat_lt l.regency regency) (below_exact (last + 1) (2 ^ 63)) (below_exact l.regency regency))
    (then_exact (none_exact (votes_fault secret v wanted l.writes)) (votes-exact secret v wanted l.writes)))
    (lock_parts secret v last regency l)

-- ---- reports

no_false_lock : (secret : List ℕ) (v : View) (last regency : ℕ) (lock : Option LockCertificate)
    → (has_no_false_lock secret v last regency lock ≡ true) ↔ IfSome lock (LockHolds secret v last regency)
no_false_lock secret v last regency None = ((λ is. tt), (λ all. refl))
no_false_lock secret v last regency (Some l) = lock-exact secret v last regency l

report_parts : (secret : List ℕ) (v : View) (views : List View) (regency : ℕ) (s : Report)
    → ((((s.view ≡ v.number) × (s.regency ≡ regency)) × EvidenceHolds secret views s.last s.evidence) × IfSome s.lock (LockHolds secret v s.last s.regency))
    ↔ IsReportOf secret v views regency s
report_parts secret v views regency s = (
  (λ parts. record { of_view = parts.0.0.0; of_regency = parts.0.0.1; evidence = parts.0.1; lock = parts.1 }),
  (λ of. (((of.of_view, of.of_regency), of.evidence), of.lock)),
)

pub report-exact : (secret : List ℕ) (v : View) (views : List View) (regency : ℕ) → Tells (is_report_of secret v views regency) (IsReportOf secret v views regency)
unfolding is_report_of
report-exact secret v views regency s =
    then_exact (both_exact ((s.view == v.number) && (s.regency == regency) && evidence_holds secret views s.last s.evidence)
    (has_no_false_lock secret v s.last s.regency s.lock)
    (both_exact ((s.view == v.number) && (s.regency == regency)) (evidence_holds secret views s.last s.evidence)
    (both_exact (s.view == v.number) (s.regency == regency) (number_exact s.view v.number) (number_exact s.regency regency))
    (evidence-exact secret views s.last s.evidence))
    (no_false_lock secret v s.last s.regency s.lock))
    (report_parts secret v views regency s)

pub collect-exact : (secret : List ℕ) (views : List View) (regency : ℕ) (items : List (SignedBy Report))
    → (collect_fault secret views regency items ≡ None) ↔ IsCollect secret views regency items
collect-exact secret views regency items =
    signed-exact secret reports (present views) (is_report_of secret (present views) views regency) (IsReportOf secret (present views) views regency)
    (report-exact secret (present views) views regency) (collect_size (present views)) (length items) items

-- ---- the view that holds a place, found view by view

-- the view found so far, and those of the views left that hold the place
abbrev pub Found : List View → ℕ → ℕ → Option View → Type 0
Found views place i found = or_else (view_holding (drop i views) place) found ≡ view_holding views place
