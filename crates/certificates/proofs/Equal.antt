-- Certificates of votes and of marks have no fault exactly where they are certificates.
use Rattle.std.proofs.Common.{◌≡◌, ℕ, ◌+◌, ◌==◌, true, ◌&&◌, List, [], ◌∷◌, length, refl, ◌∙◌, ap, arith}
use Rattle.std.specs.Prelude.{◌↔◌, None}
use Rattle.std.proofs.lemmas.Bool.{eqb-true}
use Rattle.std.proofs.lemmas.Grind.{common_steps}
use Rattle.smart_base.specs.Lists.{same_bytes}
use Rattle.smart_base.specs.Views.{View, weight_of, quorum}
use Rattle.smart_base.proofs.SameLists.{and_true, same_list-equal}
use Rattle.smart_statements.specs.Equality.{same_slot, same_kind}
use Rattle.smart_statements.specs.Forms.{SignedBy}
use Rattle.smart_statements.specs.Kinds.{ballots}
use Rattle.smart_statements.specs.Reports.{marks}
use Rattle.smart_statements.specs.declared.statement.Ballot.{Ballot}
use Rattle.smart_statements.specs.declared.statement.Slot.{Slot}
use Rattle.smart_statements.specs.declared.statement.VoteKind.{VoteKind}
use Rattle.smart_statements.specs.declared.statement.VoteKind.TheVariants.{Write, Accept}
use Rattle.smart_statements.specs.declared.report.Mark.{Mark}
use Rattle.certificates.specs.Certificates.{signers, same_ballot, same_mark, mark_of, IsCertificate, IsMarkCertificate, votes_fault, marks_fault}
use Rattle.certificates.proofs.Exact.{signed-exact}

-- ---- statements that a test finds alike are equal

same_number : (n : ℕ) → (n == n) ≡ true
same_number n = grind (arith, common_steps)

bytes_alike : (xs : List ℕ) → same_bytes xs xs ≡ true
bytes_alike [] = refl
bytes_alike (x ∷ xs) = rw (same_number x, bytes_alike xs) refl

kind_alike : (k : VoteKind) → same_kind k k ≡ true
kind_alike Write = refl
kind_alike Accept = refl

ballot_alike : (b : Ballot) → same_ballot b b ≡ true
ballot_alike b =
    rw (kind_alike b.kind, same_number b.slot.view, same_number b.slot.place, same_number b.slot.regency, bytes_alike b.digest) refl

kind_equal : (a b : VoteKind) → same_kind a b ≡ true → a ≡ b
kind_equal Write Write same = refl
kind_equal Write Accept same = absurd (cc)
kind_equal Accept Write same = absurd (cc)
kind_equal Accept Accept same = refl

slot_of : ℕ → ℕ → ℕ → Slot
slot_of view place regency = record { view = view; place = place; regency = regency }

slot_equal : (a b : Slot) → same_slot a b ≡ true → a ≡ b
unfolding slot_of
slot_equal a b same =
    let parts = and_true ((a.view == b.view) && (a.place == b.place)) (a.regency == b.regency) same in
    let front = and_true (a.view == b.view) (a.place == b.place) parts.0 in
    let view : a.view ≡ b.view = eqb-true a.view b.view front.0 in
    let place : a.place ≡ b.place = eqb-true a.place b.place front.1 in
    let regency : a.regency ≡ b.regency = eqb-true a.regency b.regency parts.1 in
    ap (λ (n : ℕ). slot_of n a.place a.regency) view ∙ (ap (λ (n : ℕ). slot_of b.view n a.regency) place ∙ ap (λ (n : ℕ). slot_of b.view b.place n) regency)

ballot_of : VoteKind → Slot → List ℕ → Ballot
ballot_of kind slot digest = record { kind = kind; slot = slot; digest = digest }

ballot_equal : (a b : Ballot) → same_ballot a b ≡ true → a ≡ b
unfolding ballot_of
ballot_equal a b same =
    let parts = and_true (same_kind a.kind b.kind && same_slot a.slot b.slot) (same_bytes a.digest b.digest) same in
    let front = and_true (same_kind a.kind b.kind) (same_slot a.slot b.slot) parts.0 in
    let kind : a.kind ≡ b.kind = kind_equal a.kind b.kind front.0 in
    let slot : a.slot ≡ b.slot = slot_equal a.slot b.slot front.1 in
    let digest : a.digest ≡ b.digest = same_list-equal (λ x y. x == y) eqb-true a.digest b.digest parts.1 in
    ap (λ (k : VoteKind). ballot_of k a.slot a.digest) kind ∙ (ap (λ (s : Slot). ballot_of b.kind s a.digest) slot ∙ ap (λ (d : List ℕ). ballot_of b.kind b.slot d) digest)

mark_alike : (m : Mark) → same_mark m m ≡ true
mark_alike m = rw (same_number m.place, bytes_alike m.digest) refl

mark_equal : (a b : Mark) → same_mark a b ≡ true → a ≡ b
mark_equal a b same =
    let parts = and_true (a.place == b.place) (same_bytes a.digest b.digest) same in
    let place : a.place ≡ b.place = eqb-true a.place b.place parts.0 in
    let digest : a.digest ≡ b.digest = same_list-equal (λ x y. x == y) eqb-true a.digest b.digest parts.1 in
    ap (λ (n : ℕ). mark_of n a.digest) place ∙ ap (λ (d : List ℕ). mark_of b.place d) digest

-- ---- certificates

pub votes-exact : (secret : List ℕ) (v : View) (wanted : Ballot) (votes : List (SignedBy Ballot))
    → (votes_fault secret v wanted votes ≡ None) ↔ IsCertificate secret v wanted votes
votes-exact secret v wanted votes =
    signed-exact secret ballots v (λ b. same_ballot b wanted) (λ b. b ≡ wanted)
    (λ b. ((λ same. ballot_equal b wanted same), (λ is. rw is (ballot_alike wanted))))
    (quorum v) (weight_of v (signers votes)) votes

pub marks-exact : (secret : List ℕ) (v : View) (place : ℕ) (digest : List ℕ) (items : List (SignedBy Mark))
    → (marks_fault secret v place digest items ≡ None) ↔ IsMarkCertificate secret v place digest items
marks-exact secret v place digest items =
    signed-exact secret marks v (λ m. same_mark m (mark_of place digest)) (λ m. m ≡ mark_of place digest)
    (λ m. ((λ same. mark_equal m (mark_of place digest) same), (λ is. rw is (mark_alike (mark_of place digest)))))
    (v.f + 1) (length items) items
