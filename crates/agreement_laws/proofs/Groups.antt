-- Quorums and collects of a view share a correct member, be they given by tests or by what their members signed.
use Rattle.std.proofs.Common.{◌≡◌, ◌≤◌, Bool, true, ◌==◌, List, [], ◌∷◌, length, refl, arith, ℕ, eq-eqb}
use Rattle.std.specs.Prelude.{filter}
use Rattle.std.specs.List.{list_any}
use Rattle.std.proofs.lemmas.Bool.{or_left, or_right}
use Rattle.std.proofs.lemmas.List.{length-map}
use Rattle.smart_base.specs.Lists.{Each, Distinct}
use Rattle.smart_base.specs.Views.{View, weight_of, is_member, quorum}
use Rattle.smart_view.specs.Sizes.{collect_size}
use Rattle.smart_statements.specs.Forms.{Form, SignedBy}
use Rattle.certificates.specs.Certificates.{AreSigned, signers}
use Rattle.vote_book.specs.Books.{Among}
use Rattle.agreement_laws.specs.Law.{IsCorrect, FewFaulty}
use Rattle.agreement_laws.proofs.Lists.{number_among, among_number, each_map, given}
use Rattle.agreement_laws.proofs.Shared.{correct_meet, one_more_passes}

-- a correct member of the view that passes two tests
pub record Shared (p q faulty : ℕ → Bool) (view : View) : Type 0 where
  pub member : ℕ
  pub is : IsCorrect view faulty member
  pub left : p member ≡ true
  pub right : q member ≡ true

pub quorums_share : (p q faulty : ℕ → Bool) (view : View) → length (filter faulty view.members) ≤ view.f → quorum view ≤ weight_of view (filter p view.members)
    → quorum view ≤ weight_of view (filter q view.members) → Shared p q faulty view
quorums_share p q faulty view few left right =
    let met = correct_meet p q faulty view.members view.f few (omega (arith, left, right)) in
    record { member = met.member; is = record { within = among_number view.members met.member met.there; correct = met.correct }; left = met.left; right = met.right }

-- as many as answer for sure are a quorum
pub collect_share : (p q faulty : ℕ → Bool) (view : View) → FewFaulty view faulty → quorum view ≤ weight_of view (filter p view.members)
    → collect_size view ≤ length (filter q view.members) → Shared p q faulty view
collect_share p q faulty view few left right = quorums_share p q faulty view few.few left (omega (arith, few.room, right))

-- a number is one of those listed
abbrev pub is_one : List ℕ → ℕ → Bool
is_one listed n = list_any (λ x. x == n) listed

-- different members are no more than those members that are listed among them
pub all_listed : (view : View) (group : List ℕ) → Each (λ v. is_member view v ≡ true) group → Distinct group → length group ≤ length (filter (is_one group) view.members)
all_listed view [] members once = omega arith
all_listed view (v ∷ group) members once =
    let rest = all_listed view group members.1 once.1 in
    let more = one_more_passes (is_one group) (is_one (v ∷ group)) (λ x is. or_right (v == x) (is_one group x) is) v once.0
    (or_left (v == v) (is_one group v) (eq-eqb v v refl)) view.members (number_among view.members v members.0) in
    omega (arith, rest, more)

-- what distinct members signed is no more than those members
pub signed_listed : (S : Type 0) (secret : List ℕ) (form : Form S) (view : View) (Wanted : S → Type 0) (items : List (SignedBy S))
    → AreSigned S secret form view Wanted items → length (signers items) ≤ length (filter (is_one (signers items)) view.members)
signed_listed S secret form view Wanted items signed =
    all_listed view (signers items) (each_map (λ v. is_member view v ≡ true) (λ (item : SignedBy S). item.signer) items signed.members) signed.distinct

pub signers_length : {S : Type 0} (items : List (SignedBy S)) → length (signers items) ≡ length items
signers_length items = length-map items (λ item. item.signer)

-- a statement among others that a member signed
pub record Own {S : Type 0} (items : List (SignedBy S)) (member : ℕ) : Type 0 where
  pub item : SignedBy S
  pub there : Among item items
  pub signed : member ≡ item.signer

pub own : {S : Type 0} (items : List (SignedBy S)) (member : ℕ) → is_one (signers items) member ≡ true → Own items member
own items member is =
    let found = given (λ item. item.signer) items member (number_among (signers items) member is) in
    record { item = found.value; there = found.there; signed = found.is }
