-- The votes that a node has kept make certificates.
use Rattle.std.proofs.Common.{Bool, List, None, Option, Some, ap, arith, false, filter, inl, inr, length, nat_le, nat_lt, refl, subst, suc, sym, take, true, zero, ℕ, ⊎_elim, [], ◌∷◌, ◌<◌, ◌≡◌, ◌&&◌, ◌≤◌, ◌==◌, ◌∙◌}
use Rattle.std.proofs.lemmas.Bool.{eqb-true, leb-true, ltb-true}
use Rattle.std.proofs.lemmas.List.{length-take-le}
use Rattle.std.specs.List.{cons_option, filter_map, list_any}
use Rattle.std.specs.Prelude.{is_some}
use Rattle.certificates.specs.Certificates.{AreSigned, signers}
use Rattle.node_rules.specs.Votes.{certificate, has_quorum, has_vote, is_vote, certificate_votes, first_vote, vote_for}
use Rattle.replica_rules.specs.Seals.{is_verified}
use Rattle.agreement_laws.specs.Certificates.{IsDrawn}
use Rattle.agreement_laws.specs.Statements.{Statement}
use Rattle.smart_base.specs.Lists.{Distinct, Each, or_else, same_bytes}
use Rattle.smart_base.specs.Views.{View, ascends, is_member, is_view, quorum, weight_of}
use Rattle.smart_statements.specs.Equality.{same_kind, same_slot}
use Rattle.smart_statements.specs.Forms.{SignedBy}
use Rattle.smart_statements.specs.Kinds.{ballots}
use Rattle.smart_messages.specs.declared.message.Message.{Message}
use Rattle.smart_messages.specs.declared.message.Message.TheVariants.{Vote}
use Rattle.smart_statements.specs.declared.statement.Ballot.{Ballot}
use Rattle.smart_statements.specs.declared.statement.Slot.{Slot}
use Rattle.smart_statements.specs.declared.statement.VoteKind.{VoteKind}
use Rattle.vote_book.proofs.Tested.{same_bytes_is, slot_is}
use Rattle.vote_book.specs.Books.{Among}
use Rattle.node_laws.proofs.Lists.{each_filter_map, each_passes, guard}
use Rattle.node_laws.proofs.Nodes.{Arrived}
use Rattle.node_laws.proofs.Stated.{vote_stated}
use Rattle.smart_statements.specs.declared.statement.VoteKind.TheVariants as kinds
use Rattle.agreement_laws.specs.Statements as says
use Rattle.smart_base.proofs.SameLists.{and_true}
use Rattle.agreement_laws.proofs.Lists.{each_among, each_take, either, or_true, some_equal}
use Rattle.smart_base.proofs.ViewFacts.{each-weaken}

-- ---- members that ascend are distinct

-- each above the one before, and the first above a last one
abbrev pub Rising : ℕ → List ℕ → Type 0
Rising last [] = Unit {0}
Rising last (x ∷ xs) = (last < x) × Rising x xs

ascends_rising : (last : ℕ) (xs : List ℕ) → ascends last xs ≡ true → Rising last xs
ascends_rising last [] is = tt
ascends_rising last (x ∷ xs) is =
    let outer = and_true (nat_lt last x && nat_le x 65535) (ascends x xs) is in
    (ltb-true last x (and_true (nat_lt last x) (nat_le x 65535) outer.0).0, ascends_rising x xs outer.1)

rising_lower : (low last : ℕ) (xs : List ℕ) → low ≤ last → Rising last xs → Rising low xs
rising_lower low last [] le is = tt
rising_lower low last (x ∷ xs) le is = let above : last < x = is.0 in (omega (arith, le, above), is.1)

pub rising_filter : (p : ℕ → Bool) (last : ℕ) (xs : List ℕ) → Rising last xs → Rising last (filter p xs)
rising_filter p last [] is = tt
rising_filter p last (x ∷ xs) is =
    let above : last < x = is.0 in
    either (λ (ys : List ℕ). Rising last ys) (p x) (x ∷ filter p xs) (filter p xs) (above, rising_filter p x xs is.1)
    (rising_lower last x (filter p xs) (omega (arith, above)) (rising_filter p x xs is.1))

pub rising_take : (k last : ℕ) (xs : List ℕ) → Rising last xs → Rising last (take k xs)
rising_take zero last xs is = tt
rising_take (suc k) last [] is = tt
rising_take (suc k) last (x ∷ xs) is = (is.0, rising_take k x xs is.1)

apart : (x y : ℕ) (t : Bool) → x < y → (y == x) ≡ t → (y == x) ≡ false
apart x y true lt is = absurd (omega (arith, lt, eqb-true y x is))
apart x y false lt is = is

none_below : (x last : ℕ) (ys : List ℕ) → x ≤ last → Rising last ys → list_any (λ y. y == x) ys ≡ false
none_below x last [] le is = refl
none_below x last (y ∷ ys) le is =
    let above : last < y = is.0 in
    rw (apart x y (y == x) (omega (arith, le, above)) refl) (none_below x y ys (omega (arith, le, above)) is.1)

pub rising_distinct : (last : ℕ) (xs : List ℕ) → Rising last xs → Distinct xs
rising_distinct last [] is = tt
rising_distinct last (x ∷ xs) is = (none_below x x xs (omega arith) is.1, rising_distinct x xs is.1)

pub view_rising : (v : View) → is_view v ≡ true → Rising 0 v.members
unfolding is_view
view_rising v is = ascends_rising 0 v.members (and_true _ (ascends 0 v.members) is).1

-- ---- a member's first vote

pub record IsFirst (arrivals : List Message) (kind : VoteKind) (slot : Slot) (digest : List ℕ) (member : ℕ) (b : SignedBy Ballot) : Type 0 where
  pub there : Among (Vote b) arrivals
  pub signer_is : b.signer ≡ member
  pub statement_is : b.statement ≡ record { kind = kind; slot = slot; digest = digest }

ballot_is : (b : Ballot) (kind : VoteKind) (slot : Slot) (digest : List ℕ) → b.kind ≡ kind → b.slot ≡ slot → b.digest ≡ digest → b ≡ record { kind = kind; slot = slot; digest = digest }
ballot_is b kind slot digest k s d =
    let make : VoteKind → Slot → List ℕ → Ballot = λ x y z. record { kind = x; slot = y; digest = z } in
    ap (λ x. make x b.slot b.digest) k ∙ (ap (λ y. make kind y b.digest) s ∙ ap (λ z. make kind slot z) d)

pub same_kind_is : (a b : VoteKind) → same_kind a b ≡ true → a ≡ b
same_kind_is kinds.Write kinds.Write same = refl
same_kind_is kinds.Write kinds.Accept same = absurd (cc)
same_kind_is kinds.Accept kinds.Write same = absurd (cc)
same_kind_is kinds.Accept kinds.Accept same = refl

vote_here : (kind : VoteKind) (slot : Slot) (digest : List ℕ) (member : ℕ) (m : Message) (ms : List Message) (b : SignedBy Ballot) → vote_for kind slot digest member m ≡ Some b
    → IsFirst (m ∷ ms) kind slot digest member b
vote_here kind slot digest member (Vote v) ms b is =
    let parts = guard (is_vote kind member slot digest (Vote v)) (Some v) b is in
    let same : v ≡ b = some_equal v b parts.1 in
    let s : Ballot = v.statement in
    let three = and_true (same_kind s.kind kind && (v.signer == member) && same_slot s.slot slot) (same_bytes s.digest digest) parts.0 in
    let two = and_true (same_kind s.kind kind && (v.signer == member)) (same_slot s.slot slot) three.0 in
    let one = and_true (same_kind s.kind kind) (v.signer == member) two.0 in
    record {
      there = inl (ap (λ (x : SignedBy Ballot). Vote x) (sym same));
      signer_is = ap (λ (x : SignedBy Ballot). x.signer) (sym same) ∙ eqb-true v.signer member one.1;
      statement_is = ap (λ (x : SignedBy Ballot). x.statement) (sym same)
          ∙ ballot_is s kind slot digest (same_kind_is s.kind kind one.0) (slot_is s.slot slot two.1) (same_bytes_is s.digest digest three.1);
    }
vote_here kind slot digest member _ ms b is = absurd (cc)

first_step : (kind : VoteKind) (slot : Slot) (digest : List ℕ) (member : ℕ) (m : Message) (ms : List Message) (b : SignedBy Ballot) (here : Option (SignedBy Ballot))
    → vote_for kind slot digest member m ≡ here → (first_vote ms kind slot digest member ≡ Some b → IsFirst ms kind slot digest member b)
    → or_else here (first_vote ms kind slot digest member) ≡ Some b → IsFirst (m ∷ ms) kind slot digest member b
first_step kind slot digest member m ms b None at rest is = let later = rest is in record { there = inr later.there; signer_is = later.signer_is; statement_is = later.statement_is }
first_step kind slot digest member m ms b (Some v) at rest is = vote_here kind slot digest member m ms b (at ∙ is)

pub first_is : (arrivals : List Message) (kind : VoteKind) (slot : Slot) (digest : List ℕ) (member : ℕ) (b : SignedBy Ballot) → first_vote arrivals kind slot digest member ≡ Some b
    → IsFirst arrivals kind slot digest member b
first_is [] kind slot digest member b is = absurd (cc)
first_is (m ∷ ms) kind slot digest member b is =
    first_step kind slot digest member m ms b (vote_for kind slot digest member m) refl (first_is ms kind slot digest member b) is

-- where a vote was kept, there is a first
vote_some : (kind : VoteKind) (slot : Slot) (digest : List ℕ) (member : ℕ) (m : Message) → is_vote kind member slot digest m ≡ true → is_some (vote_for kind slot digest member m) ≡ true
vote_some kind slot digest member (Vote v) is = rw is refl
vote_some kind slot digest member _ is = absurd (cc)

some_first : {A : Type 0} (a b : Option A) → is_some a ≡ true → is_some (or_else a b) ≡ true
some_first None b is = absurd (cc)
some_first (Some x) b is = refl

some_later : {A : Type 0} (a b : Option A) → is_some b ≡ true → is_some (or_else a b) ≡ true
some_later None b is = is
some_later (Some x) b is = refl

first_some : (arrivals : List Message) (kind : VoteKind) (slot : Slot) (digest : List ℕ) (member : ℕ) → has_vote arrivals kind slot digest member ≡ true
    → is_some (first_vote arrivals kind slot digest member) ≡ true
first_some [] kind slot digest member is = absurd (cc)
first_some (m ∷ ms) kind slot digest member is =
    ⊎_elim
    (λ here. some_first (vote_for kind slot digest member m) (first_vote ms kind slot digest member) (vote_some kind slot digest member m here))
    (λ later. some_later (vote_for kind slot digest member m) (first_vote ms kind slot digest member) (first_some ms kind slot digest member later))
    (or_true (is_vote kind member slot digest m) (has_vote ms kind slot digest member) is)

-- ---- the first votes of members

signers_step : (f : ℕ → Option (SignedBy Ballot)) (m : ℕ) (ms : List ℕ) (o : Option (SignedBy Ballot)) → f m ≡ o → is_some o ≡ true → ((b : SignedBy Ballot) → f m ≡ Some b → b.signer ≡ m)
    → signers (filter_map f ms) ≡ ms → signers (cons_option o (filter_map f ms)) ≡ m ∷ ms
signers_step f m ms None at some own rest = absurd (cc)
signers_step f m ms (Some b) at some own rest = let head : b.signer ≡ m = own b at in cc

pub signers_all : (f : ℕ → Option (SignedBy Ballot)) (ms : List ℕ) → Each (λ m. is_some (f m) ≡ true) ms → ((m : ℕ) (b : SignedBy Ballot) → f m ≡ Some b → b.signer ≡ m)
    → signers (filter_map f ms) ≡ ms
signers_all f [] some own = refl
signers_all f (m ∷ ms) some own = signers_step f m ms (f m) refl some.0 (own m) (signers_all f ms some.1 own)

-- where a quorum's votes for a slot of the view were kept, the first of them are a certificate, and each has been stated
pub kept_certificate : (secret : List ℕ) (stated : List Statement) (view : View) (arrivals : List Message) (kind : VoteKind) (slot : Slot) (digest : List ℕ) → is_view view ≡ true
    → slot.view ≡ view.number → Each (Arrived secret stated view) arrivals → has_quorum arrivals view kind slot digest ≡ true
    → IsDrawn secret view stated (record { kind = kind; slot = slot; digest = digest }) (certificate_votes arrivals view kind slot digest)
kept_certificate secret stated view arrivals kind slot digest viewed at kept enough = record { holds = (signed, weigh); drawn = drawn }
  where
    p : ℕ → Bool
    p = has_vote arrivals kind slot digest

    f : ℕ → Option (SignedBy Ballot)
    f = first_vote arrivals kind slot digest

    named : List ℕ
    named = certificate arrivals view kind slot digest

    votes : List (SignedBy Ballot)
    votes = certificate_votes arrivals view kind slot digest

    arrived : (m : ℕ) (b : SignedBy Ballot) → f m ≡ Some b → Arrived secret stated view (Vote b)
    arrived m b is = each_among (Arrived secret stated view) arrivals (Vote b) kept (first_is arrivals kind slot digest m b is).there

    of_view : (m : ℕ) (b : SignedBy Ballot) → f m ≡ Some b → b.statement.slot.view ≡ view.number
    of_view m b is = ap (λ (x : Ballot). x.slot.view) (first_is arrivals kind slot digest m b is).statement_is ∙ at

    all_some : Each (λ m. is_some (f m) ≡ true) named
    all_some =
        each_take (λ m. is_some (f m) ≡ true) (quorum view) (filter p view.members)
        (each-weaken (λ m. p m ≡ true) (λ m. is_some (f m) ≡ true) (λ m has. first_some arrivals kind slot digest m has) (filter p view.members) (each_passes p view.members))

    own : signers votes ≡ named
    own = signers_all f named all_some (λ m b is. (first_is arrivals kind slot digest m b is).signer_is)

    signed : AreSigned Ballot secret ballots view (λ b. b ≡ record { kind = kind; slot = slot; digest = digest }) votes
    signed = record {
      members = each_filter_map (λ (b : SignedBy Ballot). is_member view b.signer ≡ true) f named (λ m b is. ((arrived m b is).0.1 (of_view m b is)).member);
      distinct = subst Distinct (sym own) (rising_distinct 0 named (rising_take (quorum view) 0 (filter p view.members) (rising_filter p 0 view.members (view_rising view viewed))));
      stated = each_filter_map (λ (b : SignedBy Ballot). b.statement ≡ record { kind = kind; slot = slot; digest = digest }) f named (λ m b is. (first_is arrivals kind slot digest m b is).statement_is);
      verified = each_filter_map (λ (b : SignedBy Ballot). is_verified ballots secret b ≡ true) f named (λ m b is. ((arrived m b is).0.1 (of_view m b is)).tagged);
    }

    weigh : quorum view ≤ weight_of view (signers votes)
    weigh =
        let count : length named ≡ quorum view = length-take-le (quorum view) (filter p view.members) (leb-true (quorum view) (length (filter p view.members)) enough) in
        let same : length (signers votes) ≡ length named = ap (λ (ms : List ℕ). length ms) own in
        omega (arith, count, same)

    drawn : Each (λ b. Among (says.Voted b) stated) votes
    drawn = each_filter_map (λ b. Among (says.Voted b) stated) f named (λ m b is. vote_stated secret stated view b (arrived m b is) (of_view m b is))
