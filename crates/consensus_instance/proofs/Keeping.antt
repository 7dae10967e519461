-- What a node does not drop, its instance keeps.
use Rattle.std.proofs.Common.{◌≡◌, ℕ, ◌+◌, ◌==◌, ◌&&◌, ◌≤◌, ◌<◌, nat_lt, nat_le, not, Bool, true, false, refl, ap, ◌∙◌, cond, arith, Some, None}
use Rattle.std.proofs.lemmas.Bool.{leb-false, le-leb, ltb-false, lt-ltb, eq-eqb}
use Rattle.std.specs.List.{list_any}
use Rattle.smart_base.specs.Lists.{or_else}
use Rattle.smart_base.specs.Views.{View, is_member, leader}
use Rattle.smart_statements.specs.Forms.{SignedBy}
use Rattle.smart_statements.specs.Kinds.{proposals, ballots}
use Rattle.smart_statements.specs.declared.statement.Ballot.{Ballot}
use Rattle.smart_statements.specs.declared.statement.Slot.{Slot}
use Rattle.smart_messages.specs.declared.message.Message.TheVariants.{Propose, Vote}
use Rattle.smart_messages.specs.declared.message.Proposed.{Proposed}
use Rattle.replica_rules.specs.Seals.{is_verified}
use Rattle.node_rules.specs.Nodes as nodes
use Rattle.node_rules.specs.Nodes.{Node, view_of, regency_of, ring_of}
use Rattle.node_rules.specs.Arrivals.{is_same_proposal, is_same_vote, signer_why, view_why, place_why, regency_why, slot_why, is_batch_for, is_unbound, why_propose, why_vote}
use Rattle.node_rules.specs.declared.node.Why.{Why}
use Rattle.node_rules.specs.declared.node.Why.TheVariants.{NotMember, BadTag, Stranger, OldView, NewView, OldPlace, FarPlace, OldRegency, NewRegency, NotLeader, InvalidBatch, Unbound, Repeated}
use Rattle.node_rules.proofs.Options.{no_reason, else_none}
use Rattle.consensus_instance.specs.Instances.{Instance, is_reached, keeps_vote, keeps_proposal, keeping_vote, keeping_proposal, with_arrival}
use Rattle.consensus_instance.specs.Nodes.{HasInstance}
use Rattle.consensus_instance.proofs.Entries.{same_regency, same_decided_place}

-- a test that fails, of which the opposite fails
not_false : (t : Bool) → not t ≡ false → t ≡ true
not_false true is = refl
not_false false is = absurd (cc)

pub all_three : (a b c : Bool) → a ≡ true → b ≡ true → c ≡ false → (a && b && not c) ≡ true
all_three a b c first second third = rw (first, second, third) refl

-- a signer that gives no reason is a member
pub is_signer : {S : Type 0} (n : Node S) (verified : Bool) (signer : ℕ) → signer_why n verified signer ≡ None → is_member (view_of n) signer ≡ true
unfolding signer_why
is_signer n verified signer none =
    let first = no_reason (not (is_member (view_of n) n.id)) NotMember _ none in
    let second = no_reason (not verified) BadTag _ first.1 in
    not_false (is_member (view_of n) signer) (no_reason (not (is_member (view_of n) signer)) Stranger None second.1).0

-- two tests that both fail, where they give no reason
pub neither : (a b : Bool) (x y : Why) → cond a (Some x) (cond b (Some y) None) ≡ None → (a ≡ false) × (b ≡ false)
neither a b x y none =
    let first = no_reason a x (cond b (Some y) None) none in
    (first.0, (no_reason b y None first.1).0)

-- a slot that gives no reason is within reach of the view, place and regency
reach_by : (number place regency : ℕ) (slot : Slot) → slot.view ≡ number → place < slot.place → slot.place ≤ place + 2 → regency ≤ slot.regency → slot.regency ≤ regency + 1
    → ((nat_lt place slot.place && (slot.view == number) && nat_le regency slot.regency) && nat_le slot.place (place + 2) && nat_le slot.regency (regency + 1)) ≡ true
reach_by number place regency slot at behind near later next =
    rw (lt-ltb place slot.place behind, eq-eqb slot.view number at, le-leb regency slot.regency later, le-leb slot.place (place + 2) near, le-leb slot.regency (regency + 1) next) refl

pub is_near : {S : Type 0} (n : Node S) (i : Instance) (slot : Slot) → HasInstance n i → slot_why n slot ≡ None → is_reached i slot ≡ true
unfolding slot_why
is_near n i slot has none =
    let outer = else_none (view_why n slot.view) (or_else (place_why n slot.place) (regency_why n slot.regency)) none in
    let inner = else_none (place_why n slot.place) (regency_why n slot.regency) outer.1 in
    let v = neither (nat_lt slot.view (view_of n).number) (nat_lt (view_of n).number slot.view) OldView NewView outer.0 in
    let p = neither (nat_le slot.place (nodes.decided_place n)) (nat_lt (nodes.decided_place n + 2) slot.place) OldPlace FarPlace inner.0 in
    let r = neither (nat_lt slot.regency (regency_of n)) (nat_lt (regency_of n + 1) slot.regency) OldRegency NewRegency inner.1 in
    let here : slot.view ≡ (view_of n).number = omega (arith, ltb-false slot.view (view_of n).number v.0, ltb-false (view_of n).number slot.view v.1) in
    rw (has.view_same, same_decided_place n i has, same_regency n i has)
    (reach_by (view_of n).number (nodes.decided_place n) (regency_of n) slot here
    (leb-false slot.place (nodes.decided_place n) p.0) (ltb-false (nodes.decided_place n + 2) slot.place p.1)
    (ltb-false slot.regency (regency_of n) r.0) (ltb-false (regency_of n + 1) slot.regency r.1))

vote_passes : {S : Type 0} (n : Node S) (i : Instance) (b : SignedBy Ballot) → HasInstance n i → why_vote n b ≡ None → keeps_vote b i ≡ true
unfolding why_vote keeps_vote
vote_passes n i b has none =
    let first = else_none (signer_why n (is_verified ballots (ring_of n) b) b.signer) _ none in
    let second = else_none (slot_why n b.statement.slot) _ first.1 in
    let third = no_reason (list_any (is_same_vote b) n.arrivals) Repeated None second.1 in
    all_three _ _ _
    (ap (λ (v : View). is_member v b.signer) has.view_same ∙ is_signer n _ b.signer first.0)
    (is_near n i b.statement.slot has second.0)
    (ap (λ ms. list_any (is_same_vote b) ms) has.arrivals_same ∙ third.0)

proposal_passes : {S : Type 0} (n : Node S) (i : Instance) (p : Proposed) → HasInstance n i → why_propose n p ≡ None → keeps_proposal p i ≡ true
unfolding why_propose keeps_proposal
proposal_passes n i p has none =
    let first = else_none (signer_why n (is_verified proposals (ring_of n) p.head) p.head.signer) _ none in
    let second = else_none (slot_why n p.head.statement.slot) _ first.1 in
    let led = no_reason (not (p.head.signer == leader (view_of n) p.head.statement.slot.regency)) NotLeader _ second.1 in
    let valid = no_reason (not (is_batch_for (ring_of n) p.head.statement.slot.place p.head.statement.digest p.batch)) InvalidBatch _ led.1 in
    let bound = no_reason (is_unbound n p) Unbound _ valid.1 in
    let new = no_reason (list_any (is_same_proposal p) n.arrivals) Repeated None bound.1 in
    all_three _ _ _
    (ap (λ (v : View). is_member v p.head.signer) has.view_same ∙ is_signer n _ p.head.signer first.0)
    (is_near n i p.head.statement.slot has second.0)
    (ap (λ ms. list_any (is_same_proposal p) ms) has.arrivals_same ∙ new.0)

pub vote_kept : {S : Type 0} (n : Node S) (i : Instance) (b : SignedBy Ballot) → HasInstance n i → why_vote n b ≡ None → keeping_vote b i ≡ with_arrival (Vote b) i
vote_kept n i b has none = ap (λ t. cond t (with_arrival (Vote b) i) i) (vote_passes n i b has none)

pub proposal_kept : {S : Type 0} (n : Node S) (i : Instance) (p : Proposed) → HasInstance n i → why_propose n p ≡ None → keeping_proposal p i ≡ with_arrival (Propose p) i
proposal_kept n i p has none = ap (λ t. cond t (with_arrival (Propose p) i) i) (proposal_passes n i p has none)
