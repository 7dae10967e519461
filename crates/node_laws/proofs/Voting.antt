-- A node that writes or accepts stays sound.
use Rattle.std.proofs.Common.{List, None, Option, Some, ap, false, inl, inr, not, refl, subst, sym, true, ℕ, ◌≡◌, ◌∷◌, ◌∙◌, [], ◌&&◌}
use Rattle.std.specs.List.{list_any}
use Rattle.certificates.specs.Collects.{slot_of}
use Rattle.node_rules.specs.Votes.{has_quorum, certificate_votes, proposed_for, proposed_in}
use Rattle.replica_rules.specs.Seals.{signed}
use Rattle.agreement_laws.specs.Certificates.{IsDrawn}
use Rattle.agreement_laws.specs.Statements.{Statement}
use Rattle.node_rules.specs.Arrivals.{is_batch_for}
use Rattle.node_rules.specs.Nodes.{Node, bound_at, is_open, is_within, next_place, open_slot, recording, regency_of, start_of, view_of}
use Rattle.node_rules.specs.Rules.{accept_batch, accepting, accepts, ballot, votable, write_batch, writes, writing, written}
use Rattle.smart_base.specs.Lists.{or_else}
use Rattle.smart_base.specs.Views.{View}
use Rattle.smart_statements.specs.Equality.{same_slot}
use Rattle.smart_statements.specs.Kinds.{ballots}
use Rattle.smart_messages.specs.declared.message.Message.{Message}
use Rattle.smart_messages.specs.declared.message.Message.TheVariants.{Propose}
use Rattle.smart_messages.specs.declared.message.Proposed.{Proposed}
use Rattle.smart_statements.specs.declared.statement.Slot.{Slot}
use Rattle.smart_statements.specs.declared.statement.VoteKind.{VoteKind}
use Rattle.vote_book.proofs.Tested.{slot_is}
use Rattle.vote_book.specs.Admission.{accepts_in, writes_in}
use Rattle.vote_book.specs.Books.{Among}
use Rattle.vote_book.specs.declared.entry.Accept.{Accept}
use Rattle.vote_book.specs.declared.entry.LogEntry.{LogEntry}
use Rattle.vote_book.specs.declared.entry.LogEntry.TheVariants.{Accepted, Wrote}
use Rattle.node_laws.proofs.Certified.{kept_certificate}
use Rattle.node_laws.proofs.Lists.{among_last, guard}
use Rattle.node_laws.proofs.Nodes.{Arrived, Late, MayPush, Shows, holds, in_force_of, in_force_viewed, number_newest, records}
use Rattle.node_laws.proofs.Stated.{proposal_asked}
use Rattle.node_laws.proofs.Votes.{may_vote, none_accepted, none_written, open_within, opens, tidy_vote}
use Rattle.node_laws.specs.Sound.{IsBatchAt, IsSound}
use Rattle.smart_statements.specs.declared.statement.VoteKind.TheVariants as kinds
use Rattle.node_rules.specs.declared.node.Target.TheVariants as targets
use Rattle.agreement_laws.specs.Statements as says
use Rattle.smart_base.proofs.SameLists.{and_true}
use Rattle.agreement_laws.proofs.Lists.{each_among, not_true, some_equal}
use Rattle.regency_sync.proofs.Lists.{each_filter}

-- ---- proposals

-- a proposal that was kept for a slot
pub record IsFor (arrivals : List Message) (slot : Slot) (p : Proposed) : Type 0 where
  pub there : Among (Propose p) arrivals
  pub slot_is : p.head.statement.slot ≡ slot

proposed_here : (m : Message) (ms : List Message) (slot : Slot) (p : Proposed) → proposed_in slot m ≡ Some p → IsFor (m ∷ ms) slot p
proposed_here (Propose o) ms slot p is =
    let parts = guard (same_slot o.head.statement.slot slot) (Some o) p is in
    let same : o ≡ p = some_equal o p parts.1 in
    record {
      there = inl (ap (λ (x : Proposed). Propose x) (sym same));
      slot_is = ap (λ (x : Proposed). x.head.statement.slot) (sym same) ∙ slot_is o.head.statement.slot slot parts.0;
    }
proposed_here _ ms slot p is = absurd (cc)

proposed_step : (m : Message) (ms : List Message) (slot : Slot) (p : Proposed) (here : Option Proposed) → proposed_in slot m ≡ here → (proposed_for ms slot ≡ Some p → IsFor ms slot p)
    → or_else here (proposed_for ms slot) ≡ Some p → IsFor (m ∷ ms) slot p
proposed_step m ms slot p None at rest is = let later = rest is in record { there = inr later.there; slot_is = later.slot_is }
proposed_step m ms slot p (Some o) at rest is = proposed_here m ms slot p (at ∙ is)

pub proposed_is : (arrivals : List Message) (slot : Slot) (p : Proposed) → proposed_for arrivals slot ≡ Some p → IsFor arrivals slot p
proposed_is [] slot p is = absurd (cc)
proposed_is (m ∷ ms) slot p is = proposed_step m ms slot p (proposed_in slot m) refl (proposed_is ms slot p) is

-- a proposal that may get votes
pub votable_is : {S : Type 0} (n : Node S) (o : Option Proposed) (p : Proposed) → votable n o ≡ Some p
    → (is_within (bound_at (next_place n) (start_of n)) p.head.statement.digest ≡ true) × (o ≡ Some p)
votable_is n None p is = absurd (cc)
votable_is n (Some o) p is =
    let parts = guard (is_within (bound_at (next_place n) (start_of n)) o.head.statement.digest) (Some o) p is in
    let same : o ≡ p = some_equal o p parts.1 in
    (subst (λ (x : Proposed). is_within (bound_at (next_place n) (start_of n)) x.head.statement.digest ≡ true) same parts.0, parts.1)

-- ---- write

pub record Writes {S : Type 0} (n : Node S) (p : Proposed) : Type 0 where
  pub opened : is_open n ≡ true
  pub once : list_any (writes_in (open_slot n)) n.entries ≡ false
  pub may : is_within (bound_at (next_place n) (start_of n)) p.head.statement.digest ≡ true

writes_by : {S : Type 0} (n : Node S) (p : Proposed) → writing n ≡ Some p → Writes n p
unfolding writing
writes_by n p is =
    let parts = guard (is_open n && not (list_any (writes_in (open_slot n)) n.entries)) (votable n (proposed_for n.arrivals (open_slot n))) p is in
    let tests = and_true (is_open n) (not (list_any (writes_in (open_slot n)) n.entries)) parts.0 in
    record { opened = tests.0; once = not_true (list_any (writes_in (open_slot n)) n.entries) tests.1; may = (votable_is n (proposed_for n.arrivals (open_slot n)) p parts.1).0 }

write_of_slot : {S : Type 0} (n : Node S) (p : Proposed) → LogEntry
write_of_slot n p = Wrote (record { slot = open_slot n; digest = p.head.statement.digest })

may_write : {S : Type 0} (stated : List Statement) (view : View) (n : Node S) (p : Proposed) → IsSound stated view n → Writes n p → MayPush stated n (write_of_slot n p)
unfolding write_of_slot
may_write stated view n p is w = record {
  admits = record { vote = may_vote stated view n p.head.statement.digest is w.opened w.may; first = none_written (open_slot n) n.entries w.once };
  tidy = tidy_vote stated view n is (opens n w.opened).free;
  within = open_within stated view n (write_of_slot n p) is;
  newest = number_newest stated view n is;
  backed = λ v there. tt;
  batch = tt;
}

writes_with : {S : Type 0} (stated : List Statement) (view : View) (n : Node S) (o : Option Proposed) → IsSound stated view n → writing n ≡ o → IsSound stated view (write_batch n o)
unfolding write_batch write_of_slot
writes_with stated view n None is at = is
writes_with {S = S} stated view n (Some p) is at =
    let e : LogEntry = Wrote (record { slot = open_slot n; digest = p.head.statement.digest }) in
    let pushed : IsSound stated view (recording n e) = records stated view n e is (may_write stated view n p is (writes_by n p at)) refl in
    let says_it = says.Voted (signed ballots n.secret n.id (record { kind = kinds.Write; slot = open_slot n; digest = p.head.statement.digest })) in
    holds stated view (recording n e) targets.View (ballot n kinds.Write p.head.statement.digest) pushed
    (each_filter (Shows stated (recording n e)) (says.verifies n.secret) (says_it ∷ []) (inr (refl, among_last e n.entries), tt))
    (each_filter (Late stated (recording n e)) (says.verifies n.secret) (says_it ∷ []) (inr tt, tt))

pub sound_writes : {S : Type 0} (stated : List Statement) (view : View) (n : Node S) → IsSound stated view n → IsSound stated view (writes n)
unfolding writes
sound_writes stated view n is = writes_with stated view n (writing n) is refl

-- ---- accept

pub record Accepts {S : Type 0} (n : Node S) (p : Proposed) : Type 0 where
  pub opened : is_open n ≡ true
  pub once : list_any (accepts_in (open_slot n)) n.entries ≡ false
  pub may : is_within (bound_at (next_place n) (start_of n)) p.head.statement.digest ≡ true
  pub written : has_quorum n.arrivals (view_of n) kinds.Write (open_slot n) p.head.statement.digest ≡ true
  pub proposed : IsFor n.arrivals (open_slot n) p

written_is : {S : Type 0} (n : Node S) (o : Option Proposed) (p : Proposed) → written n o ≡ Some p
    → (has_quorum n.arrivals (view_of n) kinds.Write (open_slot n) p.head.statement.digest ≡ true) × (o ≡ Some p)
written_is n None p is = absurd (cc)
written_is n (Some o) p is =
    let parts = guard (has_quorum n.arrivals (view_of n) kinds.Write (open_slot n) o.head.statement.digest) (Some o) p is in
    let same : o ≡ p = some_equal o p parts.1 in
    (subst (λ (x : Proposed). has_quorum n.arrivals (view_of n) kinds.Write (open_slot n) x.head.statement.digest ≡ true) same parts.0, parts.1)

accepts_by : {S : Type 0} (n : Node S) (p : Proposed) → accepting n ≡ Some p → Accepts n p
unfolding accepting
accepts_by n p is =
    let proposal = proposed_for n.arrivals (open_slot n) in
    let parts = guard (is_open n && not (list_any (accepts_in (open_slot n)) n.entries)) (written n (votable n proposal)) p is in
    let tests = and_true (is_open n) (not (list_any (accepts_in (open_slot n)) n.entries)) parts.0 in
    let w = written_is n (votable n proposal) p parts.1 in
    let v = votable_is n proposal p w.1 in
    record {
      opened = tests.0;
      once = not_true (list_any (accepts_in (open_slot n)) n.entries) tests.1;
      may = v.0;
      written = w.0;
      proposed = proposed_is n.arrivals (open_slot n) p v.1;
    }

-- kept votes of the view in force for its next place are a certificate in each known view of its number
pub drawn_now : {S : Type 0} (stated : List Statement) (view : View) (n : Node S) (kind : VoteKind) (regency : ℕ) (digest : List ℕ) → IsSound stated view n
    → has_quorum n.arrivals (view_of n) kind (slot_of (view_of n) (next_place n) regency) digest ≡ true → (v : View) → Among v n.replica.views → (view_of n).number ≡ v.number
    → IsDrawn n.secret v stated (record { kind = kind; slot = slot_of v (next_place n) regency; digest = digest })
    (certificate_votes n.arrivals (view_of n) kind (slot_of (view_of n) (next_place n) regency) digest)
drawn_now stated view n kind regency digest is enough v there same =
    let slot : Slot = slot_of (view_of n) (next_place n) regency in
    in_force_of stated view n is
    (λ (u : View). IsDrawn n.secret u stated (record { kind = kind; slot = slot_of u (next_place n) regency; digest = digest }) (certificate_votes n.arrivals (view_of n) kind slot digest)) v there same
    (kept_certificate n.secret stated (view_of n) n.arrivals kind slot digest (in_force_viewed stated view n is) refl is.arrivals enough)

pub proposal_may : (secret : List ℕ) (stated : List Statement) (view : View) (p : Proposed) (slot : Slot) → Arrived secret stated view (Propose p) → p.head.statement.slot ≡ slot
    → slot.view ≡ view.number → IsBatchAt secret stated slot.place p.head.statement.digest p.batch
proposal_may secret stated view p slot is at of =
    let here : p.head.statement.slot.view ≡ view.number = ap (λ (s : Slot). s.view) at ∙ of in
    record {
      may = subst (λ (s : Slot). is_batch_for secret s.place p.head.statement.digest p.batch ≡ true) at (is.0.1 here).batch;
      asked = proposal_asked secret stated view p is here;
    }

accept_with : {S : Type 0} (n : Node S) (p : Proposed) → Accept
accept_with n p = record {
  slot = open_slot n;
  digest = p.head.statement.digest;
  writes = certificate_votes n.arrivals (view_of n) kinds.Write (open_slot n) p.head.statement.digest;
  batch = p.batch;
}

may_accept : {S : Type 0} (stated : List Statement) (view : View) (n : Node S) (p : Proposed) → IsSound stated view n → Accepts n p → MayPush stated n (Accepted (accept_with n p))
unfolding accept_with
may_accept stated view n p is a = record {
  admits = record { vote = may_vote stated view n p.head.statement.digest is a.opened a.may; first = none_accepted (open_slot n) n.entries a.once };
  tidy = tidy_vote stated view n is (opens n a.opened).free;
  within = open_within stated view n (Accepted (accept_with n p)) is;
  newest = number_newest stated view n is;
  backed = λ v there same. drawn_now stated view n kinds.Write (regency_of n) p.head.statement.digest is a.written v there same;
  batch = proposal_may n.secret stated (view_of n) p (open_slot n) (each_among (Arrived n.secret stated (view_of n)) n.arrivals (Propose p) is.arrivals a.proposed.there) a.proposed.slot_is refl;
}

accepts_with : {S : Type 0} (stated : List Statement) (view : View) (n : Node S) (o : Option Proposed) → IsSound stated view n → accepting n ≡ o
    → IsSound stated view (accept_batch n o)
unfolding accept_batch accept_with
accepts_with stated view n None is at = is
accepts_with {S = S} stated view n (Some p) is at =
    let a : Accept = accept_with n p in
    let e : LogEntry = Accepted a in
    let pushed : IsSound stated view (recording n e) = records stated view n e is (may_accept stated view n p is (accepts_by n p at)) refl in
    let says_it = says.Voted (signed ballots n.secret n.id (record { kind = kinds.Accept; slot = open_slot n; digest = p.head.statement.digest })) in
    holds stated view (recording n e) targets.View (ballot n kinds.Accept p.head.statement.digest) pushed
    (each_filter (Shows stated (recording n e)) (says.verifies n.secret) (says_it ∷ [])
    (inr (refl, record { entry = a; there = among_last e n.entries; slot_is = refl; digest_is = refl }), tt))
    (each_filter (Late stated (recording n e)) (says.verifies n.secret) (says_it ∷ []) (inr tt, tt))

pub sound_accepts : {S : Type 0} (stated : List Statement) (view : View) (n : Node S) → IsSound stated view n → IsSound stated view (accepts n)
unfolding accepts
sound_accepts stated view n is = accepts_with stated view n (accepting n) is refl
