-- What speaks of a slot ahead is needed, and searches for it find the same among the needed.
use Rattle.std.proofs.Common.{◌≡◌, ℕ, ◌≤◌, ◌<◌, ◌^◌, ◌++◌, Bool, true, false, ◌&&◌, ◌==◌, List, [], ◌∷◌, length, take, refl, ap, sym, ◌∙◌, cond, arith, nat_lt, nat_le, Option, Some, None, is_some, is_none}
use Rattle.std.proofs.lemmas.Bool.{leb-true, le-leb, ltb-true, lt-ltb, eqb-true, eq-eqb}
use Rattle.std.specs.Prelude.{filter, filter_map}
use Rattle.smart_base.specs.Lists.{or_else, same_bytes}
use Rattle.smart_base.specs.Views.{View, is_member, quorum}
use Rattle.smart_base.proofs.SameLists.{and_true}
use Rattle.smart_statements.specs.Forms.{SignedBy}
use Rattle.smart_statements.specs.Equality.{same_slot}
use Rattle.smart_statements.specs.declared.statement.Slot.{Slot}
use Rattle.smart_messages.specs.declared.message.Proposed.{Proposed}
use Rattle.smart_statements.specs.declared.statement.Ballot.{Ballot}
use Rattle.smart_messages.specs.declared.regency.Stop.{Stop}
use Rattle.smart_messages.specs.declared.regency.Sync.{Sync}
use Rattle.smart_messages.specs.declared.regency.Reported.{Reported}
use Rattle.smart_statements.specs.declared.statement.VoteKind.{VoteKind}
use Rattle.smart_statements.specs.declared.statement.VoteKind.TheVariants as kinds
use Rattle.smart_messages.specs.declared.message.Message.{Message}
use Rattle.smart_messages.specs.declared.message.Message.TheVariants.{Propose, Vote}
use Rattle.vote_book.specs.declared.entry.LogEntry.{LogEntry}
use Rattle.transfer_form.specs.declared.transfer.ProvenBatch.{ProvenBatch}
use Rattle.node_rules.specs.Kept.{is_ahead, is_needed, ahead_of, trimmed}
use Rattle.regency_sync.specs.Synchronizers.{needs_stop, needs_report, needs_sync}
use Rattle.regency_sync.proofs.Lists.{any_filter, filter_filter, find_alike, filter_alike, filter_map_alike}
use Rattle.regency_sync.proofs.Needs.{needed_earlier}
use Rattle.node_rules.specs.Votes.{is_vote, has_vote, has_quorum, certificate, vote_for, first_vote, certificate_votes, proposed_in, proposed_for, Named, named_in, named_by, known, decision_by, accepted_in}
use Rattle.node_rules.specs.Arrivals.{is_same_proposal, is_same_vote}
use Rattle.node_rules.specs.Nodes.{Node, entered, view_of, regency_of, next_place, decided_place, open_slot, is_free, is_open, has_begun, start_of, greatest_regency}
use Rattle.kept_arrivals.proofs.Filters.{filter_map_kept}
use Rattle.vote_book.proofs.Tested.{slot_is}
use Rattle.node_rules.proofs.Options.{none_is, guard_passed}

as_ahead : (v c r : ℕ) (s slot : Slot) → is_ahead v c r slot ≡ true → same_slot s slot ≡ true → is_ahead v c r s ≡ true
as_ahead v c r s slot ahead same = ap (λ t. is_ahead v c r t) (slot_is s slot same) ∙ ahead

-- a slot of this view, of a place past one and of this regency or a later one
pub ahead_from : (v c r : ℕ) (s : Slot) → s.view ≡ v → c < s.place → r ≤ s.regency → is_ahead v c r s ≡ true
ahead_from v c r s views places regencies = rw (lt-ltb c s.place places, eq-eqb s.view v views, le-leb r s.regency regencies) refl

-- ---- what speaks of a slot ahead

pub proposed_needed : (v c r : ℕ) (slot : Slot) → is_ahead v c r slot ≡ true → (s : Slot) → same_slot slot s ≡ true → is_ahead v c r s ≡ true
proposed_needed v c r slot ahead s same = ap (λ t. is_ahead v c r t) (sym (slot_is slot s same)) ∙ ahead

vote_needed : (v c r : ℕ) (kind : VoteKind) (member : ℕ) (slot : Slot) (digest : List ℕ) → is_ahead v c r slot ≡ true
    → (m : Message) → is_vote kind member slot digest m ≡ true → is_needed v c r m ≡ true
vote_needed v c r kind member slot digest ahead (Vote b) is =
    as_ahead v c r b.statement.slot slot ahead (and_true _ (same_slot b.statement.slot slot) (and_true _ (same_bytes b.statement.digest digest) is).0).1
vote_needed v c r kind member slot digest ahead _ is = absurd (cc)

vote_for_needed : (v c r : ℕ) (kind : VoteKind) (slot : Slot) (digest : List ℕ) (member : ℕ) → is_ahead v c r slot ≡ true
    → (m : Message) → is_some (vote_for kind slot digest member m) ≡ true → is_needed v c r m ≡ true
vote_for_needed v c r kind slot digest member ahead (Vote b) some =
    vote_needed v c r kind member slot digest ahead (Vote b) (guard_passed (is_vote kind member slot digest (Vote b)) (Some b) some)
vote_for_needed v c r kind slot digest member ahead _ some = absurd (cc)

proposal_needed : (v c r : ℕ) (slot : Slot) → is_ahead v c r slot ≡ true → (m : Message) → is_some (proposed_in slot m) ≡ true → is_needed v c r m ≡ true
proposal_needed v c r slot ahead (Propose p) some = as_ahead v c r p.head.statement.slot slot ahead (guard_passed (same_slot p.head.statement.slot slot) (Some p) some)
proposal_needed v c r slot ahead _ some = absurd (cc)

named_needed : (v c r place : ℕ) → c < place → (m : Message) → is_some (named_in v place r m) ≡ true → is_needed v c r m ≡ true
named_needed v c r place past (Propose p) some =
    let slot : Slot = p.head.statement.slot in
    let outer = and_true ((slot.view == v) && (slot.place == place)) (nat_le r slot.regency) (guard_passed _ _ some) in
    let inner = and_true (slot.view == v) (slot.place == place) outer.0 in
    ahead_from v c r slot (eqb-true slot.view v inner.0) (omega (arith, past, eqb-true slot.place place inner.1)) (leb-true r slot.regency outer.1)
named_needed v c r place past _ some = absurd (cc)

pub same_vote_needed : (v c r : ℕ) (b : SignedBy Ballot) → is_ahead v c r b.statement.slot ≡ true → (m : Message) → is_same_vote b m ≡ true → is_needed v c r m ≡ true
same_vote_needed v c r b ahead (Vote o) is = as_ahead v c r o.statement.slot b.statement.slot ahead (and_true _ (same_slot o.statement.slot b.statement.slot) is).1
same_vote_needed v c r b ahead _ is = absurd (cc)

pub same_proposal_needed : (v c r : ℕ) (p : Proposed) → is_ahead v c r p.head.statement.slot ≡ true → (m : Message) → is_same_proposal p m ≡ true → is_needed v c r m ≡ true
same_proposal_needed v c r p ahead (Propose o) is = as_ahead v c r o.head.statement.slot p.head.statement.slot ahead (and_true _ (same_slot o.head.statement.slot p.head.statement.slot) is).1
same_proposal_needed v c r p ahead _ is = absurd (cc)

-- ---- searches

proposal_more : (slot : Slot) (m : Message) (few all : List Message) (found : Option Proposed) (b : Bool) → proposed_in slot m ≡ found
    → (is_some found ≡ true → b ≡ true) → proposed_for few slot ≡ proposed_for all slot
    → proposed_for (cond b (m ∷ few) few) slot ≡ or_else found (proposed_for all slot)
proposal_more slot m few all None true is implies same = rw is same
proposal_more slot m few all None false is implies same = same
proposal_more slot m few all (Some p) true is implies same = rw is refl
proposal_more slot m few all (Some p) false is implies same = absurd (let e = implies refl in cc)

pub proposal_kept : (v c r : ℕ) (slot : Slot) → is_ahead v c r slot ≡ true → (ms : List Message) → proposed_for (filter (is_needed v c r) ms) slot ≡ proposed_for ms slot
proposal_kept v c r slot ahead [] = refl
proposal_kept v c r slot ahead (m ∷ ms) =
    proposal_more slot m (filter (is_needed v c r) ms) ms (proposed_in slot m) (is_needed v c r m) refl (proposal_needed v c r slot ahead m) (proposal_kept v c r slot ahead ms)

vote_more : (kind : VoteKind) (slot : Slot) (digest : List ℕ) (member : ℕ) (m : Message) (few all : List Message) (found : Option (SignedBy Ballot)) (b : Bool)
    → vote_for kind slot digest member m ≡ found → (is_some found ≡ true → b ≡ true) → first_vote few kind slot digest member ≡ first_vote all kind slot digest member
    → first_vote (cond b (m ∷ few) few) kind slot digest member ≡ or_else found (first_vote all kind slot digest member)
vote_more kind slot digest member m few all None true is implies same = rw is same
vote_more kind slot digest member m few all None false is implies same = same
vote_more kind slot digest member m few all (Some p) true is implies same = rw is refl
vote_more kind slot digest member m few all (Some p) false is implies same = absurd (let e = implies refl in cc)

first_kept : (v c r : ℕ) (kind : VoteKind) (slot : Slot) (digest : List ℕ) → is_ahead v c r slot ≡ true → (ms : List Message) (member : ℕ)
    → first_vote (filter (is_needed v c r) ms) kind slot digest member ≡ first_vote ms kind slot digest member
first_kept v c r kind slot digest ahead [] member = refl
first_kept v c r kind slot digest ahead (m ∷ ms) member =
    vote_more kind slot digest member m (filter (is_needed v c r) ms) ms (vote_for kind slot digest member m) (is_needed v c r m) refl
    (vote_for_needed v c r kind slot digest member ahead m) (first_kept v c r kind slot digest ahead ms member)

voters_kept : (v c r : ℕ) (view : View) (kind : VoteKind) (slot : Slot) (digest : List ℕ) → is_ahead v c r slot ≡ true → (ms : List Message)
    → filter (has_vote (filter (is_needed v c r) ms) kind slot digest) view.members ≡ filter (has_vote ms kind slot digest) view.members
voters_kept v c r view kind slot digest ahead ms =
    filter_alike (has_vote (filter (is_needed v c r) ms) kind slot digest) (has_vote ms kind slot digest)
    (λ member. any_filter (is_vote kind member slot digest) (is_needed v c r) (vote_needed v c r kind member slot digest ahead) ms) view.members

pub quorum_kept : (v c r : ℕ) (view : View) (kind : VoteKind) (slot : Slot) (digest : List ℕ) → is_ahead v c r slot ≡ true → (ms : List Message)
    → has_quorum (filter (is_needed v c r) ms) view kind slot digest ≡ has_quorum ms view kind slot digest
quorum_kept v c r view kind slot digest ahead ms = ap (λ (members : List ℕ). nat_le (quorum view) (length members)) (voters_kept v c r view kind slot digest ahead ms)

pub certificate_kept : (v c r : ℕ) (view : View) (kind : VoteKind) (slot : Slot) (digest : List ℕ) → is_ahead v c r slot ≡ true → (ms : List Message)
    → certificate_votes (filter (is_needed v c r) ms) view kind slot digest ≡ certificate_votes ms view kind slot digest
certificate_kept v c r view kind slot digest ahead ms =
    ap (λ (members : List ℕ). filter_map (first_vote (filter (is_needed v c r) ms) kind slot digest) (take (quorum view) members)) (voters_kept v c r view kind slot digest ahead ms)
    ∙ filter_map_alike (first_vote (filter (is_needed v c r) ms) kind slot digest) (first_vote ms kind slot digest)
    (first_kept v c r kind slot digest ahead ms) (certificate ms view kind slot digest)

pub known_kept : (v c r place : ℕ) → c < place → (ms : List Message) (entries : List LogEntry)
    → known v place r (filter (is_needed v c r) ms) entries ≡ known v place r ms entries
known_kept v c r place past ms entries =
    ap (λ (batches : List Named). batches ++ filter_map (named_by v place) entries) (filter_map_kept (named_in v place r) (is_needed v c r) (named_needed v c r place past) ms)

accepted_kept : (v c r : ℕ) (view : View) (slot : Slot) → is_ahead v c r slot ≡ true → (ms : List Message) (batches : List Named)
    → accepted_in view slot (filter (is_needed v c r) ms) batches ≡ accepted_in view slot ms batches
accepted_kept v c r view slot ahead ms batches =
    find_alike (λ (x : Named). has_quorum (filter (is_needed v c r) ms) view kinds.Accept slot x.digest) (λ (x : Named). has_quorum ms view kinds.Accept slot x.digest)
    (λ x. quorum_kept v c r view kinds.Accept slot x.digest ahead ms) batches

decision_of-kept : (v c r : ℕ) (view : View) (slot : Slot) → is_ahead v c r slot ≡ true → (ms : List Message) (found : Option Named)
    → decision_by view slot (filter (is_needed v c r) ms) found ≡ decision_by view slot ms found
decision_of-kept v c r view slot ahead ms None = refl
decision_of-kept v c r view slot ahead ms (Some x) =
    ap (λ (accepts : List (SignedBy Ballot)). Some (record { slot = slot; batch = x.batch; accepts = accepts })) (certificate_kept v c r view kinds.Accept slot x.digest ahead ms)

-- a decision in a slot ahead, of a batch that is known for a place past this one
pub decision_kept : (v c r place : ℕ) (view : View) (slot : Slot) → is_ahead v c r slot ≡ true → c < place → (ms : List Message) (entries : List LogEntry)
    → decision_by view slot (filter (is_needed v c r) ms) (accepted_in view slot (filter (is_needed v c r) ms) (known v place r (filter (is_needed v c r) ms) entries))
    ≡ decision_by view slot ms (accepted_in view slot ms (known v place r ms entries))
decision_kept v c r place view slot ahead past ms entries =
    decision_of-kept v c r view slot ahead ms _
    ∙ ap (λ found. decision_by view slot ms found)
    (accepted_kept v c r view slot ahead ms _ ∙ ap (λ (batches : List Named). accepted_in view slot ms batches) (known_kept v c r place past ms entries))

-- ---- the open slot

pub free_free : {S : Type 0} (n : Node S) → is_free n ≡ true → n.waiting ≡ None
free_free n free = none_is n.waiting (and_true (is_none n.waiting) (nat_lt (next_place n) (2 ^ 63)) free).0

pub open_free : {S : Type 0} (n : Node S) → is_open n ≡ true → n.waiting ≡ None
open_free n may = free_free n (and_true (is_member (view_of n) n.id) (is_free n) (and_true _ (has_begun (next_place n) (start_of n)) may).0).1

-- where no batch waits, the next place is past the decided one
pub next_past : {S : Type 0} (n : Node S) → n.waiting ≡ None → decided_place n < next_place n
next_past n free = rw free (omega arith)

-- a slot of the next place, in the regency in force or a later one
pub slot_ahead : {S : Type 0} (n : Node S) (regency : ℕ) → n.waiting ≡ None → regency_of n ≤ regency
    → ahead_of n (record { view = (view_of n).number; place = next_place n; regency = regency }) ≡ true
slot_ahead n regency free later =
    ahead_from (view_of n).number (decided_place n) (regency_of n) (record { view = (view_of n).number; place = next_place n; regency = regency })
    refl (next_past n free) later

pub open_ahead : {S : Type 0} (n : Node S) → n.waiting ≡ None → ahead_of n (open_slot n) ≡ true
open_ahead n free = slot_ahead n (regency_of n) free (omega arith)

-- ---- later nodes

ahead_later : (v c r d q : ℕ) → c ≤ d → r ≤ q → (s : Slot) → is_ahead v d q s ≡ true → is_ahead v c r s ≡ true
ahead_later v c r d q places regencies s is =
    let outer = and_true (nat_lt d s.place && (s.view == v)) (nat_le q s.regency) is in
    let inner = and_true (nat_lt d s.place) (s.view == v) outer.0 in
    ahead_from v c r s (eqb-true s.view v inner.1) (omega (arith, places, ltb-true d s.place inner.0)) (omega (arith, regencies, leb-true q s.regency outer.1))

needed_later : (v c r d q : ℕ) → c ≤ d → r ≤ q → (m : Message) → is_needed v d q m ≡ true → is_needed v c r m ≡ true
needed_later v c r d q places regencies (Propose p) is = ahead_later v c r d q places regencies p.head.statement.slot is
needed_later v c r d q places regencies (Vote b) is = ahead_later v c r d q places regencies b.statement.slot is
needed_later v c r d q places regencies _ is = is

-- what is needed in a view, from a place and a regency on
abbrev pub trim : {S : Type 0} → ℕ → ℕ → ℕ → Node S → Node S
trim v c r n = record n {
  arrivals = filter (is_needed v c r) n.arrivals;
  decisions = filter (λ (d : ProvenBatch). nat_lt c d.place) n.decisions;
  stops = filter (needs_stop v r) n.stops;
  reports = filter (needs_report v r) n.reports;
  syncs = filter (needs_sync v r) n.syncs;
  proposed = filter (is_ahead v c r) n.proposed;
}

same_lists : {S : Type 0} (n : Node S) {a b : List Message} {d e : List ProvenBatch} {t u : List (SignedBy Stop)} {p q : List Reported} {y z : List (SignedBy Sync)} {s o : List Slot}
    → a ≡ b → d ≡ e → t ≡ u → p ≡ q → y ≡ z → s ≡ o
    → record n { arrivals = a; decisions = d; stops = t; reports = p; syncs = y; proposed = s } ≡ record n { arrivals = b; decisions = e; stops = u; reports = q; syncs = z; proposed = o }
same_lists n a d t p y s = rw (a, d, t, p, y, s) refl

-- from later ones on, behind earlier ones
pub trim_later : {S : Type 0} (v c r d q : ℕ) (n : Node S) → c ≤ d → r ≤ q → trim v d q (trim v c r n) ≡ trim v d q n
trim_later v c r d q n places regencies =
    same_lists n (filter_filter (is_needed v d q) (is_needed v c r) (needed_later v c r d q places regencies) n.arrivals)
    (filter_filter (λ (x : ProvenBatch). nat_lt d x.place) (λ (x : ProvenBatch). nat_lt c x.place) (λ x is. lt-ltb c x.place (omega (arith, places, ltb-true d x.place is))) n.decisions)
    (filter_filter (needs_stop v q) (needs_stop v r) (λ x is. needed_earlier v r q x.statement.view x.statement.regency regencies is) n.stops)
    (filter_filter (needs_report v q) (needs_report v r) (λ x is. needed_earlier v r q x.head.statement.view x.head.statement.regency regencies is) n.reports)
    (filter_filter (needs_sync v q) (needs_sync v r) (λ x is. needed_earlier v r q x.statement.view x.statement.regency regencies is) n.syncs)
    (filter_filter (is_ahead v d q) (is_ahead v c r) (ahead_later v c r d q places regencies) n.proposed)

-- what a node needs of what was needed earlier in its view
pub trimmed_behind : {S : Type 0} (c r : ℕ) (n : Node S) → c ≤ decided_place n → r ≤ regency_of n → trimmed (trim (view_of n).number c r n) ≡ trimmed n
unfolding trimmed regency_of
trimmed_behind c r n places regencies = trim_later (view_of n).number c r (decided_place n) (greatest_regency (view_of n).number n.entries) n places regencies

pub trimmed_twice : {S : Type 0} (n : Node S) → trimmed (trimmed n) ≡ trimmed n
unfolding trimmed
trimmed_twice n = trimmed_behind (decided_place n) (regency_of n) n (omega arith) (omega arith)

-- What is needed in a node's view stays so where it stays in that view. Where it enters another one, nothing is kept that would be needed.
pub entered_trim : {S : Type 0} (t : Bool) (v w c r q : ℕ) (n : Node S) → (t ≡ true → v ≡ w) → (t ≡ true → r ≡ q) → entered t (trim v c r n) ≡ trim w c q (entered t n)
entered_trim {S = S} true v w c r q n view regency =
    ap (λ (k : ℕ). trim k c r (entered true n)) (view refl) ∙ ap (λ (k : ℕ). trim w c k (entered true n)) (regency refl)
entered_trim false v w c r q n view regency = refl

-- entries take no promise back
pub regency_grows : (view : ℕ) (entries more : List LogEntry) → greatest_regency view entries ≤ greatest_regency view (entries ++ more)
regency_grows view [] more = omega arith
regency_grows view (e ∷ es) more = omega (arith, regency_grows view es more)
