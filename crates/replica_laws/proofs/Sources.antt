-- A node's book has few entries: behind its opening each has a source among the bytes that may have come, and entries of a kind have different ones.
use Rattle.std.proofs.Common.{◌≡◌, ◌⊎◌, inl, inr, ⊎_elim, ℕ, zero, suc, ◌+◌, ◌*◌, ◌^◌, ◌<◌, ◌≤◌, ◌==◌, ◌&&◌, ◌||◌, Bool, true, false, cond, List, [], ◌∷◌, ◌++◌, length, take, drop, filter, refl, ap, ◌∙◌, sym, arith, Option, Some, None, nat_lt, nat_le, subst, append-nil, append_assoc, length-append, Result, Ok, Err, not}
use Rattle.std.proofs.lemmas.Bool.{ltb-true, leb-true, eqb-true, eq-eqb}
use Rattle.std.proofs.lemmas.List.{take-append-drop, length-take-le}
use Rattle.std.specs.List.{filter_map, cons_option, list_any}
use Rattle.std.specs.Prelude.{IfSome, find, is_some, option_map}
use Rattle.smart_base.specs.Lists.{Each, same_bytes, or_else}
use Rattle.smart_base.specs.Cuts.{whole, ranged, number_at}
use Rattle.smart_base.specs.Views.{View, quorum}
use Rattle.smart_statements.specs.Equality.{same_slot, same_kind}
use Rattle.smart_statements.specs.Forms.{SignedBy}
use Rattle.smart_statements.specs.Batches.{Batch}
use Rattle.smart_messages.specs.Messages.{decision_in, decoded, proposal_in, vote_in, stop_in, sync_in}
use Rattle.smart_messages.specs.declared.message.Message.{Message}
use Rattle.smart_messages.specs.declared.message.Message.TheVariants.{Ask, Propose, Vote, Reply}
use Rattle.smart_messages.specs.declared.message.Proposed.{Proposed}
use Rattle.smart_messages.specs.declared.message.Message.TheVariants as changes
use Rattle.smart_messages.specs.declared.regency.Stop.{Stop}
use Rattle.smart_messages.specs.declared.regency.Sync.{Sync}
use Rattle.smart_statements.specs.declared.statement.Slot.{Slot}
use Rattle.smart_statements.specs.declared.statement.VoteKind.{VoteKind}
use Rattle.smart_statements.specs.declared.statement.VoteKind.TheVariants as kinds
use Rattle.smart_statements.specs.declared.entry.NodeEvent.{NodeEvent}
use Rattle.smart_service.specs.Services.{Meaning}
use Rattle.smart_service.specs.declared.replica.Replica.{Replica}
use Rattle.vote_book.specs.Books.{Among, Admits, last_made}
use Rattle.vote_book.specs.Tidy.{IsTidyAfter}
use Rattle.vote_book.specs.declared.entry.Decision.{Decision}
use Rattle.vote_book.specs.declared.entry.Promise.{Promise}
use Rattle.vote_book.specs.declared.entry.LogEntry.{LogEntry}
use Rattle.vote_book.specs.declared.entry.LogEntry.TheVariants.{Opened, Wrote, Accepted, Promised, Synced, Decided, Installed, Marked}
use Rattle.vote_book.proofs.Growth.{last_or_earlier}
use Rattle.vote_book.proofs.Locks.{made_most}
use Rattle.regency_sync.specs.Synchronizers.{Synchronizer, is_needed, is_stop, is_promising}
use Rattle.replica_rules.specs.Pools.{offered, settled}
use Rattle.replica_rules.specs.Replicas.{is_next, delivered, state}
use Rattle.agreement_laws.specs.Statements.{Statement}
use Rattle.node_rules.specs.Votes.{is_vote, has_vote, has_quorum, proposed_in, proposed_for}
use Rattle.node_rules.specs.Marks.{mark_of, mark_place}
use Rattle.node_rules.specs.Nodes.{Node, view_of, regency_of, regency_in, greatest_regency, open_slot, synchronizer_of, next_place, recording, entered, enters, informs, stays_in_view}
use Rattle.node_rules.specs.Arrivals.{kept, noted, part_why, why_dropped, why_ignored, why_part}
use Rattle.node_rules.specs.declared.node.Target.TheVariants as targets
use Rattle.node_rules.specs.Rules.{lines_to_answer, replying, deliver_batch, delivers, proposes, votable, writing, write_batch, writes, written, accepting, accept_batch, accepts, slot_in, deciding, decide_batch, decides, answers_again}
use Rattle.node_rules.specs.Changes.{start_by_sync, promised_for, adopts_by, is_adoptable, adoption, adopts, joins, next_promise, promising, promise_next, promises, leads, times, asks_state, lags, presses, timing}
use Rattle.node_rules.specs.Steps.{step_of, released, opened, outset}
use Rattle.node_laws.specs.Restored.{IsSoundBook}
use Rattle.node_laws.proofs.Deciding.{due_is, FromShown, FromVotes}
use Rattle.node_laws.proofs.Lists.{each_filter_map_in}
use Rattle.node_laws.proofs.Reopened.{in_turn}
use Rattle.replica_laws.proofs.Lists.{each_given, if_or, if_cond, if_found}
use Rattle.replica_laws.proofs.Entered.{Aside, aside-then, aside-telling, aside-joins, aside-leads, aside-proposes, aside-presses, aside-answers_again, aside-answers_state, aside-noted}
use Rattle.node_rules.proofs.Rulewise.{KeptByRules, KeptInSteps, keeps_step, ForEvent}
use Rattle.replica_laws.proofs.MarkPlaces.{stands, IsMarkUpTo, up_to_more, marks_reached, IsAbove, above_all, place_marked, place_decided}
use Rattle.replica_laws.proofs.Replying.{aside-replying, place-delivers}
use Rattle.replica_rules.proofs.Places.{place_delivered, state_place}
use Rattle.node_rules.proofs.Entries.{delivers_same}
use Rattle.replica_laws.proofs.Checked.{votable-if, written-if}
use Rattle.vote_book.proofs.Tested.{slot_is}
use Rattle.smart_base.proofs.SameLists.{and_true}
use Rattle.agreement_laws.proofs.Lists.{some_equal, either, either_by, each_end, each_both, each_among, not_false}
use Rattle.smart_base.proofs.ViewFacts.{each-weaken}
use Rattle.smart_statements.specs.declared.statement.Ballot.{Ballot}
use Rattle.book_laws.specs.BookCuts.{cut_at}
use Rattle.state_transfer.specs.declared.fetch.Ignored.{Ignored}
use Rattle.node_laws.proofs.Cuts.{cut_each}
use Rattle.node_laws.proofs.Installing.{IsReady, installing_is}
use Rattle.node_laws.proofs.Planning.{IsTakenFrom, finished_from}
use Rattle.node_laws.specs.Restoring.{resumed_node}
use Rattle.node_rules.proofs.Options.{no_reason}
use Rattle.node_rules.specs.Transfers.{answers_state, follow_plan, install_by, install_fetch, install_replica, installed_by, installing, installs, is_of_group, planning, plans, spoil}
use Rattle.node_rules.specs.declared.node.OwnSnapshot.{OwnSnapshot}
use Rattle.state_transfer.specs.declared.fetch.Ignored.TheVariants.{Unasked}
use Rattle.snapshot_form.specs.Snapshots.{parts_at, restored}
use Rattle.state_transfer.specs.Fetches.{finished, joined, is_wanted, joined_of, kept_unless, length_of, part_fault, pieces_of}
use Rattle.state_transfer.specs.declared.choice.Plan.{Plan}
use Rattle.state_transfer.specs.declared.fetch.Fetch.{Fetch}
use Rattle.state_transfer.specs.declared.fetch.Spoiled.{Spoiled}
use Rattle.transfer_form.specs.declared.transfer.ProvenBatch.{ProvenBatch}
use Rattle.transfer_form.specs.declared.transfer.StatePart.{StatePart}

-- ---- sources

-- some bytes are read as a message
abbrev pub HasSource : List (List ℕ) → Message → Type 0
HasSource [] m = ⊥
HasSource (bytes ∷ more) m = (decoded bytes ≡ Ok m) ⊎ HasSource more m

-- what a message is for: the slot of a proposal
abbrev pub slot_proposed : Message → Option Slot
slot_proposed m = option_map (λ (p : Proposed). p.head.statement.slot) (proposal_in m)

-- the place of a vote
abbrev pub place_voted : Message → Option ℕ
place_voted m = option_map (λ (b : SignedBy Ballot). b.statement.slot.place) (vote_in m)

-- the place of a vote, or of a decision that others show
abbrev pub place_shown : Message → Option ℕ
place_shown m = or_else (place_voted m) (option_map (λ (d : ProvenBatch). d.place) (decision_in m))

-- the place of a part of a snapshot
abbrev pub place_joined : Message → Option ℕ
place_joined (changes.StatePart p) = Some p.place
place_joined m = None

abbrev promise_begun : SignedBy Sync → Promise
promise_begun s = record { view = s.statement.view; regency = s.statement.regency }

abbrev promise_asked : SignedBy Stop → Promise
promise_asked s = record { view = s.statement.view; regency = s.statement.regency }

-- the regency that is begun
abbrev pub regency_begun : Message → Option Promise
regency_begun m = option_map promise_begun (sync_in m)

-- or asked for
abbrev pub regency_asked : Message → Option Promise
regency_asked m = or_else (option_map promise_asked (stop_in m)) (regency_begun m)

-- a message for this has a source
pub record FromMessage {K : Type 0} (sources : List (List ℕ)) (key : Message → Option K) (k : K) : Type 0 where
  pub message : Message
  pub source : HasSource sources message
  pub key_is : key message ≡ Some k

-- so has what made a node write down an entry: a proposal for the slot, a wish or a beginning of the regency, a vote for the place or a decision
-- there, or a part of a snapshot of the place
abbrev pub EntryFrom : List (List ℕ) → LogEntry → Type 0
EntryFrom sources (Opened o) = ⊥
EntryFrom sources (Wrote w) = FromMessage sources slot_proposed w.slot
EntryFrom sources (Accepted a) = FromMessage sources slot_proposed a.slot
EntryFrom sources (Promised p) = FromMessage sources regency_asked p
EntryFrom sources (Synced s) = FromMessage sources regency_begun (record { view = s.view; regency = s.regency })
EntryFrom sources (Decided d) = FromMessage sources place_shown d.slot.place
EntryFrom sources (Installed i) = FromMessage sources place_joined i.place
EntryFrom sources (Marked m) = FromMessage sources place_shown m.place

-- a promise is of a later regency than each before it in its view, and a mark of a later place than each before it
abbrev pub IsLast : List LogEntry → LogEntry → Type 0
IsLast before (Opened o) = Unit {0}
IsLast before (Wrote w) = Unit {0}
IsLast before (Accepted a) = Unit {0}
IsLast before (Promised p) = greatest_regency p.view before < p.regency
IsLast before (Synced s) = Unit {0}
IsLast before (Decided d) = Unit {0}
IsLast before (Installed i) = Unit {0}
IsLast before (Marked m) = IsAbove before m

abbrev pub Rising : List LogEntry → Type 0
Rising entries = (before : List LogEntry) (entry : LogEntry) (after : List LogEntry) → entries ≡ before ++ entry ∷ after → IsLast before entry

-- what holds of each entry behind the first
abbrev pub EachBehind : (LogEntry → Type 0) → List LogEntry → Type 0
EachBehind P [] = Unit {0}
EachBehind P (e ∷ es) = Each P es

pub record FromBook (sources : List (List ℕ)) (entries : List LogEntry) : Type 0 where
  pub behind : EachBehind (EntryFrom sources) entries
  pub rising : Rising entries

-- parts of a plan's snapshot that came, of the plan's place
abbrev pub PartsFrom : List (List ℕ) → Fetch → Type 0
PartsFrom sources f = Each (λ (p : StatePart). HasSource sources (changes.StatePart p) × (p.place ≡ f.plan.place)) f.parts

-- what a node has kept has a source, and so has its book
pub record FromSources {S : Type 0} (sources : List (List ℕ)) (n : Node S) : Type 0 where
  pub arrivals : Each (λ (m : Message). HasSource sources m) n.arrivals
  pub stops : Each (λ (s : SignedBy Stop). HasSource sources (changes.Stop s)) n.stops
  pub syncs : Each (λ (s : SignedBy Sync). HasSource sources (changes.Sync s)) n.syncs
  pub decisions : Each (λ (d : ProvenBatch). HasSource sources (changes.Decision d)) n.decisions
  pub fetch : IfSome n.fetch (PartsFrom sources)
  -- what waits was decided
  pub waiting : IfSome n.waiting (λ (batch : Batch). FromMessage sources place_shown (next_place n))
  pub book : FromBook sources n.entries
  -- a mark is of a place that is delivered
  pub marks : Each (IsMarkUpTo n.replica.place) n.entries

-- ---- books

none_rising : Rising []
none_rising before entry after split = absurd (none before split)
  where
    none : (xs : List LogEntry) → [] ≡ xs ++ entry ∷ after → ⊥
    none [] same = cc
    none (x ∷ xs) same = cc

rising_end : (es : List LogEntry) (e : LogEntry) → Rising es → IsLast es e → Rising (es ++ e ∷ [])
rising_end es e rising is before entry after split =
    ⊎_elim
    (λ last. subst (λ (b : List LogEntry). IsLast b entry) last.0 (subst (λ (x : LogEntry). IsLast es x) last.1 is))
    (λ earlier. rising before entry earlier.after earlier.split)
    (last_or_earlier es e before entry after split)

rising_front : (front rest : List LogEntry) → Rising (front ++ rest) → Rising front
rising_front front rest rising before entry after split =
    rising before entry (after ++ rest) (ap (λ (es : List LogEntry). es ++ rest) split ∙ append_assoc before (entry ∷ after) rest)

behind_end : (P : LogEntry → Type 0) (es : List LogEntry) (e : LogEntry) → 0 < length es → EachBehind P es → P e → EachBehind P (es ++ e ∷ [])
behind_end P [] e some each is = absurd (omega (arith, some))
behind_end P (x ∷ xs) e some each is = each_end P xs e each is

behind_front : (P : LogEntry → Type 0) (front rest : List LogEntry) → EachBehind P (front ++ rest) → EachBehind P front
behind_front P [] rest each = tt
behind_front P (e ∷ es) rest each = each_front es each
  where
    each_front : (xs : List LogEntry) → Each P (xs ++ rest) → Each P xs
    each_front [] all = tt
    each_front (x ∷ xs) all = (all.0, each_front xs all.1)

behind_weaker : (P Q : LogEntry → Type 0) → ((e : LogEntry) → P e → Q e) → (es : List LogEntry) → EachBehind P es → EachBehind Q es
behind_weaker P Q weaker [] each = tt
behind_weaker P Q weaker (e ∷ es) each = each-weaken P Q weaker es each

-- a book that has been opened
pub from-opening : (sources : List (List ℕ)) (e : LogEntry) → IsLast [] e → FromBook sources (e ∷ [])
from-opening sources e is = record { behind = tt; rising = rising_end [] e none_rising is }

pub from-end : (sources : List (List ℕ)) (es : List LogEntry) (e : LogEntry) → 0 < length es → FromBook sources es → EntryFrom sources e → IsLast es e → FromBook sources (es ++ e ∷ [])
from-end sources es e some book from is = record { behind = behind_end (EntryFrom sources) es e some book.behind from; rising = rising_end es e book.rising is }

-- each front of a book
pub from-front : (sources : List (List ℕ)) (front rest : List LogEntry) → FromBook sources (front ++ rest) → FromBook sources front
from-front sources front rest book = record { behind = behind_front (EntryFrom sources) front rest book.behind; rising = rising_front front rest book.rising }

pub from-take : (sources : List (List ℕ)) (entries : List LogEntry) (k : ℕ) → FromBook sources entries → FromBook sources (take k entries)
from-take sources entries k book =
    from-front sources (take k entries) (drop k entries) (subst (λ (es : List LogEntry). FromBook sources es) (sym (take-append-drop k entries)) book)

-- ---- more sources

message-more : {K : Type 0} (sources more : List (List ℕ)) → ((m : Message) → HasSource sources m → HasSource more m) → (key : Message → Option K) (k : K) → FromMessage sources key k
    → FromMessage more key k
message-more sources more all key k from = record { message = from.message; source = all from.message from.source; key_is = from.key_is }

entry-more : (sources more : List (List ℕ)) → ((m : Message) → HasSource sources m → HasSource more m) → (e : LogEntry) → EntryFrom sources e → EntryFrom more e
entry-more sources more all (Opened o) from = from
entry-more sources more all (Wrote w) from = message-more sources more all slot_proposed w.slot from
entry-more sources more all (Accepted a) from = message-more sources more all slot_proposed a.slot from
entry-more sources more all (Promised p) from = message-more sources more all regency_asked p from
entry-more sources more all (Synced s) from = message-more sources more all regency_begun (record { view = s.view; regency = s.regency }) from
entry-more sources more all (Decided d) from = message-more sources more all place_shown d.slot.place from
entry-more sources more all (Installed i) from = message-more sources more all place_joined i.place from
entry-more sources more all (Marked m) from = message-more sources more all place_shown m.place from

pub book-more : (sources more : List (List ℕ)) → ((m : Message) → HasSource sources m → HasSource more m) → (entries : List LogEntry) → FromBook sources entries → FromBook more entries
book-more sources more all entries book =
    record { behind = behind_weaker (EntryFrom sources) (EntryFrom more) (entry-more sources more all) entries book.behind; rising = book.rising }

parts-more : (sources more : List (List ℕ)) → ((m : Message) → HasSource sources m → HasSource more m) → (fetch : Option Fetch) → IfSome fetch (PartsFrom sources) → IfSome fetch (PartsFrom more)
parts-more sources more all None from = tt
parts-more sources more all (Some f) from =
    each-weaken (λ (p : StatePart). HasSource sources (changes.StatePart p) × (p.place ≡ f.plan.place)) (λ (p : StatePart). HasSource more (changes.StatePart p) × (p.place ≡ f.plan.place))
    (λ p has. (all (changes.StatePart p) has.0, has.1)) f.parts from

waiting-more : (sources more : List (List ℕ)) → ((m : Message) → HasSource sources m → HasSource more m) → (place : ℕ) (waiting : Option Batch)
    → IfSome waiting (λ (batch : Batch). FromMessage sources place_shown place) → IfSome waiting (λ (batch : Batch). FromMessage more place_shown place)
waiting-more sources more all place None from = tt
waiting-more sources more all place (Some batch) from = message-more sources more all place_shown place from

pub from-more : {S : Type 0} (sources more : List (List ℕ)) → ((m : Message) → HasSource sources m → HasSource more m) → (n : Node S) → FromSources sources n → FromSources more n
from-more sources more all n from = record {
  arrivals = each-weaken (λ (m : Message). HasSource sources m) (λ (m : Message). HasSource more m) (λ m has. all m has) n.arrivals from.arrivals;
  stops = each-weaken (λ (s : SignedBy Stop). HasSource sources (changes.Stop s)) (λ (s : SignedBy Stop). HasSource more (changes.Stop s))
      (λ s has. all (changes.Stop s) has) n.stops from.stops;
  syncs = each-weaken (λ (s : SignedBy Sync). HasSource sources (changes.Sync s)) (λ (s : SignedBy Sync). HasSource more (changes.Sync s))
      (λ s has. all (changes.Sync s) has) n.syncs from.syncs;
  decisions = each-weaken (λ (d : ProvenBatch). HasSource sources (changes.Decision d)) (λ (d : ProvenBatch). HasSource more (changes.Decision d))
      (λ d has. all (changes.Decision d) has) n.decisions from.decisions;
  fetch = parts-more sources more all n.fetch from.fetch;
  waiting = waiting-more sources more all (next_place n) n.waiting from.waiting;
  book = book-more sources more all n.entries from.book;
  marks = from.marks;
}

-- ---- what is due has a source

-- one that passes, of some or of those of which something holds

one_passes : {A : Type 0} (p : A → Bool) (xs : List A) → 1 ≤ length (filter p xs) → (x : A) × (p x ≡ true)
one_passes p [] some = absurd (omega (arith, some))
one_passes {A = A} p (x ∷ xs) some = by (p x) refl some (λ more. one_passes p xs more)
  where
    by : (t : Bool) → p x ≡ t → 1 ≤ length (cond t (x ∷ filter p xs) (filter p xs)) → (1 ≤ length (filter p xs) → (y : A) × (p y ≡ true)) → (y : A) × (p y ≡ true)
    by true is some rest = (x, is)
    by false is some rest = rest some

one_of : {A : Type 0} (P : A → Type 0) (p : A → Bool) (xs : List A) → Each P xs → list_any p xs ≡ true → (x : A) × P x × (p x ≡ true)
one_of P p [] each some = absurd (cc)
one_of {A = A} P p (x ∷ xs) each some = by (p x) refl some (λ later. one_of P p xs each.1 later)
  where
    by : (t : Bool) → p x ≡ t → (t || list_any p xs) ≡ true → (list_any p xs ≡ true → (y : A) × P y × (p y ≡ true)) → (y : A) × P y × (p y ≡ true)
    by true is some rest = (x, each.0, is)
    by false is some rest = rest some

-- a proposal for the slot

proposed_in-from : (sources : List (List ℕ)) (slot : Slot) (m : Message) → HasSource sources m → IfSome (proposed_in slot m) (λ (p : Proposed). FromMessage sources slot_proposed slot)
proposed_in-from sources slot (Propose p) has =
    if_cond (λ (x : Proposed). FromMessage sources slot_proposed slot) (same_slot p.head.statement.slot slot) (Some p)
    (λ is. record { message = (Propose p); source = has; key_is = ap (λ (s : Slot). Some s) (slot_is p.head.statement.slot slot is) })
proposed_in-from sources slot _ has = tt

proposed_for-from : (sources : List (List ℕ)) (slot : Slot) (arrivals : List Message) → Each (λ (m : Message). HasSource sources m) arrivals
    → IfSome (proposed_for arrivals slot) (λ (p : Proposed). FromMessage sources slot_proposed slot)
proposed_for-from sources slot [] each = tt
proposed_for-from sources slot (m ∷ ms) each =
    if_or (λ (p : Proposed). FromMessage sources slot_proposed slot) (proposed_in slot m) (proposed_for ms slot) (proposed_in-from sources slot m each.0)
    (proposed_for-from sources slot ms each.1)

writing-from : {S : Type 0} (sources : List (List ℕ)) (n : Node S) → FromSources sources n → IfSome (writing n) (λ (p : Proposed). FromMessage sources slot_proposed (open_slot n))
unfolding writing
writing-from sources n from =
    let P : Proposed → Type 0 = λ p. FromMessage sources slot_proposed (open_slot n) in
    if_cond P _ (votable n (proposed_for n.arrivals (open_slot n)))
    (λ may. votable-if P n (proposed_for n.arrivals (open_slot n)) (proposed_for-from sources (open_slot n) n.arrivals from.arrivals))

accepting-from : {S : Type 0} (sources : List (List ℕ)) (n : Node S) → FromSources sources n → IfSome (accepting n) (λ (p : Proposed). FromMessage sources slot_proposed (open_slot n))
unfolding accepting
accepting-from sources n from =
    let P : Proposed → Type 0 = λ p. FromMessage sources slot_proposed (open_slot n) in
    if_cond P _ (written n (votable n (proposed_for n.arrivals (open_slot n))))
    (λ may. written-if P n (votable n (proposed_for n.arrivals (open_slot n)))
    (votable-if P n (proposed_for n.arrivals (open_slot n)) (proposed_for-from sources (open_slot n) n.arrivals from.arrivals)))

-- a vote for the place

vote_place : (kind : VoteKind) (member : ℕ) (slot : Slot) (digest : List ℕ) (m : Message) → is_vote kind member slot digest m ≡ true → place_voted m ≡ Some slot.place
vote_place kind member slot digest (Vote b) is =
    let outer = and_true (same_kind b.statement.kind kind && (b.signer == member) && same_slot b.statement.slot slot) (same_bytes b.statement.digest digest) is in
    let same = and_true (same_kind b.statement.kind kind && (b.signer == member)) (same_slot b.statement.slot slot) outer.0 in
    ap (λ (s : Slot). Some s.place) (slot_is b.statement.slot slot same.1)
vote_place kind member slot digest _ is = absurd (cc)

-- a quorum is not empty
vote-from : (sources : List (List ℕ)) (view : View) (kind : VoteKind) (slot : Slot) (digest : List ℕ) (arrivals : List Message) → Each (λ (m : Message). HasSource sources m) arrivals
    → has_quorum arrivals view kind slot digest ≡ true → FromMessage sources place_voted slot.place
vote-from sources view kind slot digest arrivals each enough =
    let p : ℕ → Bool = has_vote arrivals kind slot digest in
    let le = leb-true (quorum view) (length (filter p view.members)) enough in
    let member = one_passes p view.members (omega (arith, le)) in
    let vote = one_of (λ (m : Message). HasSource sources m) (is_vote kind member.0 slot digest) arrivals each member.1 in
    record { message = vote.0; source = vote.1; key_is = vote_place kind member.0 slot digest vote.0 vote.2 }

voted_shown : (sources : List (List ℕ)) (place : ℕ) → FromMessage sources place_voted place → FromMessage sources place_shown place
voted_shown sources place from = record {
  message = from.message;
  source = from.source;
  key_is = ap (λ (o : Option ℕ). or_else o (option_map (λ (d : ProvenBatch). d.place) (decision_in from.message))) from.key_is;
}

deciding-from : {S : Type 0} (sources : List (List ℕ)) (n : Node S) (d : Decision) → deciding n ≡ Some d → FromSources sources n → FromMessage sources place_shown d.slot.place
deciding-from {S = S} sources n d is from =
    let due = due_is n d is in
    ⊎_elim
    (λ (one : FromShown n d).
    record {
      message = changes.Decision one.shown;
      source = each_among (λ (x : ProvenBatch). HasSource sources (changes.Decision x)) n.decisions one.shown from.decisions one.there;
      key_is = ap (λ (k : ℕ). Some k) (one.place_is ∙ sym due.place_is);
    })
    (λ (own : FromVotes n d).
    let vote = vote-from sources (view_of n) kinds.Accept (slot_in n own.regency) own.decides.named.digest n.arrivals from.arrivals own.decides.accepted in
    voted_shown sources d.slot.place (subst (λ (x : Decision). FromMessage sources place_voted x.slot.place) (sym own.decides.decision_is) vote))
    due.how

-- a wish for the next regency

same_promise : (v r view regency : ℕ) → v ≡ view → r ≡ regency → ◌≡◌ {A = Option Promise} (Some (record { view = v; regency = r })) (Some (record { view = view; regency = regency }))
same_promise v r view regency ev er = rw (ev, er) refl

promising-from : (sources : List (List ℕ)) (view : View) (s : Synchronizer) → Each (λ (x : SignedBy Stop). HasSource sources (changes.Stop x)) s.stops → is_promising view s ≡ true
    → FromMessage sources regency_asked (record { view = view.number; regency = s.regency + 1 })
unfolding is_promising
promising-from sources view s each is =
    let p : ℕ → Bool = λ member. list_any (is_stop view.number (s.regency + 1) member) s.stops in
    let parts = and_true (nat_lt (s.regency + 1) (2 ^ 32)) (nat_le (2 * view.f + 1) (length (filter p view.members))) is in
    let le = leb-true (2 * view.f + 1) (length (filter p view.members)) parts.1 in
    let member = one_passes p view.members (omega (arith, le)) in
    let stop = one_of (λ (x : SignedBy Stop). HasSource sources (changes.Stop x)) (is_stop view.number (s.regency + 1) member.0) s.stops each member.1 in
    let w = stop.0.statement in
    let tests = and_true ((stop.0.signer == member.0) && (w.view == view.number)) (w.regency == s.regency + 1) stop.2 in
    let front = and_true (stop.0.signer == member.0) (w.view == view.number) tests.0 in
    record {
      message = (changes.Stop stop.0);
      source = stop.1;
      key_is = same_promise w.view w.regency view.number (s.regency + 1) (eqb-true w.view view.number front.1) (eqb-true w.regency (s.regency + 1) tests.1);
    }

-- a beginning that is adopted came, and is of the view in force
record IsAdopted (sources : List (List ℕ)) (view : ℕ) (s : SignedBy Sync) : Type 0 where
  source : HasSource sources (changes.Sync s)
  of_view : s.statement.view ≡ view

adoption-from : {S : Type 0} (sources : List (List ℕ)) (n : Node S) → FromSources sources n → IfSome (adoption n) (IsAdopted sources (view_of n).number)
unfolding adoption
adoption-from sources n from =
    by (find (is_adoptable n) n.syncs)
    (if_found (λ (s : SignedBy Sync). HasSource sources (changes.Sync s)) (is_adoptable n) n.syncs from.syncs)
  where
    by : (o : Option (SignedBy Sync)) → IfSome o (λ s. HasSource sources (changes.Sync s) × (is_adoptable n s ≡ true)) → IfSome o (IsAdopted sources (view_of n).number)
    by None due = tt
    by (Some s) due =
        let outer = and_true (is_needed (view_of n).number (regency_of n) s.statement.view s.statement.regency) _ due.1 in
        let inner = and_true (s.statement.view == (view_of n).number) (nat_le (regency_of n) s.statement.regency) outer.0 in
        record { source = due.0; of_view = eqb-true s.statement.view (view_of n).number inner.0 }

-- ---- what the rules leave of it

-- of a node that has an entry
record IsFrom {S : Type 0} (sources : List (List ℕ)) (n : Node S) : Type 0 where
  from : FromSources sources n
  some : 0 < length n.entries

still : (k : ℕ) → k ≤ k
still k = omega arith

-- what two nodes keep alike
record Alike {S : Type 0} (n n' : Node S) : Type 0 where
  arrivals : n'.arrivals ≡ n.arrivals
  stops : n'.stops ≡ n.stops
  syncs : n'.syncs ≡ n.syncs
  decisions : n'.decisions ≡ n.decisions

-- a node that keeps the same at the same place or a later one, and has the same book or one more entry

is_from-as : {S : Type 0} (sources : List (List ℕ)) (n n' : Node S) → Alike n n' → n'.entries ≡ n.entries → n.replica.place ≤ n'.replica.place → IfSome n'.fetch (PartsFrom sources)
    → IfSome n'.waiting (λ (batch : Batch). FromMessage sources place_shown (next_place n')) → IsFrom sources n → IsFrom sources n'
is_from-as sources n n' alike entries least fetch waiting is = record {
  from = record {
    arrivals = subst (λ (ms : List Message). Each (λ (m : Message). HasSource sources m) ms) (sym alike.arrivals) is.from.arrivals;
    stops = subst (λ (xs : List (SignedBy Stop)). Each (λ (s : SignedBy Stop). HasSource sources (changes.Stop s)) xs) (sym alike.stops) is.from.stops;
    syncs = subst (λ (xs : List (SignedBy Sync)). Each (λ (s : SignedBy Sync). HasSource sources (changes.Sync s)) xs) (sym alike.syncs) is.from.syncs;
    decisions = subst (λ (xs : List ProvenBatch). Each (λ (d : ProvenBatch). HasSource sources (changes.Decision d)) xs) (sym alike.decisions) is.from.decisions;
    fetch = fetch;
    waiting = waiting;
    book = subst (λ (es : List LogEntry). FromBook sources es) (sym entries) is.from.book;
    marks = subst (λ (es : List LogEntry). Each (IsMarkUpTo n'.replica.place) es) (sym entries)
        (each-weaken (IsMarkUpTo n.replica.place) (IsMarkUpTo n'.replica.place) (λ e up. up_to_more n.replica.place n'.replica.place e least up) n.entries is.from.marks);
  };
  some = subst (λ (es : List LogEntry). 0 < length es) (sym entries) is.some;
}

-- the same node but for what has no source
is_from-same : {S : Type 0} (sources : List (List ℕ)) (n n' : Node S) → Alike n n' → n'.entries ≡ n.entries → n'.replica ≡ n.replica → n'.fetch ≡ n.fetch → n'.waiting ≡ n.waiting → IsFrom sources n
    → IsFrom sources n'
is_from-same {S = S} sources n n' alike entries replica fetch waiting is =
    is_from-as sources n n' alike entries (let same = ap (λ (r : Replica S). r.place) replica in omega (arith, same)) (subst (λ (o : Option Fetch). IfSome o (PartsFrom sources)) (sym fetch) is.from.fetch)
    (subst (λ (r : Replica S). IfSome n'.waiting (λ (batch : Batch). FromMessage sources place_shown (r.place + 1))) (sym replica)
    (subst (λ (o : Option Batch). IfSome o (λ (batch : Batch). FromMessage sources place_shown (next_place n))) (sym waiting) is.from.waiting)) is

is_from-end : {S : Type 0} (sources : List (List ℕ)) (n n' : Node S) (e : LogEntry) → Alike n n' → n'.entries ≡ n.entries ++ e ∷ [] → n.replica.place ≤ n'.replica.place → IfSome n'.fetch (PartsFrom sources)
    → IfSome n'.waiting (λ (batch : Batch). FromMessage sources place_shown (next_place n')) → EntryFrom sources e → IsLast n.entries e → IsMarkUpTo n.replica.place e → IsFrom sources n → IsFrom sources n'
is_from-end {S = S} sources n n' e alike entries least fetch waiting from last up is =
    let x : Node S = record n { entries = n.entries ++ e ∷ [] } in
    is_from-as sources x n' (record { arrivals = alike.arrivals; stops = alike.stops; syncs = alike.syncs; decisions = alike.decisions }) entries least fetch waiting
    (record {
      from = record {
        arrivals = is.from.arrivals;
        stops = is.from.stops;
        syncs = is.from.syncs;
        decisions = is.from.decisions;
        fetch = is.from.fetch;
        waiting = is.from.waiting;
        book = from-end sources n.entries e is.some is.from.book from last;
        marks = each_end (IsMarkUpTo n.replica.place) n.entries e is.from.marks up;
      };
      some = omega (arith, length-append n.entries (e ∷ []));
    })

alike : {S : Type 0} (n : Node S) → Alike n n
alike n = record { arrivals = refl; stops = refl; syncs = refl; decisions = refl }

is_from-aside : {S : Type 0} (sources : List (List ℕ)) (n n' : Node S) → Aside n n' → IsFrom sources n → IsFrom sources n'
is_from-aside {S = S} sources n n' aside is =
    subst (λ (x : Node S). IsFrom sources x) (sym aside.same)
    (is_from-same sources n (record n { held = aside.holds; proposed = aside.slots; stop_made = aside.stopped; sync_made = aside.led; impatient = aside.pressed; behind = aside.told })
    (record { arrivals = refl; stops = refl; syncs = refl; decisions = refl }) refl refl refl refl is)

-- a node that is in a view, or that enters one
is_from-entered : {S : Type 0} (sources : List (List ℕ)) (stays : Bool) (n : Node S) → IsFrom sources n → IsFrom sources (entered stays n)
is_from-entered sources stays n is = record {
  from = record {
    arrivals = either (λ (ms : List Message). Each (λ (m : Message). HasSource sources m) ms) stays n.arrivals [] is.from.arrivals tt;
    stops = either (λ (xs : List (SignedBy Stop)). Each (λ (s : SignedBy Stop). HasSource sources (changes.Stop s)) xs) stays n.stops [] is.from.stops tt;
    syncs = either (λ (xs : List (SignedBy Sync)). Each (λ (s : SignedBy Sync). HasSource sources (changes.Sync s)) xs) stays n.syncs [] is.from.syncs tt;
    decisions = is.from.decisions;
    fetch = is.from.fetch;
    waiting = is.from.waiting;
    book = is.from.book;
    marks = is.from.marks;
  };
  some = is.some;
}

-- a regency above the one in force is above all that are promised in its view
above_force : {S : Type 0} (n : Node S) (view regency : ℕ) → view ≡ (view_of n).number → regency_of n < regency → greatest_regency view n.entries < regency
unfolding regency_of
above_force n view regency same less = let at : greatest_regency view n.entries ≡ greatest_regency (view_of n).number n.entries = ap (λ v. greatest_regency v n.entries) same in omega (arith, at, less)

is_from-promised : {S : Type 0} (sources : List (List ℕ)) (n : Node S) (s : SignedBy Sync) → IsAdopted sources (view_of n).number s → IsFrom sources n
    → IsFrom sources (record n { entries = n.entries ++ promised_for n s.statement })
is_from-promised {S = S} sources n s came is =
    either_by (λ (xs : List LogEntry). IsFrom sources (record n { entries = n.entries ++ xs })) (nat_lt (regency_of n) s.statement.regency)
    (Promised (record { view = s.statement.view; regency = s.statement.regency }) ∷ []) []
    (λ less. is_from-end sources n (record n { entries = n.entries ++ Promised (record { view = s.statement.view; regency = s.statement.regency }) ∷ [] })
    (Promised (record { view = s.statement.view; regency = s.statement.regency })) (record { arrivals = refl; stops = refl; syncs = refl; decisions = refl }) refl (still n.replica.place) is.from.fetch is.from.waiting
    (record { message = (changes.Sync s); source = came.source; key_is = refl })
    (above_force n s.statement.view s.statement.regency came.of_view (ltb-true (regency_of n) s.statement.regency less)) tt is)
    (λ not_less. is_from-same sources n (record n { entries = n.entries ++ [] }) (record { arrivals = refl; stops = refl; syncs = refl; decisions = refl }) (append-nil n.entries) refl refl refl is)

is_from-adopts_by : {S : Type 0} (sources : List (List ℕ)) (n : Node S) (sync : Option (SignedBy Sync)) → IfSome sync (IsAdopted sources (view_of n).number) → IsFrom sources n → IsFrom sources (adopts_by n sync)
unfolding adopts_by
is_from-adopts_by sources n None came is = is
is_from-adopts_by {S = S} sources n (Some s) came is =
    let x : Node S = record n { entries = n.entries ++ promised_for n s.statement } in
    is_from-end sources x (adopts_by n (Some s)) (Synced (start_by_sync s.statement)) (record { arrivals = refl; stops = refl; syncs = refl; decisions = refl }) refl (still n.replica.place) is.from.fetch is.from.waiting
    (record { message = (changes.Sync s); source = came.source; key_is = refl }) tt tt (is_from-promised sources n s came is)

is_from-adopts : {S : Type 0} (sources : List (List ℕ)) (n : Node S) → IsFrom sources n → IsFrom sources (adopts n)
unfolding adopts
is_from-adopts sources n is = is_from-adopts_by sources n (adoption n) (adoption-from sources n is.from) is

is_from-promise_next : {S : Type 0} (sources : List (List ℕ)) (n : Node S) → promising n ≡ true → IsFrom sources n → IsFrom sources (promise_next n)
unfolding promise_next promising
is_from-promise_next sources n due is =
    is_from-end sources n (promise_next n) (Promised (next_promise n)) (record { arrivals = refl; stops = refl; syncs = refl; decisions = refl }) refl (still n.replica.place) is.from.fetch is.from.waiting (promising-from sources (view_of n) (synchronizer_of n) is.from.stops due)
    (above_force n (view_of n).number (regency_of n + 1) refl (omega arith)) tt is

is_from-promises : {S : Type 0} (sources : List (List ℕ)) (n : Node S) → IsFrom sources n → IsFrom sources (promises n)
unfolding promises
is_from-promises {S = S} sources n is =
    either_by (λ (x : Node S). IsFrom sources x) (promising n) (promise_next n) n (λ due. is_from-promise_next sources n due is) (λ not_due. is)

is_from-write_batch : {S : Type 0} (sources : List (List ℕ)) (n : Node S) (p : Option Proposed) → IfSome p (λ (x : Proposed). FromMessage sources slot_proposed (open_slot n)) → IsFrom sources n
    → IsFrom sources (write_batch n p)
unfolding write_batch
is_from-write_batch sources n None from is = is
is_from-write_batch sources n (Some p) from is =
    is_from-end sources n (write_batch n (Some p)) (Wrote (record { slot = open_slot n; digest = p.head.statement.digest })) (record { arrivals = refl; stops = refl; syncs = refl; decisions = refl }) refl (still n.replica.place) is.from.fetch is.from.waiting from tt tt is

is_from-accept_batch : {S : Type 0} (sources : List (List ℕ)) (n : Node S) (p : Option Proposed) → IfSome p (λ (x : Proposed). FromMessage sources slot_proposed (open_slot n)) → IsFrom sources n
    → IsFrom sources (accept_batch n p)
unfolding accept_batch
is_from-accept_batch sources n None from is = is
is_from-accept_batch sources n (Some p) from is = is_from-end sources n (accept_batch n (Some p)) (Accepted _) (record { arrivals = refl; stops = refl; syncs = refl; decisions = refl }) refl (still n.replica.place) is.from.fetch is.from.waiting from tt tt is

is_from-decide_batch : {S : Type 0} (sources : List (List ℕ)) (n : Node S) (d : Option Decision) → deciding n ≡ d → IsFrom sources n → IsFrom sources (decide_batch n d)
unfolding decide_batch
is_from-decide_batch sources n None due is = is
is_from-decide_batch sources n (Some d) due is =
    let from = deciding-from sources n d due is.from in
    is_from-end sources n (decide_batch n (Some d)) (Decided d) (record { arrivals = refl; stops = refl; syncs = refl; decisions = refl }) refl (still n.replica.place) is.from.fetch
    (subst (λ (k : ℕ). FromMessage sources place_shown k) (due_is n d due).place_is from) from tt tt is

waited-from : (sources : List (List ℕ)) (place : ℕ) (waiting : Option Batch) → is_some waiting ≡ true → IfSome waiting (λ (batch : Batch). FromMessage sources place_shown place)
    → FromMessage sources place_shown place
waited-from sources place None waits from = absurd (cc)
waited-from sources place (Some batch) waits from = from

-- a mark has the source of the decision: it is of the place just delivered
is_from-mark : {S : Type 0} (sources : List (List ℕ)) (m : Meaning S) (n : Node S) → is_some n.waiting ≡ true → IsFrom sources n → IsFrom sources (delivers m n)
    → IsFrom sources (mark_place m (delivers m n))
unfolding mark_place
is_from-mark {S = S} sources m n waits is delivered =
    let d : Node S = delivers m n in
    let next : d.replica.place ≡ n.replica.place + 1 = place-delivers m n waits in
    let above : IsAbove d.entries (mark_of m d) =
    subst (λ (es : List LogEntry). IsAbove es (mark_of m d)) (sym (delivers_same m n)) (above_all n.replica.place n.entries (mark_of m d) is.from.marks next) in
    let from : FromMessage sources place_shown (next_place n) = waited-from sources (next_place n) n.waiting waits is.from.waiting in
    is_from-end sources d (mark_place m d) (Marked (mark_of m d)) (record { arrivals = refl; stops = refl; syncs = refl; decisions = refl }) refl (still d.replica.place) delivered.from.fetch delivered.from.waiting
    (subst (λ (k : ℕ). FromMessage sources place_shown k) (sym next) from) above (still d.replica.place) delivered

is_from-writes : {S : Type 0} (sources : List (List ℕ)) (n : Node S) → IsFrom sources n → IsFrom sources (writes n)
unfolding writes
is_from-writes sources n is = is_from-write_batch sources n (writing n) (writing-from sources n is.from) is

is_from-accepts : {S : Type 0} (sources : List (List ℕ)) (n : Node S) → IsFrom sources n → IsFrom sources (accepts n)
unfolding accepts
is_from-accepts sources n is = is_from-accept_batch sources n (accepting n) (accepting-from sources n is.from) is

is_from-decides : {S : Type 0} (sources : List (List ℕ)) (n : Node S) → IsFrom sources n → IsFrom sources (decides n)
unfolding decides
is_from-decides sources n is = is_from-decide_batch sources n (deciding n) refl is

wanted_is : (plan : Plan) (p : StatePart) → is_wanted plan p ≡ true → p.place ≡ plan.place
unfolding is_wanted
wanted_is plan p is =
    let three = and_true ((p.place == plan.place) && (p.total == pieces_of plan.size) && nat_lt p.index p.total) (length p.bytes == length_of plan.size p.index) is in
    let two = and_true ((p.place == plan.place) && (p.total == pieces_of plan.size)) (nat_lt p.index p.total) three.0 in
    eqb-true p.place plan.place (and_true (p.place == plan.place) (p.total == pieces_of plan.size) two.0).0

wanted_place : (f : Fetch) (p : StatePart) → part_fault f p ≡ None → p.place ≡ f.plan.place
unfolding part_fault
wanted_place f p none = wanted_is f.plan p (not_false (is_wanted f.plan p) (no_reason (not (is_wanted f.plan p)) Unasked _ none).0)

part_why_none : {S : Type 0} (n : Node S) (p : StatePart) → why_part n p ≡ None → part_why n.fetch p ≡ None
unfolding why_part
part_why_none n p none = none

-- a part that is kept is of the plan's place
part-from : {S : Type 0} (sources : List (List ℕ)) (n : Node S) (p : StatePart) (fetch : Option Fetch) → part_why fetch p ≡ None → HasSource sources (changes.StatePart p) → IfSome fetch (PartsFrom sources)
    → IfSome (option_map (λ (f : Fetch). kept_unless None f p) fetch) (PartsFrom sources)
part-from sources n p None fine came from = tt
part-from sources n p (Some f) fine came from =
    each_end (λ (x : StatePart). HasSource sources (changes.StatePart x) × (x.place ≡ f.plan.place)) f.parts p from (came, wanted_place f p (no_why (part_fault f p) fine))
  where
    no_why : (o : Option Ignored) → option_map why_ignored o ≡ None → o ≡ None
    no_why None is = refl
    no_why (Some why) is = absurd (cc)

-- what is kept has come
is_from-kept : {S : Type 0} (sources : List (List ℕ)) (n : Node S) (message : Message) → why_dropped n message ≡ None → HasSource sources message → IsFrom sources n → IsFrom sources (kept n message)
unfolding kept
is_from-kept {S = S} sources n (Ask q) fine came is =
    either (λ (x : Node S). IsFrom sources x) (is_next n.replica.table q.statement) (record n { pool = offered n.pool q }) n
    (is_from-same sources n (record n { pool = offered n.pool q }) (record { arrivals = refl; stops = refl; syncs = refl; decisions = refl }) refl refl refl refl is) is
is_from-kept sources n (Propose p) fine came is = record {
  from = record {
    arrivals = each_end (λ (m : Message). HasSource sources m) n.arrivals (Propose p) is.from.arrivals came;
    stops = is.from.stops;
    syncs = is.from.syncs;
    decisions = is.from.decisions;
    fetch = is.from.fetch;
    waiting = is.from.waiting;
    book = is.from.book;
    marks = is.from.marks;
  };
  some = is.some;
}
is_from-kept sources n (Vote b) fine came is = record {
  from = record {
    arrivals = each_end (λ (m : Message). HasSource sources m) n.arrivals (Vote b) is.from.arrivals came;
    stops = is.from.stops;
    syncs = is.from.syncs;
    decisions = is.from.decisions;
    fetch = is.from.fetch;
    waiting = is.from.waiting;
    book = is.from.book;
    marks = is.from.marks;
  };
  some = is.some;
}
is_from-kept sources n (changes.Stop s) fine came is = record {
  from = record {
    arrivals = is.from.arrivals;
    stops = each_end (λ (x : SignedBy Stop). HasSource sources (changes.Stop x)) n.stops s is.from.stops came;
    syncs = is.from.syncs;
    decisions = is.from.decisions;
    fetch = is.from.fetch;
    waiting = is.from.waiting;
    book = is.from.book;
    marks = is.from.marks;
  };
  some = is.some;
}
is_from-kept sources n (changes.StopData r) fine came is = is_from-same sources n (record n { reports = n.reports ++ r ∷ [] }) (record { arrivals = refl; stops = refl; syncs = refl; decisions = refl }) refl refl refl refl is
is_from-kept sources n (changes.Sync s) fine came is = record {
  from = record {
    arrivals = is.from.arrivals;
    stops = is.from.stops;
    syncs = each_end (λ (x : SignedBy Sync). HasSource sources (changes.Sync x)) n.syncs s is.from.syncs came;
    decisions = is.from.decisions;
    fetch = is.from.fetch;
    waiting = is.from.waiting;
    book = is.from.book;
    marks = is.from.marks;
  };
  some = is.some;
}
is_from-kept sources n (changes.Decision d) fine came is = record {
  from = record {
    arrivals = is.from.arrivals;
    stops = is.from.stops;
    syncs = is.from.syncs;
    decisions = each_end (λ (x : ProvenBatch). HasSource sources (changes.Decision x)) n.decisions d is.from.decisions came;
    fetch = is.from.fetch;
    waiting = is.from.waiting;
    book = is.from.book;
    marks = is.from.marks;
  };
  some = is.some;
}
is_from-kept sources n (changes.StatePart p) fine came is = record {
  from = record {
    arrivals = is.from.arrivals;
    stops = is.from.stops;
    syncs = is.from.syncs;
    decisions = is.from.decisions;
    fetch = part-from sources n p n.fetch (part_why_none n p fine) came is.from.fetch;
    waiting = is.from.waiting;
    book = is.from.book;
    marks = is.from.marks;
  };
  some = is.some;
}
is_from-kept sources n (Reply a) fine came is = is
is_from-kept sources n (changes.StateAsk a) fine came is = is
is_from-kept sources n (changes.ViewTold i) fine came is = is
is_from-kept sources n _ fine came is = is_from-same sources n _ (record { arrivals = refl; stops = refl; syncs = refl; decisions = refl }) refl refl refl refl is

is_from-deliver_batch : {S : Type 0} (sources : List (List ℕ)) (m : Meaning S) (n : Node S) (batch : Option Batch) → IsFrom sources n → IsFrom sources (deliver_batch m n batch)
unfolding deliver_batch
is_from-deliver_batch sources m n None is = is
is_from-deliver_batch {S = S} sources m n (Some batch) is =
    let r : Replica S = delivered m n.replica batch in
    let x : Node S = record n { replica = r; waiting = None; pool = settled r.table n.pool; impatient = false } in
    let y : Node S = enters n x in
    let z : Node S = replying y (lines_to_answer m n batch) in
    is_from-aside sources y (informs n z) (aside-then y z (informs n z) (aside-replying y (lines_to_answer m n batch)) (aside-telling (stays_in_view n z) targets.Clients z))
    (is_from-entered sources (stays_in_view n x) x (is_from-as sources n x (record { arrivals = refl; stops = refl; syncs = refl; decisions = refl }) refl (let next = place_delivered m n.replica batch in omega (arith, next)) is.from.fetch tt is))

is_from-delivers : {S : Type 0} (sources : List (List ℕ)) (m : Meaning S) (n : Node S) → IsFrom sources n → IsFrom sources (delivers m n)
unfolding delivers
is_from-delivers sources m n is = is_from-deliver_batch sources m n n.waiting is

-- ---- a replica is taken over

is_from-asks_state : {S : Type 0} (sources : List (List ℕ)) (n : Node S) → IsFrom sources n → IsFrom sources (asks_state n)
unfolding asks_state
is_from-asks_state sources n is = is_from-as sources n (asks_state n) (record { arrivals = refl; stops = refl; syncs = refl; decisions = refl }) refl (still n.replica.place) tt is.from.waiting is

is_from-times : {S : Type 0} (sources : List (List ℕ)) (n : Node S) → IsFrom sources n → IsFrom sources (times n)
unfolding times
is_from-times {S = S} sources n is =
    either (λ (x : Node S). IsFrom sources x) (lags n) (asks_state n) _ (is_from-asks_state sources n is)
    (either (λ (x : Node S). IsFrom sources x) (timing n) (presses n) n (is_from-aside sources n (presses n) (aside-presses n) is) is)

is_from-follow_plan : {S : Type 0} (sources : List (List ℕ)) (n : Node S) (plan : Option Plan) → IsFrom sources n → IsFrom sources (follow_plan n plan)
unfolding follow_plan
is_from-follow_plan sources n None is = is
is_from-follow_plan sources n (Some p) is = is_from-as sources n (follow_plan n (Some p)) (record { arrivals = refl; stops = refl; syncs = refl; decisions = refl }) refl (still n.replica.place) tt is.from.waiting is

is_from-plans : {S : Type 0} (sources : List (List ℕ)) (n : Node S) → IsFrom sources n → IsFrom sources (plans n)
unfolding plans
is_from-plans sources n is = is_from-follow_plan sources n (planning n) is

is_from-spoil : {S : Type 0} (sources : List (List ℕ)) (n : Node S) (f : Fetch) → IsFrom sources n → IsFrom sources (spoil n f)
unfolding spoil
is_from-spoil sources n f is = is_from-as sources n (spoil n f) (record { arrivals = refl; stops = refl; syncs = refl; decisions = refl }) refl (still n.replica.place) tt is.from.waiting is

-- no bytes are no replica's
none_read : {S : Type 0} (m : Meaning S) → restored m [] ≡ None
unfolding parts_at whole ranged number_at
none_read m = refl

joined_none : (n : ℕ) → joined [] n ≡ []
joined_none zero = refl
joined_none (suc n) = ap (λ (bytes : List ℕ). bytes ++ []) (joined_none n)

-- so a plan of which a replica comes has a part
joined-from : {S : Type 0} (sources : List (List ℕ)) (m : Meaning S) (plan : Plan) (parts : List StatePart) (count : ℕ) (r : Replica S) → restored m (joined parts count) ≡ Some r
    → Each (λ (p : StatePart). HasSource sources (changes.StatePart p) × (p.place ≡ plan.place)) parts → FromMessage sources place_joined plan.place
joined-from {S = S} sources m plan [] count r read from =
    absurd (none_some (sym (none_read m) ∙ (sym (ap (λ (bytes : List ℕ). restored m bytes) (joined_none count)) ∙ read)))
  where
    none_some : ◌≡◌ {A = Option (Replica S)} None (Some r) → ⊥
    none_some same = cc
joined-from sources m plan (p ∷ ps) count r read from = record { message = changes.StatePart p; source = from.0.0; key_is = ap (λ (k : ℕ). Some k) from.0.1 }

plan-from : {S : Type 0} (sources : List (List ℕ)) (m : Meaning S) (f : Fetch) (r : Replica S) → restored m (joined_of f) ≡ Some r → PartsFrom sources f → FromMessage sources place_joined f.plan.place
unfolding joined_of
plan-from sources m f r read from = joined-from sources m f.plan f.parts (pieces_of f.plan.size) r read from

stands-from : (sources : List (List ℕ)) (fetch : Option Fetch) (f : Fetch) → fetch ≡ Some f → IfSome fetch (PartsFrom sources) → PartsFrom sources f
stands-from sources None f at from = absurd (cc)
stands-from sources (Some x) f at from = subst (λ (y : Fetch). PartsFrom sources y) (some_equal x f at) from

none-waits : (sources : List (List ℕ)) (place : ℕ) (waiting : Option Batch) → waiting ≡ None → IfSome waiting (λ (batch : Batch). FromMessage sources place_shown place)
none-waits sources place None free = tt
none-waits sources place (Some batch) free = absurd (cc)

is_from-install_replica : {S : Type 0} (sources : List (List ℕ)) (m : Meaning S) (n : Node S) (f : Fetch) (r : Replica S) → IsReady n f → IsTakenFrom m f r → IsFrom sources n
    → IsFrom sources (install_replica n f r)
unfolding install_replica
is_from-install_replica {S = S} sources m n f r due taken is =
    let at : r.place ≡ f.plan.place = taken.place_is in
    let later : n.replica.place < f.plan.place = due.later in
    let x : Node S = record (recording n (installed_by f.plan)) { replica = r; pool = settled r.table n.pool; fetch = None } in
    let y : Node S = enters n x in
    is_from-as sources y (install_replica n f r) (record { arrivals = refl; stops = refl; syncs = refl; decisions = refl }) refl (still r.place) tt (none-waits sources (r.place + 1) n.waiting due.free)
    (is_from-entered sources (stays_in_view n x) x
    (is_from-end sources n x (installed_by f.plan) (record { arrivals = refl; stops = refl; syncs = refl; decisions = refl }) refl (omega (arith, at, later)) tt (none-waits sources (r.place + 1) n.waiting due.free)
    (plan-from sources m f r taken.read (stands-from sources n.fetch f due.stands is.from.fetch)) tt tt is))

is_from-install_by : {S : Type 0} (sources : List (List ℕ)) (m : Meaning S) (n : Node S) (f : Fetch) (made : Result (Replica S) Spoiled) → IsReady n f → finished m f ≡ made → IsFrom sources n
    → IsFrom sources (install_by n f made)
is_from-install_by {S = S} sources m n f (Ok r) due at is =
    either (λ (x : Node S). IsFrom sources x) (is_of_group n r) (install_replica n f r) (spoil n f) (is_from-install_replica sources m n f r due (finished_from m f r at) is) (is_from-spoil sources n f is)
is_from-install_by sources m n f (Err why) due at is = is_from-spoil sources n f is

is_from-install_fetch : {S : Type 0} (sources : List (List ℕ)) (m : Meaning S) (n : Node S) (due : Option Fetch) → installing n ≡ due → IsFrom sources n → IsFrom sources (install_fetch m n due)
unfolding install_fetch
is_from-install_fetch sources m n None at is = is
is_from-install_fetch sources m n (Some f) at is = is_from-install_by sources m n f (finished m f) (installing_is n f at) refl is

is_from-installs : {S : Type 0} (sources : List (List ℕ)) (m : Meaning S) (n : Node S) → IsFrom sources n → IsFrom sources (installs m n)
unfolding installs
is_from-installs sources m n is = is_from-install_fetch sources m n (installing n) refl is

-- ---- a step

from_rules : {S : Type 0} (sources : List (List ℕ)) → KeptByRules {S = S} (λ n. IsFrom sources n)
from_rules sources = record {
  by_adopts = λ n is. is_from-adopts sources n is;
  by_joins = λ n is. is_from-aside sources n (joins n) (aside-joins n) is;
  by_promises = λ n is. is_from-promises sources n is;
  by_leads = λ n is. is_from-aside sources n (leads n) (aside-leads n) is;
  by_proposes = λ n is. is_from-aside sources n (proposes n) (aside-proposes n) is;
  by_writes = λ n is. is_from-writes sources n is;
  by_accepts = λ n is. is_from-accepts sources n is;
  by_decides = λ n is. is_from-decides sources n is;
  by_times = λ n is. is_from-times sources n is;
  by_answers = λ n asked is. is_from-aside sources n (answers_again n asked) (aside-answers_again n asked) is;
  by_states = λ n a is. is_from-aside sources n (answers_state n a) (aside-answers_state n a) is;
  by_plans = λ n is. is_from-plans sources n is;
}

from_steps : {S : Type 0} (sources : List (List ℕ)) (m : Meaning S) → KeptInSteps m (λ n. IsFrom sources n) (λ message. HasSource sources message)
from_steps sources m = record {
  by_rules = from_rules sources;
  by_noted = λ n message is. is_from-aside sources n (noted n message) (aside-noted n message) is;
  by_kept = λ n message fine came is. is_from-kept sources n message fine came is;
  by_installs = λ n is. is_from-installs sources m n is;
  by_delivers = λ n is. is_from-delivers sources m n is;
  by_marks = λ n waits is delivered. is_from-mark sources m n waits is delivered;
  by_firm = λ x count good. is_from-same sources x (record x { firm = count }) (record { arrivals = refl; stops = refl; syncs = refl; decisions = refl }) refl refl refl refl good;
}

-- where what comes has a source, each event leaves all that a node keeps and writes down with one
pub from-step : {S : Type 0} (sources : List (List ℕ)) (m : Meaning S) (n : Node S) (event : NodeEvent) → ForEvent (λ message. HasSource sources message) event → 0 < length n.entries
    → FromSources sources n → FromSources sources (step_of m n event).node
from-step {S = S} sources m n event came some from =
    let is : IsFrom sources (step_of m n event).node =
    keeps_step m (λ (x : Node S). IsFrom sources x) (λ message. HasSource sources message) n event (from_steps sources m) came
    (record { from = from; some = some }) in
    is.from

-- what leaves is of no matter
pub from-released : {S : Type 0} (sources : List (List ℕ)) (n : Node S) → FromSources sources n → FromSources sources (released n)
from-released sources n from = record { arrivals = from.arrivals; stops = from.stops; syncs = from.syncs; decisions = from.decisions; fetch = from.fetch; waiting = from.waiting; book = from.book; marks = from.marks }

pub from-opened : {S : Type 0} (sources : List (List ℕ)) (m : Meaning S) (secret : List ℕ) (id : ℕ) (view : View) (period : ℕ) → FromSources sources (opened (outset m secret id view period))
from-opened sources m secret id view period =
    record { arrivals = tt; stops = tt; syncs = tt; decisions = tt; fetch = tt; waiting = tt; book = from-opening sources (Opened (record { member = id; period = period; view = view })) tt; marks = (tt, tt) }

-- a node that goes on after a crash over a checkpoint has kept nothing but the cut of what was written
pub from-resumed : {S : Type 0} (sources : List (List ℕ)) (m : Meaning S) (secret : List ℕ) (id : ℕ) (stated : List Statement) (view : View) (views : List View) (period place : ℕ) (batches : List Batch)
    (checkpoint : Option OwnSnapshot) (entries : List LogEntry) → IsSoundBook secret stated views entries → last_made entries ≤ length batches → FromBook sources (cut_at place entries)
    → FromSources sources (resumed_node m secret id view period place batches checkpoint entries)
from-resumed {S = S} sources m secret id stated view views period place batches checkpoint entries sound reached book =
    let at : (state m view (take (last_made entries) batches)).place ≡ last_made entries = state_place m view (take (last_made entries) batches) ∙ length-take-le (last_made entries) batches reached in
    record {
      arrivals = tt;
      stops = tt;
      syncs = tt;
      decisions = tt;
      fetch = tt;
      waiting = tt;
      book = book;
      marks = subst (λ (k : ℕ). Each (IsMarkUpTo k) (cut_at place entries)) (sym at) (cut_each (IsMarkUpTo (last_made entries)) place entries (marks_reached secret stated views entries sound));
    }

-- ---- different keys have different sources

-- the sources without one of a key still have the other keys
record Without {K : Type 0} (sources : List (List ℕ)) (key : Message → Option K) (k : K) : Type 0 where
  rest : List (List ℕ)
  fewer : length sources ≡ length rest + 1
  others : (j : K) → FromMessage sources key j → (j ≡ k → ⊥) → FromMessage rest key j

-- a message that is read from other bytes
elsewhere : {K : Type 0} (bytes : List ℕ) (more : List (List ℕ)) (key : Message → Option K) (j : K) (m : Message) → HasSource (bytes ∷ more) m → key m ≡ Some j
    → (decoded bytes ≡ Ok m → FromMessage more key j) → FromMessage more key j
elsewhere bytes more key j m (inl here) at by = by here
elsewhere bytes more key j m (inr later) at by = record { message = m; source = later; key_is = at }

first_without : {K : Type 0} (bytes : List ℕ) (more : List (List ℕ)) (key : Message → Option K) (m : Message) (k : K) → decoded bytes ≡ Ok m → key m ≡ Some k → Without (bytes ∷ more) key k
first_without bytes more key m k read at = record {
  rest = more;
  fewer = omega arith;
  others = λ j from other.
      elsewhere bytes more key j from.message from.source from.key_is
      (λ here. let same : m ≡ from.message = one m from.message (sym read ∙ here) in
      absurd (other (some_equal j k (sym from.key_is ∙ (sym (ap key same) ∙ at)))));
}
  where
    one : (a b : Message) → ◌≡◌ {A = Result Message ℕ} (Ok a) (Ok b) → a ≡ b
    one a b same = cc

-- with other bytes before them
put_before : {K : Type 0} (bytes : List ℕ) (more rest : List (List ℕ)) (key : Message → Option K) (j : K) (m : Message) → HasSource (bytes ∷ more) m → key m ≡ Some j
    → (FromMessage more key j → FromMessage rest key j) → FromMessage (bytes ∷ rest) key j
put_before bytes more rest key j m (inl here) at by = record { message = m; source = inl here; key_is = at }
put_before bytes more rest key j m (inr later) at by =
    let there = by (record { message = m; source = later; key_is = at }) in record { message = there.message; source = inr there.source; key_is = there.key_is }

without : {K : Type 0} (sources : List (List ℕ)) (key : Message → Option K) (m : Message) (k : K) → HasSource sources m → key m ≡ Some k → Without sources key k
without [] key m k has at = absurd has
without (bytes ∷ more) key m k (inl read) at = first_without bytes more key m k read at
without (bytes ∷ more) key m k (inr later) at =
    let w = without more key m k later at in
    record {
      rest = bytes ∷ w.rest;
      fewer = let less = w.fewer in omega (arith, less);
      others = λ j from other. put_before bytes more w.rest key j from.message from.source from.key_is (λ there. w.others j there other);
    }

-- keys none of which is there twice
abbrev Apart : {K : Type 0} → List K → Type 0
Apart [] = Unit {0}
Apart (k ∷ ks) = Each (λ j. j ≡ k → ⊥) ks × Apart ks

-- there are no more of them than sources
few_keys : {K : Type 0} (sources : List (List ℕ)) (key : Message → Option K) (ks : List K) → Apart ks → Each (λ k. FromMessage sources key k) ks → length ks ≤ length sources
few_keys sources key [] apart each = omega arith
few_keys {K = K} sources key (k ∷ ks) apart each =
    let w = without sources key each.0.message k each.0.source each.0.key_is in
    let less = w.fewer in
    let rest = few_keys w.rest key ks apart.1
    (each_both (λ (j : K). FromMessage sources key j) (λ (j : K). j ≡ k → ⊥) (λ (j : K). FromMessage w.rest key j) (λ j from other. w.others j from other) ks each.1 apart.0) in
    omega (arith, less, rest)

-- ---- entries of a kind have different keys

-- an entry's key is not that of one before it
abbrev Differ : {K : Type 0} → (LogEntry → Option K) → List LogEntry → Type 0
Differ {K = K} kind entries =
    (before : List LogEntry) (entry : LogEntry) (after : List LogEntry) → entries ≡ before ++ entry ∷ after
    → (other : LogEntry) → Among other before → (k : K) → kind other ≡ Some k → kind entry ≡ Some k → ⊥

differ_behind : {K : Type 0} (kind : LogEntry → Option K) (e : LogEntry) (es : List LogEntry) → Differ kind (e ∷ es) → Differ kind es
differ_behind kind e es differ before entry after split other there = differ (e ∷ before) entry after (ap (λ (xs : List LogEntry). e ∷ xs) split) other (inr there)

differ_apart : {K : Type 0} (kind : LogEntry → Option K) (es : List LogEntry) → Differ kind es → Apart (filter_map kind es)
differ_apart kind [] differ = tt
differ_apart {K = K} kind (e ∷ es) differ = by (kind e) refl (differ_apart kind es (differ_behind kind e es differ))
  where
    by : (o : Option K) → kind e ≡ o → Apart (filter_map kind es) → Apart (cons_option o (filter_map kind es))
    by None is rest = rest
    by (Some k) is rest = (
      each_filter_map_in (λ (j : K). j ≡ k → ⊥) kind es
          (λ x j there at same.
          let s = stands x es there in
          differ (e ∷ s.before) x s.after (ap (λ (xs : List LogEntry). e ∷ xs) s.split) e (inl refl) k is (at ∙ ap (λ (i : K). Some i) same)),
      rest,
    )

few_kind : {K : Type 0} (sources : List (List ℕ)) (key : Message → Option K) (kind : LogEntry → Option K) (e : LogEntry) (es : List LogEntry) → Differ kind (e ∷ es)
    → ((x : LogEntry) → EntryFrom sources x → IfSome (kind x) (λ k. FromMessage sources key k)) → Each (EntryFrom sources) es → length (filter_map kind es) ≤ length sources
few_kind {K = K} sources key kind e es differ gives each =
    few_keys sources key (filter_map kind es) (differ_apart kind es (differ_behind kind e es differ)) (each_given (EntryFrom sources) (λ (k : K). FromMessage sources key k) kind gives es each)

-- ---- the kinds

abbrev slot_written : LogEntry → Option Slot
slot_written (Opened o) = None
slot_written (Wrote w) = Some w.slot
slot_written (Accepted a) = None
slot_written (Promised p) = None
slot_written (Synced s) = None
slot_written (Decided d) = None
slot_written (Installed i) = None
slot_written (Marked m) = None

abbrev slot_accepted : LogEntry → Option Slot
slot_accepted (Opened o) = None
slot_accepted (Wrote w) = None
slot_accepted (Accepted a) = Some a.slot
slot_accepted (Promised p) = None
slot_accepted (Synced s) = None
slot_accepted (Decided d) = None
slot_accepted (Installed i) = None
slot_accepted (Marked m) = None

abbrev promise_in : LogEntry → Option Promise
promise_in (Opened o) = None
promise_in (Wrote w) = None
promise_in (Accepted a) = None
promise_in (Promised p) = Some p
promise_in (Synced s) = None
promise_in (Decided d) = None
promise_in (Installed i) = None
promise_in (Marked m) = None

abbrev regency_synced : LogEntry → Option Promise
regency_synced (Opened o) = None
regency_synced (Wrote w) = None
regency_synced (Accepted a) = None
regency_synced (Promised p) = None
regency_synced (Synced s) = Some (record { view = s.view; regency = s.regency })
regency_synced (Decided d) = None
regency_synced (Installed i) = None
regency_synced (Marked m) = None

abbrev place_installed : LogEntry → Option ℕ
place_installed (Opened o) = None
place_installed (Wrote w) = None
place_installed (Accepted a) = None
place_installed (Promised p) = None
place_installed (Synced s) = None
place_installed (Decided d) = None
place_installed (Installed i) = Some i.place
place_installed (Marked m) = None

-- each entry with a source is of one of them
all_kinds : (sources : List (List ℕ)) (es : List LogEntry) → Each (EntryFrom sources) es
    → length es ≤ length (filter_map slot_written es) + length (filter_map slot_accepted es) + length (filter_map promise_in es) + length (filter_map regency_synced es) + length (filter_map place_decided es)
    + length (filter_map place_marked es) + length (filter_map place_installed es)
all_kinds sources [] each = omega arith
all_kinds sources (Opened o ∷ es) each = absurd each.0
all_kinds sources (Wrote w ∷ es) each = let rest = all_kinds sources es each.1 in omega (arith, rest)
all_kinds sources (Accepted a ∷ es) each = let rest = all_kinds sources es each.1 in omega (arith, rest)
all_kinds sources (Promised p ∷ es) each = let rest = all_kinds sources es each.1 in omega (arith, rest)
all_kinds sources (Synced s ∷ es) each = let rest = all_kinds sources es each.1 in omega (arith, rest)
all_kinds sources (Decided d ∷ es) each = let rest = all_kinds sources es each.1 in omega (arith, rest)
all_kinds sources (Installed i ∷ es) each = let rest = all_kinds sources es each.1 in omega (arith, rest)
all_kinds sources (Marked m ∷ es) each = let rest = all_kinds sources es each.1 in omega (arith, rest)

-- and has a source of its key

written_gives : (sources : List (List ℕ)) (e : LogEntry) → EntryFrom sources e → IfSome (slot_written e) (λ k. FromMessage sources slot_proposed k)
written_gives sources (Wrote w) from = from
written_gives sources e from = tt

accepted_gives : (sources : List (List ℕ)) (e : LogEntry) → EntryFrom sources e → IfSome (slot_accepted e) (λ k. FromMessage sources slot_proposed k)
accepted_gives sources (Accepted a) from = from
accepted_gives sources e from = tt

promised_gives : (sources : List (List ℕ)) (e : LogEntry) → EntryFrom sources e → IfSome (promise_in e) (λ k. FromMessage sources regency_asked k)
promised_gives sources (Promised p) from = from
promised_gives sources e from = tt

synced_gives : (sources : List (List ℕ)) (e : LogEntry) → EntryFrom sources e → IfSome (regency_synced e) (λ k. FromMessage sources regency_begun k)
synced_gives sources (Synced s) from = from
synced_gives sources e from = tt

decided_gives : (sources : List (List ℕ)) (e : LogEntry) → EntryFrom sources e → IfSome (place_decided e) (λ k. FromMessage sources place_shown k)
decided_gives sources (Decided d) from = from
decided_gives sources e from = tt

marked_gives : (sources : List (List ℕ)) (e : LogEntry) → EntryFrom sources e → IfSome (place_marked e) (λ k. FromMessage sources place_shown k)
marked_gives sources (Marked m) from = from
marked_gives sources e from = tt

installed_gives : (sources : List (List ℕ)) (e : LogEntry) → EntryFrom sources e → IfSome (place_installed e) (λ k. FromMessage sources place_joined k)
installed_gives sources (Installed i) from = from
installed_gives sources e from = tt

-- a slot is written in once, and accepted in once

written_differs : (before : List LogEntry) (entry other : LogEntry) (k : Slot) → Admits 0 0 before entry → Among other before → slot_written other ≡ Some k → slot_written entry ≡ Some k → ⊥
written_differs before (Wrote w) (Wrote o) k may there is same = may.first o there (some_equal o.slot w.slot (is ∙ sym same))
written_differs before (Wrote w) other k may there is same = cc
written_differs before entry other k may there is same = cc

accepted_differs : (before : List LogEntry) (entry other : LogEntry) (k : Slot) → Admits 0 0 before entry → Among other before → slot_accepted other ≡ Some k → slot_accepted entry ≡ Some k → ⊥
accepted_differs before (Accepted a) (Accepted o) k may there is same = may.first o there (some_equal o.slot a.slot (is ∙ sym same))
accepted_differs before (Accepted a) other k may there is same = cc
accepted_differs before entry other k may there is same = cc

-- a regency begins once
synced_differs : (before : List LogEntry) (entry other : LogEntry) (k : Promise) → IsTidyAfter before entry → Among other before → regency_synced other ≡ Some k → regency_synced entry ≡ Some k → ⊥
synced_differs before (Synced s) (Synced o) k tidy there is same =
    let equal = some_equal (record { view = o.view; regency = o.regency }) (record { view = s.view; regency = s.regency }) (is ∙ sym same) in
    tidy.once o there (ap (λ (p : Promise). p.view) equal) (ap (λ (p : Promise). p.regency) equal)
synced_differs before (Synced s) other k tidy there is same = cc
synced_differs before entry other k tidy there is same = cc

-- promises rise

promise_most : (p : Promise) (es : List LogEntry) → Among (Promised p) es → p.regency ≤ greatest_regency p.view es
promise_most p [] there = absurd there
promise_most p (e ∷ es) (inl is) =
    let own : regency_in p.view (Promised p) ≡ p.regency = rw (eq-eqb p.view p.view refl) refl in
    let here : regency_in p.view (Promised p) ≡ regency_in p.view e = ap (λ (x : LogEntry). regency_in p.view x) is in
    omega (arith, own, here)
promise_most p (e ∷ es) (inr later) = let rest = promise_most p es later in omega (arith, rest)

promised_differs : (before : List LogEntry) (entry other : LogEntry) (k : Promise) → IsLast before entry → Among other before → promise_in other ≡ Some k → promise_in entry ≡ Some k → ⊥
promised_differs before (Promised p) (Promised o) k last there is same =
    let equal : o ≡ p = some_equal o p (is ∙ sym same) in
    let most : p.regency ≤ greatest_regency p.view before = subst (λ (q : Promise). q.regency ≤ greatest_regency q.view before) equal (promise_most o before there) in
    omega (arith, most, last)
promised_differs before (Promised p) other k last there is same = cc
promised_differs before entry other k last there is same = cc

-- places are decided in turn

decided_differs : (secret : List ℕ) (stated : List Statement) (views : List View) (before : List LogEntry) (entry other : LogEntry) (after : List LogEntry) (k : ℕ)
    → IsSoundBook secret stated views (before ++ entry ∷ after) → Among other before → place_decided other ≡ Some k → place_decided entry ≡ Some k → ⊥
decided_differs secret stated views before (Decided d) (Decided o) after k book there is same =
    let turn = in_turn secret stated views before d after book in
    let most = made_most before o.slot.place (record { entry = Decided o; there = there; made = refl }) in
    let equal = some_equal o.slot.place d.slot.place (is ∙ sym same) in
    omega (arith, turn, most, equal)
decided_differs secret stated views before (Decided d) other after k book there is same = cc
decided_differs secret stated views before entry other after k book there is same = cc

-- marks rise, and so do the places that are installed

marked_differs : (before : List LogEntry) (entry other : LogEntry) (k : ℕ) → IsLast before entry → Among other before → place_marked other ≡ Some k → place_marked entry ≡ Some k → ⊥
marked_differs before (Marked m) (Marked o) k last there is same =
    let equal = some_equal o.place m.place (is ∙ sym same) in
    let less : o.place < m.place = last.1 o there in
    omega (arith, equal, less)
marked_differs before (Marked m) other k last there is same = cc
marked_differs before entry other k last there is same = cc

installed_differs : (before : List LogEntry) (entry other : LogEntry) (k : ℕ) → Admits 0 0 before entry → Among other before → place_installed other ≡ Some k → place_installed entry ≡ Some k → ⊥
installed_differs before (Installed i) (Installed o) k may there is same =
    let equal = some_equal o.place i.place (is ∙ sym same) in
    let less : o.place < i.place = may.above o.place (record { entry = Installed o; there = there; made = refl }) in
    omega (arith, equal, less)
installed_differs before (Installed i) other k may there is same = cc
installed_differs before entry other k may there is same = cc

-- ---- a book has few entries

few_behind : (secret : List ℕ) (stated : List Statement) (views : List View) (sources : List (List ℕ)) (e : LogEntry) (es : List LogEntry) → IsSoundBook secret stated views (e ∷ es) → FromBook sources (e ∷ es)
    → length es ≤ 7 * length sources
few_behind secret stated views sources e es book from =
    let all = all_kinds sources es from.behind in
    let wrote = few_kind sources slot_proposed slot_written e es
    (λ before entry after split other there k is same. written_differs before entry other k (book.lawful before entry after split) there is same) (written_gives sources) from.behind in
    let accepted = few_kind sources slot_proposed slot_accepted e es
    (λ before entry after split other there k is same. accepted_differs before entry other k (book.lawful before entry after split) there is same) (accepted_gives sources) from.behind in
    let promised = few_kind sources regency_asked promise_in e es
    (λ before entry after split other there k is same. promised_differs before entry other k (from.rising before entry after split) there is same) (promised_gives sources) from.behind in
    let synced = few_kind sources regency_begun regency_synced e es
    (λ before entry after split other there k is same. synced_differs before entry other k (book.tidy before entry after split) there is same) (synced_gives sources) from.behind in
    let decided = few_kind sources place_shown place_decided e es
    (λ before entry after split other there k is same.
    decided_differs secret stated views before entry other after k (subst (λ (xs : List LogEntry). IsSoundBook secret stated views xs) split book) there is same) (decided_gives sources) from.behind in
    let marked = few_kind sources place_shown place_marked e es
    (λ before entry after split other there k is same. marked_differs before entry other k (from.rising before entry after split) there is same) (marked_gives sources) from.behind in
    let installed = few_kind sources place_joined place_installed e es
    (λ before entry after split other there k is same. installed_differs before entry other k (book.lawful before entry after split) there is same) (installed_gives sources) from.behind in
    omega (arith, all, wrote, accepted, promised, synced, decided, marked, installed)

pub few_entries : (secret : List ℕ) (stated : List Statement) (views : List View) (sources : List (List ℕ)) (es : List LogEntry) → IsSoundBook secret stated views es → FromBook sources es
    → length es ≤ 7 * length sources + 1
few_entries secret stated views sources [] book from = omega arith
few_entries secret stated views sources (e ∷ es) book from = let few = few_behind secret stated views sources e es book from in omega (arith, few)
