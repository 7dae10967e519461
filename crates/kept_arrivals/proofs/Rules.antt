-- Each rule by which requests are ordered and answered, on what is needed.
use Rattle.std.proofs.Common.{◌≡◌, ℕ, ◌+◌, ◌^◌, ◌≤◌, Bool, true, false, not, ◌&&◌, ◌==◌, nat_lt, nat_le, List, [], ◌∷◌, ◌++◌, length, refl, ap, sym, ◌∙◌, cond, arith, Option, Some, None, is_some}
use Rattle.std.proofs.lemmas.Bool.{eqb-true, lt-ltb}
use Rattle.std.specs.Prelude.{filter, option_map}
use Rattle.std.specs.List.{list_any}
use Rattle.smart_base.specs.Lists.{or_else}
use Rattle.smart_base.specs.Views.{View, leader, present}
use Rattle.smart_base.proofs.SameLists.{and_true}
use Rattle.smart_statements.specs.Forms.{SignedBy}
use Rattle.smart_statements.specs.Kinds.{proposals}
use Rattle.smart_statements.specs.Batches.{Batch}
use Rattle.smart_statements.specs.Equality.{same_slot}
use Rattle.smart_statements.specs.declared.statement.Ballot.{Ballot}
use Rattle.smart_statements.specs.declared.statement.Slot.{Slot}
use Rattle.smart_statements.specs.declared.statement.VoteKind.TheVariants.{Write, Accept}
use Rattle.smart_messages.specs.declared.message.Message.TheVariants.{Propose}
use Rattle.smart_messages.specs.declared.message.Proposed.{Proposed}
use Rattle.smart_service.specs.Services.{Meaning}
use Rattle.smart_service.specs.declared.table.Execution.{Execution}
use Rattle.vote_book.specs.declared.entry.Decision.{Decision}
use Rattle.vote_book.specs.declared.entry.LogEntry.TheVariants.{Wrote, Accepted, Decided, Marked}
use Rattle.regency_sync.specs.Synchronizers.{batch_of, trimmed as sync_trimmed}
use Rattle.regency_sync.proofs.Lists.{any_filter, filter_end, find_filter}
use Rattle.regency_sync.proofs.Needs.{batch_same}
use Rattle.replica_rules.specs.Replicas.{delivered}
use Rattle.replica_rules.specs.Seals.{signed, digest_of}
use Rattle.replica_rules.specs.Pools.{settled}
use Rattle.node_rules.specs.Rules.{reply_of, replying, lines_to_answer, deliver_batch, delivery, delivers, batch_under, proposing, propose_batch, proposes, ballot, votable, writing, write_batch, writes, written, accepting, slot_in, accept_batch, accepts, decision_in, decision_ahead, decision_shown, shown_next, deciding, decide_batch, decides, replies_with, answering, answer_line, answers_again}
use Rattle.node_rules.specs.Marks.{mark_of, mark_place, marking, marks_place, marked}
use Rattle.node_rules.specs.Nodes.{Node, entered, telling, informs, stays_in_view, view_of, regency_of, start_of, next_place, decided_place, open_slot, is_free, is_open, bound_at, synchronizer_of, greatest_regency, holding, recording}
use Rattle.node_rules.specs.Votes.{certificate_votes, proposed_for, accepted_under}
use Rattle.node_rules.specs.declared.node.Target.{Target}
use Rattle.node_rules.specs.declared.node.Target.TheVariants as targets
use Rattle.transfer_form.specs.declared.transfer.ProvenBatch.{ProvenBatch}
use Rattle.node_rules.specs.Kept.{ahead_of, needed_by, is_later, trimmed}
use Rattle.kept_arrivals.proofs.Filters.{where_true, and_where}
use Rattle.kept_arrivals.proofs.Needed.{entered_trim, proposed_needed, proposal_kept, quorum_kept, certificate_kept, decision_kept, free_free, open_free, next_past, slot_ahead, open_ahead, trim, trimmed_behind, trimmed_twice, regency_grows}
use Rattle.replica_rules.proofs.Places.{place_delivered}
use Rattle.node_rules.proofs.Options.{guard_passed}
use Rattle.node_rules.specs.declared.node.Asked.{Asked}
use Rattle.node_rules.specs.declared.node.Fired.{Fired}

-- a rule that goes on over what is needed as over all
abbrev pub Keeps : {S : Type 0} → (Node S → Node S) → Type 0
Keeps {S} rule = (n : Node S) → trimmed (rule (trimmed n)) ≡ trimmed (rule n)

-- a rule by which what is needed stays what is needed
pub exactly : {S : Type 0} (rule : Node S → Node S) → ((n : Node S) → rule (trimmed n) ≡ trimmed (rule n)) → Keeps rule
exactly rule same n = ap (λ x. trimmed x) (same n) ∙ trimmed_twice (rule n)

-- what a node is as the one who changes the regency
pub synchronizer_same : {S : Type 0} (n : Node S) → synchronizer_of (trimmed n) ≡ sync_trimmed (view_of n) (synchronizer_of n)
unfolding trimmed sync_trimmed regency_of
synchronizer_same n = refl

-- PROPOSE

batch_under_same : {S : Type 0} (n : Node S) (bound : Option (List ℕ)) → batch_under (trimmed n) bound ≡ batch_under n bound
unfolding batch_under trimmed regency_of
batch_under_same n None = refl
batch_under_same n (Some digest) =
    ap (λ (found : Option Batch). or_else found (accepted_under (view_of n).number (next_place n) digest n.entries))
    (ap (λ s. batch_of (view_of n) s digest) (synchronizer_same n) ∙ batch_same (view_of n) (synchronizer_of n) digest)

proposed_same : {S : Type 0} (n : Node S) → n.waiting ≡ None → list_any (same_slot (open_slot n)) (filter (ahead_of n) n.proposed) ≡ list_any (same_slot (open_slot n)) n.proposed
proposed_same n free =
    any_filter (same_slot (open_slot n)) (ahead_of n) (proposed_needed (view_of n).number (decided_place n) (regency_of n) (open_slot n) (open_ahead n free)) n.proposed

pub proposing_same : {S : Type 0} (n : Node S) → proposing (trimmed n) ≡ proposing n
unfolding proposing trimmed regency_of start_of
proposing_same n =
    ap (λ test. cond test (batch_under (trimmed n) (bound_at (next_place n) (start_of n))) None)
    (and_where (is_open n && (leader (view_of n) (regency_of n) == n.id)) _ _ (λ may. ap not (proposed_same n (open_free n (and_true (is_open n) _ may).0))))
    ∙ ap (λ batch. cond (is_open n && (leader (view_of n) (regency_of n) == n.id) && not (list_any (same_slot (open_slot n)) n.proposed)) batch None)
    (batch_under_same n (bound_at (next_place n) (start_of n)))

proposes_free : {S : Type 0} (n : Node S) → is_some (proposing n) ≡ true → n.waiting ≡ None
unfolding proposing
proposes_free n some = open_free n (and_true (is_open n) _ (and_true _ (not (list_any (same_slot (open_slot n)) n.proposed)) (guard_passed _ _ some)).0).0

propose_same : {S : Type 0} (n : Node S) (batch : Option Batch) → (is_some batch ≡ true → n.waiting ≡ None) → propose_batch (trimmed n) batch ≡ trimmed (propose_batch n batch)
unfolding propose_batch trimmed regency_of
propose_same n None free = refl
propose_same n (Some batch) free =
    ap (λ (slots : List Slot). holding (record (trim (view_of n).number (decided_place n) (regency_of n) n) { proposed = slots }) targets.View
    (Propose (record { head = signed proposals n.secret n.id (record { slot = open_slot n; digest = digest_of batch }); batch = batch })))
    (filter_end (ahead_of n) n.proposed (open_slot n) (open_ahead n (free refl)))

proposes_exact : {S : Type 0} (n : Node S) → proposes (trimmed n) ≡ trimmed (proposes n)
unfolding proposes
proposes_exact n = ap (λ b. propose_batch (trimmed n) b) (proposing_same n) ∙ propose_same n (proposing n) (proposes_free n)

pub proposes_same : {S : Type 0} (n : Node S) → trimmed (proposes (trimmed n)) ≡ trimmed (proposes n)
proposes_same n = exactly proposes proposes_exact n

-- WRITE

proposal_same : {S : Type 0} (n : Node S) → n.waiting ≡ None → proposed_for (filter (needed_by n) n.arrivals) (open_slot n) ≡ proposed_for n.arrivals (open_slot n)
proposal_same n free = proposal_kept (view_of n).number (decided_place n) (regency_of n) (open_slot n) (open_ahead n free) n.arrivals

votable_same : {S : Type 0} (n : Node S) (found : Option Proposed) → votable (trimmed n) found ≡ votable n found
unfolding trimmed regency_of start_of
votable_same n None = refl
votable_same n (Some p) = refl

votable_proposal : {S : Type 0} (n : Node S) → n.waiting ≡ None
    → votable (trimmed n) (proposed_for (filter (needed_by n) n.arrivals) (open_slot n)) ≡ votable n (proposed_for n.arrivals (open_slot n))
votable_proposal n free = ap (λ found. votable (trimmed n) found) (proposal_same n free) ∙ votable_same n (proposed_for n.arrivals (open_slot n))

pub writing_same : {S : Type 0} (n : Node S) → writing (trimmed n) ≡ writing n
unfolding writing trimmed regency_of start_of
writing_same n = where_true _ _ _ None (λ may. votable_proposal n (open_free n (and_true (is_open n) _ may).0))

write_same : {S : Type 0} (n : Node S) (found : Option Proposed) → trimmed (write_batch (trimmed n) found) ≡ trimmed (write_batch n found)
unfolding write_batch trimmed regency_of
write_same n None = trimmed_twice n
write_same n (Some p) =
    trimmed_behind (decided_place n) (regency_of n) (write_batch n (Some p)) (omega arith)
    (regency_grows (view_of n).number n.entries (Wrote (record { slot = open_slot n; digest = p.head.statement.digest }) ∷ []))

pub writes_same : {S : Type 0} (n : Node S) → trimmed (writes (trimmed n)) ≡ trimmed (writes n)
unfolding writes
writes_same n = ap (λ found. trimmed (write_batch (trimmed n) found)) (writing_same n) ∙ write_same n (writing n)

-- ACCEPT

written_same : {S : Type 0} (n : Node S) (found : Option Proposed) → n.waiting ≡ None → written (trimmed n) found ≡ written n found
unfolding trimmed regency_of
written_same n None free = refl
written_same n (Some p) free =
    ap (λ (test : Bool). cond test (Some p) None)
    (quorum_kept (view_of n).number (decided_place n) (regency_of n) (view_of n) Write (open_slot n) p.head.statement.digest (open_ahead n free) n.arrivals)

pub accepting_same : {S : Type 0} (n : Node S) → accepting (trimmed n) ≡ accepting n
unfolding accepting trimmed regency_of start_of
accepting_same n =
    where_true _ _ _ None (λ may.
    let free = open_free n (and_true (is_open n) _ may).0 in
    ap (λ found. written (trimmed n) found) (votable_proposal n free) ∙ written_same n (votable n (proposed_for n.arrivals (open_slot n))) free)

accepts_free : {S : Type 0} (n : Node S) → is_some (accepting n) ≡ true → n.waiting ≡ None
unfolding accepting
accepts_free n some = open_free n (and_true (is_open n) _ (guard_passed _ _ some)).0

accept_same : {S : Type 0} (n : Node S) (found : Option Proposed) → (is_some found ≡ true → n.waiting ≡ None)
    → trimmed (accept_batch (trimmed n) found) ≡ trimmed (accept_batch n found)
unfolding accept_batch trimmed regency_of
accept_same n None free = trimmed_twice n
accept_same n (Some p) free =
    ap (λ (votes : List (SignedBy Ballot)). trimmed (holding
    (recording (trimmed n) (Accepted (record { slot = open_slot n; digest = p.head.statement.digest; writes = votes; batch = p.batch }))) targets.View
    (ballot n Accept p.head.statement.digest)))
    (certificate_kept (view_of n).number (decided_place n) (regency_of n) (view_of n) Write (open_slot n) p.head.statement.digest (open_ahead n (free refl)) n.arrivals)
    ∙ trimmed_behind (decided_place n) (regency_of n) (accept_batch n (Some p)) (omega arith)
    (regency_grows (view_of n).number n.entries (Accepted (record {
      slot = open_slot n;
      digest = p.head.statement.digest;
      writes = certificate_votes n.arrivals (view_of n) Write (open_slot n) p.head.statement.digest;
      batch = p.batch;
    }) ∷ []))

pub accepts_same : {S : Type 0} (n : Node S) → trimmed (accepts (trimmed n)) ≡ trimmed (accepts n)
unfolding accepts
accepts_same n = ap (λ found. trimmed (accept_batch (trimmed n) found)) (accepting_same n) ∙ accept_same n (accepting n) (accepts_free n)

-- DECIDE

decision_same : {S : Type 0} (n : Node S) (regency : ℕ) → n.waiting ≡ None → regency_of n ≤ regency → decision_in (trimmed n) regency ≡ decision_in n regency
unfolding decision_in trimmed regency_of
decision_same n regency free later =
    decision_kept (view_of n).number (decided_place n) (regency_of n) (next_place n) (view_of n) (slot_in n regency) (slot_ahead n regency free later) (next_past n free)
    n.arrivals n.entries

decision_ahead_same : {S : Type 0} (n : Node S) → n.waiting ≡ None → decision_ahead (trimmed n) ≡ decision_ahead n
unfolding trimmed regency_of
decision_ahead_same n free =
    ap (λ (found : Option Decision). cond (nat_lt (regency_of n + 1) (2 ^ 32)) found None) (decision_same n (regency_of n + 1) free (omega arith))

decisions_same : {S : Type 0} (n : Node S) → n.waiting ≡ None
    → or_else (decision_in (trimmed n) (regency_of n)) (decision_ahead (trimmed n)) ≡ or_else (decision_in n (regency_of n)) (decision_ahead n)
decisions_same n free =
    ap (λ (found : Option Decision). or_else found (decision_ahead (trimmed n))) (decision_same n (regency_of n) free (omega arith))
    ∙ ap (λ (found : Option Decision). or_else (decision_in n (regency_of n)) found) (decision_ahead_same n free)

-- a decision of the next place is past the decided one
shown_same : {S : Type 0} (n : Node S) → n.waiting ≡ None → shown_next (trimmed n) ≡ shown_next n
unfolding trimmed regency_of
shown_same n free =
    find_filter (λ (d : ProvenBatch). d.place == next_place n) (is_later n)
    (λ d is. lt-ltb (decided_place n) d.place (omega (arith, eqb-true d.place (next_place n) is, next_past n free))) n.decisions

all_decisions_same : {S : Type 0} (n : Node S) → n.waiting ≡ None
    → or_else (option_map (decision_shown (trimmed n)) (shown_next (trimmed n))) (or_else (decision_in (trimmed n) (regency_of n)) (decision_ahead (trimmed n)))
    ≡ or_else (option_map (decision_shown n) (shown_next n)) (or_else (decision_in n (regency_of n)) (decision_ahead n))
unfolding trimmed regency_of
all_decisions_same n free =
    ap (λ (found : Option ProvenBatch). or_else (option_map (decision_shown n) found) (or_else (decision_in (trimmed n) (regency_of n)) (decision_ahead (trimmed n)))) (shown_same n free)
    ∙ ap (λ (later : Option Decision). or_else (option_map (decision_shown n) (shown_next n)) later) (decisions_same n free)

pub deciding_same : {S : Type 0} (n : Node S) → deciding (trimmed n) ≡ deciding n
unfolding deciding trimmed regency_of
deciding_same n = where_true (is_free n) _ _ None (λ free. all_decisions_same n (free_free n free))

pub decides_free : {S : Type 0} (n : Node S) → is_some (deciding n) ≡ true → n.waiting ≡ None
unfolding deciding
decides_free n some = free_free n (guard_passed (is_free n) _ some)

decide_same : {S : Type 0} (n : Node S) (found : Option Decision) → (is_some found ≡ true → n.waiting ≡ None)
    → trimmed (decide_batch (trimmed n) found) ≡ trimmed (decide_batch n found)
unfolding decide_batch trimmed regency_of
decide_same n None free = trimmed_twice n
decide_same n (Some d) free =
    trimmed_behind (decided_place n) (regency_of n) (decide_batch n (Some d)) (rw (free refl) (omega arith)) (regency_grows (view_of n).number n.entries (Decided d ∷ []))

pub decides_same : {S : Type 0} (n : Node S) → trimmed (decides (trimmed n)) ≡ trimmed (decides n)
unfolding decides
decides_same n = ap (λ found. trimmed (decide_batch (trimmed n) found)) (deciding_same n) ∙ decide_same n (deciding n) (decides_free n)

-- ANSWER

pub answering_same : {S : Type 0} (n : Node S) (asked : Asked) → answering (trimmed n) asked ≡ answering n asked
unfolding answering trimmed
answering_same n asked = refl

telling_same : {S : Type 0} (known : Bool) (to : Target) (n : Node S) → telling known to (trimmed n) ≡ trimmed (telling known to n)
unfolding trimmed regency_of
telling_same known to n = refl

answer_same : {S : Type 0} (n : Node S) (line : Option Execution) → answer_line (trimmed n) line ≡ trimmed (answer_line n line)
unfolding answer_line trimmed regency_of
answer_same n None = refl
answer_same n (Some line) = telling_same (nat_le (length n.replica.views) 1) (targets.Client line.client) (replies_with n line)

answers_exact : {S : Type 0} (asked : Asked) (n : Node S) → answers_again (trimmed n) asked ≡ trimmed (answers_again n asked)
unfolding answers_again
answers_exact asked n = ap (λ line. answer_line (trimmed n) line) (answering_same n asked) ∙ answer_same n (answering n asked)

pub answers_same : {S : Type 0} (n : Node S) (asked : Asked) → trimmed (answers_again (trimmed n) asked) ≡ trimmed (answers_again n asked)
answers_same n asked = exactly (λ x. answers_again x asked) (answers_exact asked) n

-- DELIVER

holding_same : {S : Type 0} (n : Node S) (l : Execution)
    → holding (trimmed n) (targets.Client l.client) (reply_of n.secret n.id l) ≡ trimmed (holding n (targets.Client l.client) (reply_of n.secret n.id l))
unfolding trimmed regency_of
holding_same n l = refl

replying_same : {S : Type 0} (n : Node S) (lines : List Execution) → replying (trimmed n) lines ≡ trimmed (replying n lines)
unfolding trimmed
replying_same n [] = refl
replying_same n (l ∷ ls) = ap (λ x. replying x ls) (holding_same n l) ∙ replying_same (holding n (targets.Client l.client) (reply_of n.secret n.id l)) ls

decided-delivered : {S : Type 0} (m : Meaning S) (n : Node S) (batch : Batch) → n.waiting ≡ Some batch → decided_place n ≡ (delivered m n.replica batch).place
decided-delivered m n batch is = rw is (sym (place_delivered m n.replica batch))

-- the place that counts as past is the same before and after; the view and the regency are, unless the batch begins a view
deliver_same : {S : Type 0} (m : Meaning S) (n : Node S) (batch : Option Batch) → n.waiting ≡ batch → deliver_batch m (trimmed n) batch ≡ trimmed (deliver_batch m n batch)
unfolding deliver_batch trimmed regency_of
deliver_same m n None is = refl
deliver_same {S = S} m n (Some batch) is =
    let after : Node S = record n { replica = delivered m n.replica batch; waiting = None; pool = settled (delivered m n.replica batch).table n.pool; impatient = false } in
    let lines : List Execution = lines_to_answer m n batch in
    let t : Bool = stays_in_view n after in
    let v : ℕ = (view_of n).number in
    let w : ℕ = (view_of after).number in
    let view : t ≡ true → v ≡ w = (λ stays. eqb-true v w stays) in
    let all : Node S = replying (entered t after) lines in
    ap (λ (x : Node S). informs n x)
    (ap (λ (c : ℕ). replying (entered t (trim v c (regency_of n) after)) lines) (decided-delivered m n batch is)
    ∙ (ap (λ (x : Node S). replying x lines)
    (entered_trim t v w (delivered m n.replica batch).place (regency_of n) (greatest_regency w n.entries) after view (λ stays. ap (λ (k : ℕ). greatest_regency k n.entries) (view stays)))
    ∙ replying_same (entered t after) lines))
    ∙ telling_same (stays_in_view n all) targets.Clients all

waiting_same : {S : Type 0} (n : Node S) → (trimmed n).waiting ≡ n.waiting
unfolding trimmed
waiting_same n = refl

delivers_exact : {S : Type 0} (m : Meaning S) (n : Node S) → delivers m (trimmed n) ≡ trimmed (delivers m n)
unfolding delivers
delivers_exact m n = ap (λ b. deliver_batch m (trimmed n) b) (waiting_same n) ∙ deliver_same m n n.waiting refl

pub delivers_same : {S : Type 0} (m : Meaning S) (n : Node S) → trimmed (delivers m (trimmed n)) ≡ trimmed (delivers m n)
delivers_same m n = exactly (λ x. delivers m x) (delivers_exact m) n

delivery_same-of : {S : Type 0} (m : Meaning S) (n : Node S) (batch : Option Batch) → delivery m (trimmed n) batch ≡ delivery m n batch
unfolding delivery trimmed
delivery_same-of m n None = refl
delivery_same-of m n (Some batch) = refl

pub delivery_same : {S : Type 0} (m : Meaning S) (n : Node S) → delivery m (trimmed n) (trimmed n).waiting ≡ delivery m n n.waiting
delivery_same m n = ap (λ b. delivery m (trimmed n) b) (waiting_same n) ∙ delivery_same-of m n n.waiting

-- MARK

mark_same : {S : Type 0} (m : Meaning S) (n : Node S) → trimmed (mark_place m (trimmed n)) ≡ trimmed (mark_place m n)
unfolding mark_place trimmed regency_of
mark_same m n =
    trimmed_behind (decided_place n) (regency_of n) (mark_place m n) (omega arith)
    (regency_grows (view_of n).number n.entries (Marked (mark_of m n) ∷ []))

marking_same : {S : Type 0} (delivered : Bool) (n : Node S) → marking delivered (trimmed n) ≡ marking delivered n
unfolding trimmed
marking_same delivered n = refl

marks_by : {S : Type 0} (m : Meaning S) (n : Node S) (t : Bool) → trimmed (cond t (mark_place m (trimmed n)) (trimmed n)) ≡ trimmed (cond t (mark_place m n) n)
marks_by m n true = mark_same m n
marks_by m n false = trimmed_twice n

marks_same : {S : Type 0} (m : Meaning S) (delivered : Bool) (n : Node S) → trimmed (marks_place m delivered (trimmed n)) ≡ trimmed (marks_place m delivered n)
marks_same m delivered n =
    ap (λ t. trimmed (cond t (mark_place m (trimmed n)) (trimmed n))) (marking_same delivered n) ∙ marks_by m n (marking delivered n)

marked_same : {S : Type 0} (m : Meaning S) (delivered : Bool) (n : Node S) → marked m delivered (trimmed n) ≡ marked m delivered n
unfolding trimmed
marked_same m delivered n = refl

-- what delivers and marks, as one rule
abbrev pub delivers_marked : {S : Type 0} → Meaning S → Node S → Node S
delivers_marked m n = marks_place m (is_some n.waiting) (delivers m n)

abbrev pub delivery_marked : {S : Type 0} → Meaning S → Node S → List Fired
delivery_marked m n = delivery m n n.waiting ++ marked m (is_some n.waiting) (delivers m n)

pub delivers_marked_same : {S : Type 0} (m : Meaning S) → Keeps (delivers_marked m)
delivers_marked_same m n =
    ap (λ (b : Option Batch). trimmed (marks_place m (is_some b) (delivers m (trimmed n)))) (waiting_same n)
    ∙ (ap (λ x. trimmed (marks_place m (is_some n.waiting) x)) (delivers_exact m n) ∙ marks_same m (is_some n.waiting) (delivers m n))

pub delivery_marked_same : {S : Type 0} (m : Meaning S) (n : Node S) → delivery_marked m (trimmed n) ≡ delivery_marked m n
delivery_marked_same {S = S} m n =
    let told : marked m (is_some (trimmed n).waiting) (delivers m (trimmed n)) ≡ marked m (is_some n.waiting) (delivers m n) =
    ap (λ (b : Option Batch). marked m (is_some b) (delivers m (trimmed n))) (waiting_same n)
    ∙ (ap (λ (x : Node S). marked m (is_some n.waiting) x) (delivers_exact m n) ∙ marked_same m (is_some n.waiting) (delivers m n)) in
    ap (λ (xs : List Fired). xs ++ marked m (is_some (trimmed n).waiting) (delivers m (trimmed n))) (delivery_same m n) ∙ ap (λ (xs : List Fired). delivery m n n.waiting ++ xs) told
