-- The rules that order requests and answer them. Each rule has three definitions: what is due, what the rule does with it, and both
-- together.
use Rattle.std.specs.Prelude.{ℕ, ◌+◌, ◌^◌, ◌==◌, nat_lt, nat_le, not, ◌&&◌, List, [], ◌∷◌, ◌++◌, length, find, filter_map, if◌then◌else◌, Option, Some, None, option_map, Bool, false}
use Rattle.std.specs.List.{list_any}
use Rattle.smart_base.specs.Lists.{or_else}
use Rattle.smart_base.specs.Views.{View, is_member, leader, first_quorum, present}
use Rattle.smart_statements.specs.Equality.{same_slot}
use Rattle.smart_statements.specs.Kinds.{proposals, ballots, answers}
use Rattle.smart_statements.specs.Batches.{Batch}
use Rattle.smart_statements.specs.Forms.{SignedBy}
use Rattle.smart_statements.specs.declared.statement.Request.{Request}
use Rattle.smart_statements.specs.declared.statement.Proposal.{Proposal}
use Rattle.smart_statements.specs.declared.statement.Ballot.{Ballot}
use Rattle.smart_statements.specs.declared.statement.Answer.{Answer}
use Rattle.smart_statements.specs.declared.statement.Slot.{Slot}
use Rattle.smart_statements.specs.declared.statement.VoteKind.{VoteKind}
use Rattle.smart_statements.specs.declared.statement.VoteKind.TheVariants.{Write, Accept}
use Rattle.smart_messages.specs.declared.message.Message.{Message}
use Rattle.smart_messages.specs.declared.message.Message.TheVariants.{Ask, Propose, Vote, Reply}
use Rattle.smart_messages.specs.declared.message.Message.TheVariants as changes
use Rattle.transfer_form.specs.declared.transfer.ProvenBatch.{ProvenBatch}
use Rattle.smart_messages.specs.declared.message.Proposed.{Proposed}
use Rattle.smart_service.specs.Services.{Meaning}
use Rattle.smart_service.specs.declared.replica.Replica.{Replica}
use Rattle.smart_service.specs.declared.table.Execution.{Execution}
use Rattle.smart_service.specs.Tables.{kept_reply}
use Rattle.vote_book.specs.Admission.{writes_in, accepts_in}
use Rattle.vote_book.specs.declared.entry.Decision.{Decision}
use Rattle.vote_book.specs.declared.entry.LogEntry.TheVariants.{Wrote, Accepted, Decided}
use Rattle.regency_sync.specs.Synchronizers.{batch_of}
use Rattle.replica_rules.specs.Replicas.{delivered, executed_lines}
use Rattle.replica_rules.specs.Seals.{signed, digest_of}
use Rattle.replica_rules.specs.Pools.{settled, gathered}
use Rattle.node_rules.specs.Votes.{has_quorum, certificate_votes, proposed_for, known, accepted_in, decision_by, accepted_under}
use Rattle.node_rules.specs.Nodes.{Node, view_of, enters, telling, informs, regency_of, start_of, next_place, open_slot, is_free, is_open, bound_at, is_within, synchronizer_of, signs, sending, recording}
use Rattle.node_rules.specs.Arrivals.{slot_shown}
use Rattle.node_rules.specs.declared.node.Asked.{Asked}
use Rattle.node_rules.specs.declared.node.Called.{Called}
use Rattle.node_rules.specs.declared.node.Called.TheVariants as calls
use Rattle.node_rules.specs.declared.node.Target.TheVariants as targets
use Rattle.node_rules.specs.declared.node.Fired.{Fired}
use Rattle.node_rules.specs.declared.node.Fired.TheVariants as fires

-- the event that a rule reports, if something was due
abbrev pub fired_if : {A : Type 0} → Fired → Option A → List Fired
fired_if rule None = []
fired_if rule (Some x) = rule ∷ []

-- deliver: the waiting batch is executed, and each client whose request was executed gets its reply

-- what a member states of an execution
abbrev pub answer_of : Execution → Answer
answer_of line = record { view = line.view; place = line.place; index = line.index; client = line.client; seq = line.seq; reply = line.reply }

-- the signed reply of a member that tells an execution
abbrev pub reply_of : List ℕ → ℕ → Execution → Message
reply_of secret id line = Reply (signed answers secret id (answer_of line))

-- the signed reply that tells an execution, put into the outbox
abbrev pub replies_with : {S : Type 0} → Node S → Execution → Node S
replies_with n line = sending n (targets.Client line.client) answers (answer_of line) (λ (a : SignedBy Answer). Reply a)

-- a reply put into the outbox for each execution
abbrev pub replying : {S : Type 0} → Node S → List Execution → Node S
replying n [] = n
replying n (line ∷ lines) = replying (replies_with n line) lines

-- the executions that the node answers: those of the batch, if the node is a member of the view in force
abbrev pub lines_to_answer : {S : Type 0} → Meaning S → Node S → Batch → List Execution
lines_to_answer m n batch = if is_member (view_of n) n.id then executed_lines m n.replica batch else []

-- What delivery does: execute the batch, drop what may not be executed now from the pool, end the wait, and reply. The batch may begin a view. The
-- node then tells it to the clients that have asked, whether it is a member or not.
unfoldable pub deliver_batch : {S : Type 0} → Meaning S → Node S → Option Batch → Node S
deliver_batch m n None = n
deliver_batch m n (Some batch) =
    let replica = delivered m n.replica batch in
    informs n (replying (enters n (record n { replica = replica; waiting = None; pool = settled replica.table n.pool; impatient = false })) (lines_to_answer m n batch))

-- the event of a view that began: the number of the view in force then
abbrev pub begun_in : {S : Type 0} → Replica S → Replica S → List Fired
begun_in r r' = if (present r.views).number == (present r'.views).number then [] else fires.Viewed (present r'.views).number ∷ []

-- the events of a delivery: its place, its batch, and how many of its requests were executed; then the view that it began
unfoldable pub delivery : {S : Type 0} → Meaning S → Node S → Option Batch → List Fired
delivery m n None = []
delivery m n (Some batch) =
    fires.Delivered (record { place = next_place n; batch = batch; executed = length (executed_lines m n.replica batch) })
    ∷ begun_in n.replica (delivered m n.replica batch)

-- The rule that delivers: the waiting batch, if there is one, is executed and answered (state machine replication). Replies wait for the log
-- (Dura-SMaRt, USENIX ATC 2013).
unfoldable pub delivers : {S : Type 0} → Meaning S → Node S → Node S
delivers m n = deliver_batch m n n.waiting

-- propose: the leader proposes one batch for the open slot. At the base of its regency it proposes the batch that binds there. A report
-- brought that batch, or the node accepted it itself.

-- the batch to propose, if there is one: the bound batch if the node has it; if nothing binds, a batch gathered from the pool
unfoldable pub batch_under : {S : Type 0} → Node S → Option (List ℕ) → Option Batch
batch_under n None = gathered n.pool (next_place n)
batch_under n (Some digest) =
    or_else (batch_of (view_of n) (synchronizer_of n) digest) (accepted_under (view_of n).number (next_place n) digest n.entries)

-- the proposal that is due: the slot is open, the node leads, it has made none for this slot, and it has a batch
unfoldable pub proposing : {S : Type 0} → Node S → Option Batch
proposing n =
    if is_open n && (leader (view_of n) (regency_of n) == n.id) && not (list_any (same_slot (open_slot n)) n.proposed)
    then batch_under n (bound_at (next_place n) (start_of n))
    else None

-- what a proposal does: note the slot, and send the signed PROPOSE with its batch to the view
unfoldable pub propose_batch : {S : Type 0} → Node S → Option Batch → Node S
propose_batch n None = n
propose_batch n (Some batch) =
    sending (record n { proposed = n.proposed ++ open_slot n ∷ [] }) targets.View proposals
    (record { slot = open_slot n; digest = digest_of batch })
    (λ (head : SignedBy Proposal). Propose (record { head = head; batch = batch }))

-- the rule that proposes: the leader of the regency in force sends PROPOSE, once in a slot (Mod-SMaRt, EDCC 2012)
unfoldable pub proposes : {S : Type 0} → Node S → Node S
proposes n = propose_batch n (proposing n)

-- write: the node votes once in the open slot for the batch proposed there, if that batch may get votes

-- what a vote of the node states: its kind, and a digest in the open slot
abbrev pub ballot_for : {S : Type 0} → Node S → VoteKind → List ℕ → Ballot
ballot_for n kind digest = record { kind = kind; slot = open_slot n; digest = digest }

-- the node's signed vote of a kind for a digest in the open slot
abbrev pub ballot : {S : Type 0} → Node S → VoteKind → List ℕ → Message
ballot n kind digest = Vote (signs n ballots (ballot_for n kind digest))

-- a vote that the node signs, put into the outbox after what the vote rests on was recorded
abbrev pub sends_vote : {S : Type 0} → Node S → Ballot → Node S
sends_vote n b = sending n targets.View ballots b (λ (vote : SignedBy Ballot). Vote vote)

-- a proposal whose digest may get votes at the next place
abbrev pub votable : {S : Type 0} → Node S → Option Proposed → Option Proposed
votable n None = None
votable n (Some p) = if is_within (bound_at (next_place n) (start_of n)) p.head.statement.digest then Some p else None

-- the WRITE that is due: the slot is open, the book has no WRITE in it, and its first proposal may get votes
unfoldable pub writing : {S : Type 0} → Node S → Option Proposed
writing n =
    if is_open n && not (list_any (writes_in (open_slot n)) n.entries)
    then votable n (proposed_for n.arrivals (open_slot n))
    else None

-- What a WRITE does: record it in the book, and send it to the view. It leaves after its entry is firm.
unfoldable pub write_batch : {S : Type 0} → Node S → Option Proposed → Node S
write_batch n None = n
write_batch n (Some p) =
    sends_vote (recording n (Wrote (record { slot = open_slot n; digest = p.head.statement.digest }))) (ballot_for n Write p.head.statement.digest)

-- the rule that writes: the node sends WRITE for the first proposal, once in a slot (Mod-SMaRt, EDCC 2012; its entry first: this project's
-- own)
unfoldable pub writes : {S : Type 0} → Node S → Node S
writes n = write_batch n (writing n)

-- accept: the node accepts once in the open slot the proposed batch that a quorum wrote for

-- a proposal for whose digest a quorum's WRITEs in the open slot were kept
abbrev pub written : {S : Type 0} → Node S → Option Proposed → Option Proposed
written n None = None
written n (Some p) = if has_quorum n.arrivals (view_of n) Write (open_slot n) p.head.statement.digest then Some p else None

-- The ACCEPT that is due. The slot is open, and the book has no ACCEPT in it. A quorum wrote for its first proposal, which may get votes.
unfoldable pub accepting : {S : Type 0} → Node S → Option Proposed
accepting n =
    if is_open n && not (list_any (accepts_in (open_slot n)) n.entries)
    then written n (votable n (proposed_for n.arrivals (open_slot n)))
    else None

-- What an ACCEPT does: record the batch with its certificate of WRITEs, and send the vote to the view. The vote leaves after its entry is firm.
unfoldable pub accept_batch : {S : Type 0} → Node S → Option Proposed → Node S
accept_batch n None = n
accept_batch n (Some p) =
    sends_vote (recording n (Accepted (record {
      slot = open_slot n;
      digest = p.head.statement.digest;
      writes = certificate_votes n.arrivals (view_of n) Write (open_slot n) p.head.statement.digest;
      batch = p.batch;
    }))) (ballot_for n Accept p.head.statement.digest)

-- the rule that accepts: after a quorum's WRITEs the node sends ACCEPT, once in a slot (Mod-SMaRt, EDCC 2012; its entry first: this
-- project's own)
unfoldable pub accepts : {S : Type 0} → Node S → Node S
accepts n = accept_batch n (accepting n)

-- decide: the node decides a batch that it has, after a quorum accepted it at the next place. The quorum is of the regency in force or the
-- next one.

-- the slot of the next place in a regency of the view in force
abbrev pub slot_in : {S : Type 0} → Node S → ℕ → Slot
slot_in n regency = record { view = (view_of n).number; place = next_place n; regency = regency }

-- the decision that the kept ACCEPTs prove in a regency, for a batch that the node has
unfoldable pub decision_in : {S : Type 0} → Node S → ℕ → Option Decision
decision_in n regency =
    decision_by (view_of n) (slot_in n regency) n.arrivals
    (accepted_in (view_of n) (slot_in n regency) n.arrivals (known (view_of n).number (next_place n) (regency_of n) n.arrivals n.entries))

-- the decision that they prove in the regency after the one in force; none if the one in force is the last, 2^32 - 1
abbrev pub decision_ahead : {S : Type 0} → Node S → Option Decision
decision_ahead n = if nat_lt (regency_of n + 1) (2 ^ 32) then decision_in n (regency_of n + 1) else None

-- a member that has signed some votes
abbrev pub has_signed : List (SignedBy Ballot) → ℕ → Bool
has_signed votes member = list_any (λ (b : SignedBy Ballot). b.signer == member) votes

-- the votes of the first members by number that make a quorum
abbrev pub first_votes : View → List (SignedBy Ballot) → List (SignedBy Ballot)
first_votes v votes = filter_map (λ member. find (λ (b : SignedBy Ballot). b.signer == member) votes) (first_quorum v (has_signed votes))

-- the decision that others showed, in the view in force, with the first quorum's ACCEPTs
abbrev pub decision_shown : {S : Type 0} → Node S → ProvenBatch → Decision
decision_shown n d = record { slot = slot_shown n d; batch = d.batch; accepts = first_votes (view_of n) d.accepts }

-- the first kept decision of the next place
abbrev pub shown_next : {S : Type 0} → Node S → Option ProvenBatch
shown_next n = find (λ (d : ProvenBatch). d.place == next_place n) n.decisions

-- the decision that is due, if the node is free: what others showed first, then in the regency in force, then in the next one
unfoldable pub deciding : {S : Type 0} → Node S → Option Decision
deciding n =
    if is_free n
    then or_else (option_map (decision_shown n) (shown_next n)) (or_else (decision_in n (regency_of n)) (decision_ahead n))
    else None

-- what a decision does: record it with its proof, and let its batch wait for delivery
unfoldable pub decide_batch : {S : Type 0} → Node S → Option Decision → Node S
decide_batch n None = n
decide_batch n (Some d) = record (recording n (Decided d)) { waiting = Some d.batch }

-- the rule that decides: a quorum's ACCEPTs decide a batch that the node has (Mod-SMaRt, EDCC 2012; those of the next regency: this
-- project's own)
unfoldable pub decides : {S : Type 0} → Node S → Node S
decides n = decide_batch n (deciding n)

-- answer again: a client that repeats an executed request whose reply is kept gets that reply again

-- the client and the number of a request
abbrev pub asking : SignedBy Request → Asked
asking q = record { client = q.statement.client; seq = q.statement.seq }

-- what a message asks the node for
abbrev pub called_by : Message → Called
called_by (Ask q) = calls.Request (asking q)
called_by (Propose p) = calls.Nobody
called_by (Vote b) = calls.Nobody
called_by (changes.Stop s) = calls.Nobody
called_by (changes.StopData r) = calls.Nobody
called_by (changes.Sync s) = calls.Nobody
called_by (changes.Decision d) = calls.Nobody
called_by (Reply a) = calls.Nobody
called_by (changes.Mark m) = calls.Nobody
called_by (changes.StateAsk a) = calls.State a
called_by (changes.StateOffer o) = calls.Offered
called_by (changes.StatePart p) = calls.Nobody
called_by (changes.ViewTold i) = calls.Nobody

-- the execution whose reply is due again: the one of the request, if its reply is kept
unfoldable pub answering : {S : Type 0} → Node S → Asked → Option Execution
answering n asked = kept_reply n.replica.table asked.client asked.seq

-- A node that tells its view to a client, unless it is the group's first one, which all clients know. Views are numbered from 0, so each further one
-- has a number above 0.
abbrev pub telling_view : {S : Type 0} → Node S → ℕ → Node S
telling_view n client = telling (nat_le (length n.replica.views) 1) (targets.Client client) n

-- A kept reply put into the outbox, if there is one, and behind it the view in force. The client of the reply may not know it.
unfoldable pub answer_line : {S : Type 0} → Node S → Option Execution → Node S
answer_line n None = n
answer_line n (Some line) = telling_view (replies_with n line) line.client

-- the rule that answers a repeated request (the kept reply of state machine replication)
unfoldable pub answers_again : {S : Type 0} → Node S → Asked → Node S
answers_again n asked = answer_line n (answering n asked)
