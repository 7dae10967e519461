-- In a play each batch that a node holds was in a message that was sent. Its text is the only one of its digest.
use Rattle.std.proofs.Common.{Bool, ◌≡◌, ℕ, ◌^◌, ◌<◌, ◌++◌, ◌==◌, ◌+◌, ◌&&◌, true, false, not, List, [], ◌∷◌, length, refl, sym, subst, inl, inr, Option, Some, None, Err, Ok, Result, ⊎_elim}
use Rattle.std.specs.Prelude.{option_map, slice_get, IfSome}
use Rattle.std.specs.List.{list_any, filter_map, flat_map}
use Rattle.smart_base.specs.Lists.{Each}
use Rattle.smart_base.specs.Views.{View, is_view}
use Rattle.smart_statements.specs.Forms.{SignedBy}
use Rattle.smart_statements.specs.Batches.{Batch}
use Rattle.smart_statements.specs.declared.statement.VoteKind.TheVariants.{Write}
use Rattle.smart_statements.specs.declared.statement.Request.{Request}
use Rattle.smart_statements.specs.declared.report.Report.{Report}
use Rattle.smart_messages.specs.declared.regency.Sync.{Sync}
use Rattle.smart_messages.specs.declared.message.Proposed.{Proposed}
use Rattle.smart_messages.specs.declared.message.Message.{Message}
use Rattle.smart_messages.specs.declared.message.Message.TheVariants as changes
use Rattle.smart_messages.specs.declared.message.Message.TheVariants.{Ask, Propose, Vote, Reply}
use Rattle.smart_statements.specs.declared.entry.NodeEvent.{NodeEvent}
use Rattle.smart_statements.specs.declared.entry.NodeEvent.TheVariants.{Arrive, Tick, Deliver, Firm}
use Rattle.smart_service.specs.Services.{Meaning}
use Rattle.smart_service.specs.declared.table.Execution.{Execution}
use Rattle.vote_book.specs.BookReports.{accept_for}
use Rattle.vote_book.specs.Admission.{accepts_in}
use Rattle.vote_book.specs.declared.entry.Accept as accept
use Rattle.vote_book.specs.declared.entry.Decision.{Decision}
use Rattle.vote_book.specs.declared.entry.LogEntry.{LogEntry}
use Rattle.vote_book.specs.declared.entry.LogEntry.TheVariants.{Opened, Wrote, Accepted, Promised, Synced, Decided, Installed, Marked}
use Rattle.node_rules.specs.Votes.{has_quorum, Named, named_in, named_by, known, proposed_for}
use Rattle.replica_rules.specs.Replicas.{is_next, delivered}
use Rattle.replica_rules.specs.Pools.{offered, settled}
use Rattle.node_rules.specs.Rules.{reply_of, replying, lines_to_answer, deliver_batch, delivers, proposing, propose_batch, proposes, writing, write_batch, writes, votable, written, accepting, accept_batch, accepts, deciding, decide_batch, decides, answering, answer_line, answers_again}
use Rattle.node_rules.specs.Marks.{mark_of, mark_place, firm_at}
use Rattle.node_rules.specs.Nodes.{Node, view_of, regency_of, next_place, open_slot, is_open, holding, holding_all, entered, enters, recording, stays_in_view}
use Rattle.node_rules.specs.Arrivals.{noted, kept}
use Rattle.node_rules.specs.Changes.{adopts_by, adopts, adoption, asks_next, joining, joins, promising, promise_next, promises, leading, lead_with, leads, timing, passes_on, presses, times, asks_state, lags}
use Rattle.node_rules.specs.Steps.{Outcome, step_of, takes_in, leaving, Outset}
use Rattle.node_rules.specs.declared.node.OwnSnapshot.{OwnSnapshot}
use Rattle.replica_laws.proofs.FitNodes.{FitsSnapshot, Settles}
use Rattle.world_laws.proofs.Snapshots.{AreRestorable}
use Rattle.node_rules.specs.declared.node.Target.TheVariants as targets
use Rattle.world_rules.specs.Premises.{batches_met, batches}
use Rattle.world_rules.specs.Worlds.{course_of, store_after, Host, World, host_crashed, host_resumed, posts, snapshot_in, chosen_with, host_after, stepped, hearing, hosts_from, begun, new_host}
use Rattle.world_rules.specs.declared.message.Sent.{Sent}
use Rattle.world_rules.specs.declared.message.Content.{Content}
use Rattle.node_laws.proofs.Lists.{guard, each_filter_map_in}
use Rattle.node_laws.proofs.Voting.{proposed_is, votable_is}
use Rattle.node_laws.proofs.Deciding.{due_is, accept_for_is, FromShown, FromVotes}
use Rattle.replica_laws.proofs.Once.{entries_adopted}
use Rattle.node_rules.proofs.Rulewise.{KeptByRules, keeps_step, ForRead, ForEvent}
use Rattle.world_laws.proofs.Lists.{each_set, each_get, each_insert}
use Rattle.agreement_laws.specs.Lists.{Exact}
use Rattle.replica_rules.specs.Seals.{digest_of}
use Rattle.world_laws.proofs.Keeps.{with_host, node_resumed, after_call, HasMessage, ask_of, asked_by, KeepsBut, MayCome, by-posts, ReadsSent, MayRead, may_read, signed_by, from_node, from_client, comes-as, keeps-sends_all, from_script, IsNew, added}
use Rattle.replica_laws.proofs.Small.{IsBrief}
use Rattle.world_laws.proofs.Fitting.{AllFit, keeps-fit, fit-event, fit-reads, fit-resumes, fit-begun, fit-added}
use Rattle.world_laws.proofs.Lives.{EachLife, life-weaker, life-firm, life-called, life-crashed}
use Rattle.node_rules.specs.Reopening.{reopened}
use Rattle.node_laws.specs.Restoring.{outset_behind}
use Rattle.node_laws.proofs.Cuts.{cut_each}
use Rattle.book_laws.specs.BookCuts.{cut_at}
use Rattle.world_laws.proofs.Reopens.{GoesBehind, node_behind}
use Rattle.node_laws.proofs.Reopened.{reopened_is}
use Rattle.world_rules.specs.Secrets.{group_secret}
use Rattle.world_laws.proofs.NoClash.{HasBatch, IsMet, has-left, has-right, met-grows, TextsExact, texts-end, texts-marked, met-exact}
use Rattle.agreement_laws.proofs.Lists.{some_equal, each_among, each_append, either, each_end}
use Rattle.smart_base.proofs.ViewFacts.{each-weaken}
use Rattle.node_rules.specs.declared.node.Asked.{Asked}
use Rattle.world_rules.specs.declared.line.Header.{Header}
use Rattle.world_laws.specs.Promises.{IsHeader}
use Rattle.agreement_laws.specs.Statements.{Statement}
use Rattle.node_rules.specs.Transfers.{answers_state, follow_plan, gives_parts, install_by, install_fetch, install_replica, installed_by, installing, installs, is_of_group, offer_for, offers_state, part_messages, planning, plans, shown_after, spoil}
use Rattle.node_rules.specs.declared.node.Target.{Target}
use Rattle.smart_service.specs.declared.replica.Replica.{Replica}
use Rattle.state_transfer.specs.Fetches.{finished}
use Rattle.state_transfer.specs.declared.choice.Plan.{Plan}
use Rattle.state_transfer.specs.declared.fetch.Fetch.{Fetch}
use Rattle.state_transfer.specs.declared.fetch.Spoiled.{Spoiled}
use Rattle.transfer_form.specs.declared.transfer.ProvenBatch.{ProvenBatch}
use Rattle.transfer_form.specs.declared.transfer.StateAsk.{StateAsk}

-- a node

-- what holds of a batch that may be there
abbrev pub ForBatch : Option Batch → (Batch → Type 0) → Type 0
ForBatch None P = Unit {0}
ForBatch (Some batch) P = P batch

for_batch-weaker : (P Q : Batch → Type 0) → ((batch : Batch) → P batch → Q batch) → (batch : Option Batch) → ForBatch batch P → ForBatch batch Q
for_batch-weaker P Q weaker None p = tt
for_batch-weaker P Q weaker (Some batch) p = weaker batch p

-- the batch of a proposal, or of a decision that others show, was met
abbrev pub ProposalMet : (Batch → Type 0) → Message → Type 0
ProposalMet M (Propose p) = M p.batch
ProposalMet M (changes.Decision d) = M d.batch
ProposalMet M m = Unit {0}

-- and an entry's
abbrev pub EntryMet : (Batch → Type 0) → LogEntry → Type 0
EntryMet M (Opened o) = Unit {0}
EntryMet M (Wrote w) = Unit {0}
EntryMet M (Accepted a) = M a.batch
EntryMet M (Promised p) = Unit {0}
EntryMet M (Synced s) = Unit {0}
EntryMet M (Decided d) = M d.batch
EntryMet M (Installed i) = Unit {0}
EntryMet M (Marked m) = Unit {0}

-- each batch at a node was met
pub record NodeMet {S : Type 0} (M : Batch → Type 0) (n : Node S) : Type 0 where
  pub arrivals : Each (ProposalMet M) n.arrivals
  pub entries : Each (EntryMet M) n.entries
  pub waiting : ForBatch n.waiting M
  pub decisions : Each (λ (d : ProvenBatch). M d.batch) n.decisions

-- replies wait to leave
met-replying : {S : Type 0} (M : Batch → Type 0) (n : Node S) (lines : List Execution) → NodeMet M n → NodeMet M (replying n lines)
met-replying M n [] is = is
met-replying M n (l ∷ ls) is =
    met-replying M (holding n (targets.Client l.client) (reply_of n.secret n.id l)) ls (record { arrivals = is.arrivals; entries = is.entries; waiting = is.waiting; decisions = is.decisions })

-- an arrival is kept
met-kept : {S : Type 0} (M : Batch → Type 0) (n : Node S) (message : Message) → ProposalMet M message → NodeMet M n → NodeMet M (kept n message)
unfolding kept
met-kept {S = S} M n (Ask q) met is =
    either (λ (x : Node S). NodeMet M x) (is_next n.replica.table q.statement) (record n { pool = offered n.pool q }) n
    (record { arrivals = is.arrivals; entries = is.entries; waiting = is.waiting; decisions = is.decisions }) is
met-kept M n (Propose p) met is = record { arrivals = each_end (ProposalMet M) n.arrivals (Propose p) is.arrivals met; entries = is.entries; waiting = is.waiting; decisions = is.decisions }
met-kept M n (Vote b) met is = record { arrivals = each_end (ProposalMet M) n.arrivals (Vote b) is.arrivals tt; entries = is.entries; waiting = is.waiting; decisions = is.decisions }
met-kept M n (changes.Decision d) met is = record { arrivals = is.arrivals; entries = is.entries; waiting = is.waiting; decisions = each_end (λ (x : ProvenBatch). M x.batch) n.decisions d is.decisions met }
met-kept M n (Reply a) met is = is
met-kept M n (changes.StateAsk a) met is = is
met-kept M n _ met is = record { arrivals = is.arrivals; entries = is.entries; waiting = is.waiting; decisions = is.decisions }

-- a node is told that it is behind
met-noted : {S : Type 0} (M : Batch → Type 0) (n : Node S) (message : Message) → NodeMet M n → NodeMet M (noted n message)
unfolding noted
met-noted M n message is = record { arrivals = is.arrivals; entries = is.entries; waiting = is.waiting; decisions = is.decisions }

-- a node answers again
met-answer_line : {S : Type 0} (M : Batch → Type 0) (n : Node S) (line : Option Execution) → NodeMet M n → NodeMet M (answer_line n line)
unfolding answer_line
met-answer_line M n None is = is
met-answer_line M n (Some line) is = record { arrivals = is.arrivals; entries = is.entries; waiting = is.waiting; decisions = is.decisions }

met-answers_again : {S : Type 0} (M : Batch → Type 0) (n : Node S) (asked : Asked) → NodeMet M n → NodeMet M (answers_again n asked)
unfolding answers_again
met-answers_again M n asked is = met-answer_line M n (answering n asked) is

-- a node that is in a view, or that enters one
met-entered : {S : Type 0} (M : Batch → Type 0) (stays : Bool) (n : Node S) → NodeMet M n → NodeMet M (entered stays n)
met-entered M stays n is =
    record { arrivals = either (λ (ms : List Message). Each (ProposalMet M) ms) stays n.arrivals [] is.arrivals tt; entries = is.entries; waiting = is.waiting; decisions = is.decisions }

-- a batch is delivered
met-deliver_batch : {S : Type 0} (M : Batch → Type 0) (m : Meaning S) (n : Node S) (batch : Option Batch) → NodeMet M n → NodeMet M (deliver_batch m n batch)
unfolding deliver_batch
met-deliver_batch M m n None is = is
met-deliver_batch {S = S} M m n (Some batch) is =
    let x : Node S = record n { replica = delivered m n.replica batch; waiting = None; pool = settled (delivered m n.replica batch).table n.pool; impatient = false } in
    let y = met-replying M (enters n x) (lines_to_answer m n batch)
    (met-entered M (stays_in_view n x) x (record { arrivals = is.arrivals; entries = is.entries; waiting = tt; decisions = is.decisions })) in
    record { arrivals = y.arrivals; entries = y.entries; waiting = y.waiting; decisions = y.decisions }

met-delivers : {S : Type 0} (M : Batch → Type 0) (m : Meaning S) (n : Node S) → NodeMet M n → NodeMet M (delivers m n)
unfolding delivers
met-delivers M m n is = met-deliver_batch M m n n.waiting is

-- a regency begins, is asked for, promised and led
met-adopts_by : {S : Type 0} (M : Batch → Type 0) (n : Node S) → NodeMet M n → NodeMet M (adopts n)
unfolding adopts adopts_by
met-adopts_by M n is = with_entries (adoption n)
    (entries_adopted (Each (EntryMet M)) (λ es p each. each_end (EntryMet M) es (Promised p) each tt) (λ es s each. each_end (EntryMet M) es (Synced s) each tt) n (adoption n) is.entries)
  where
    with_entries : (sync : Option (SignedBy Sync)) → Each (EntryMet M) (adopts_by n sync).entries → NodeMet M (adopts_by n sync)
    with_entries None each = is
    with_entries (Some sync) each = record { arrivals = is.arrivals; entries = each; waiting = is.waiting; decisions = is.decisions }

met-joins : {S : Type 0} (M : Batch → Type 0) (n : Node S) → NodeMet M n → NodeMet M (joins n)
unfolding joins
met-joins {S = S} M n is = either (λ (x : Node S). NodeMet M x) (joining n) (asks_next n) n (record { arrivals = is.arrivals; entries = is.entries; waiting = is.waiting; decisions = is.decisions }) is

met-promises : {S : Type 0} (M : Batch → Type 0) (n : Node S) → NodeMet M n → NodeMet M (promises n)
unfolding promises promise_next
met-promises {S = S} M n is =
    either (λ (x : Node S). NodeMet M x) (promising n) (promise_next n) n (record { arrivals = is.arrivals; entries = each_end (EntryMet M) n.entries _ is.entries tt; waiting = is.waiting; decisions = is.decisions }) is

met-lead_with : {S : Type 0} (M : Batch → Type 0) (n : Node S) (collect : Option (List (SignedBy Report))) → NodeMet M n → NodeMet M (lead_with n collect)
unfolding lead_with
met-lead_with M n None is = is
met-lead_with M n (Some collect) is = record { arrivals = is.arrivals; entries = is.entries; waiting = is.waiting; decisions = is.decisions }

met-leads : {S : Type 0} (M : Batch → Type 0) (n : Node S) → NodeMet M n → NodeMet M (leads n)
unfolding leads
met-leads M n is = met-lead_with M n (leading n) is

met-passes_on : {S : Type 0} (M : Batch → Type 0) (n : Node S) (pool : List (SignedBy Request)) → NodeMet M n → NodeMet M (passes_on n pool)
met-passes_on M n [] is = is
met-passes_on M n (q ∷ qs) is = record { arrivals = is.arrivals; entries = is.entries; waiting = is.waiting; decisions = is.decisions }

met-presses : {S : Type 0} (M : Batch → Type 0) (n : Node S) → NodeMet M n → NodeMet M (presses n)
unfolding presses
met-presses {S = S} M n is =
    either (λ (x : Node S). NodeMet M x) n.impatient (asks_next n) (passes_on (record n { impatient = true }) n.pool) (record { arrivals = is.arrivals; entries = is.entries; waiting = is.waiting; decisions = is.decisions })
    (met-passes_on M (record n { impatient = true }) n.pool (record { arrivals = is.arrivals; entries = is.entries; waiting = is.waiting; decisions = is.decisions }))

met-asks_state : {S : Type 0} (M : Batch → Type 0) (n : Node S) → NodeMet M n → NodeMet M (asks_state n)
unfolding asks_state
met-asks_state M n is = record { arrivals = is.arrivals; entries = is.entries; waiting = is.waiting; decisions = is.decisions }

met-times : {S : Type 0} (M : Batch → Type 0) (n : Node S) → NodeMet M n → NodeMet M (times n)
unfolding times
met-times {S = S} M n is =
    either (λ (x : Node S). NodeMet M x) (lags n) (asks_state n) _ (met-asks_state M n is)
    (either (λ (x : Node S). NodeMet M x) (timing n) (presses n) n (met-presses M n is) is)

-- a member is answered, a plan is made, and a replica is installed

met-holding_all : {S : Type 0} (M : Batch → Type 0) (n : Node S) (to : Target) (ms : List Message) → NodeMet M n → NodeMet M (holding_all n to ms)
met-holding_all M n to [] is = is
met-holding_all M n to (m ∷ ms) is = met-holding_all M (holding n to m) to ms (record { arrivals = is.arrivals; entries = is.entries; waiting = is.waiting; decisions = is.decisions })

met-answers_state : {S : Type 0} (M : Batch → Type 0) (n : Node S) (a : StateAsk) → NodeMet M n → NodeMet M (answers_state n a)
unfolding answers_state offers_state gives_parts
met-answers_state {S = S} M n a is =
    either (λ (x : Node S). NodeMet M x) (a.fetch == 0) (offers_state n a) (gives_parts n a)
    (met-holding_all M n (targets.Node a.member) (changes.StateOffer (offer_for n a.place) ∷ shown_after n a.place) is)
    (met-holding_all M n (targets.Node a.member) (part_messages (firm_at n a.fetch)) is)

met-follow_plan : {S : Type 0} (M : Batch → Type 0) (n : Node S) (plan : Option Plan) → NodeMet M n → NodeMet M (follow_plan n plan)
unfolding follow_plan
met-follow_plan M n None is = is
met-follow_plan M n (Some p) is = record { arrivals = is.arrivals; entries = is.entries; waiting = is.waiting; decisions = is.decisions }

met-plans : {S : Type 0} (M : Batch → Type 0) (n : Node S) → NodeMet M n → NodeMet M (plans n)
unfolding plans
met-plans M n is = met-follow_plan M n (planning n) is

met-install_replica : {S : Type 0} (M : Batch → Type 0) (n : Node S) (f : Fetch) (r : Replica S) → NodeMet M n → NodeMet M (install_replica n f r)
unfolding install_replica
met-install_replica {S = S} M n f r is =
    let x : Node S = record (recording n (installed_by f.plan)) { replica = r; pool = settled r.table n.pool; fetch = None } in
    let next = met-entered M (stays_in_view n x) x (record { arrivals = is.arrivals; entries = each_end (EntryMet M) n.entries (installed_by f.plan) is.entries tt; waiting = is.waiting; decisions = is.decisions }) in
    record { arrivals = next.arrivals; entries = next.entries; waiting = next.waiting; decisions = next.decisions }

met-spoil : {S : Type 0} (M : Batch → Type 0) (n : Node S) (f : Fetch) → NodeMet M n → NodeMet M (spoil n f)
unfolding spoil
met-spoil M n f is = record { arrivals = is.arrivals; entries = is.entries; waiting = is.waiting; decisions = is.decisions }

met-install_by : {S : Type 0} (M : Batch → Type 0) (n : Node S) (f : Fetch) (made : Result (Replica S) Spoiled) → NodeMet M n → NodeMet M (install_by n f made)
met-install_by {S = S} M n f (Ok r) is = either (λ (x : Node S). NodeMet M x) (is_of_group n r) (install_replica n f r) (spoil n f) (met-install_replica M n f r is) (met-spoil M n f is)
met-install_by M n f (Err why) is = met-spoil M n f is

met-install_fetch : {S : Type 0} (M : Batch → Type 0) (m : Meaning S) (n : Node S) (due : Option Fetch) → NodeMet M n → NodeMet M (install_fetch m n due)
unfolding install_fetch
met-install_fetch M m n None is = is
met-install_fetch M m n (Some f) is = met-install_by M n f (finished m f) is

met-installs : {S : Type 0} (M : Batch → Type 0) (m : Meaning S) (n : Node S) → NodeMet M n → NodeMet M (installs m n)
unfolding installs
met-installs M m n is = met-install_fetch M m n (installing n) is

-- a batch is proposed
met-propose_batch : {S : Type 0} (M : Batch → Type 0) (n : Node S) (batch : Option Batch) → NodeMet M n → NodeMet M (propose_batch n batch)
unfolding propose_batch
met-propose_batch M n None is = is
met-propose_batch M n (Some batch) is = record { arrivals = is.arrivals; entries = is.entries; waiting = is.waiting; decisions = is.decisions }

met-proposes : {S : Type 0} (M : Batch → Type 0) (n : Node S) → NodeMet M n → NodeMet M (proposes n)
unfolding proposes
met-proposes M n is = met-propose_batch M n (proposing n) is

-- a batch is written
met-write_batch : {S : Type 0} (M : Batch → Type 0) (n : Node S) (p : Option Proposed) → NodeMet M n → NodeMet M (write_batch n p)
unfolding write_batch
met-write_batch M n None is = is
met-write_batch M n (Some p) is = record { arrivals = is.arrivals; entries = each_end (EntryMet M) n.entries _ is.entries tt; waiting = is.waiting; decisions = is.decisions }

met-writes : {S : Type 0} (M : Batch → Type 0) (n : Node S) → NodeMet M n → NodeMet M (writes n)
unfolding writes
met-writes M n is = met-write_batch M n (writing n) is

-- a mark is made
met-mark : {S : Type 0} (M : Batch → Type 0) (m : Meaning S) (n : Node S) → NodeMet M n → NodeMet M (mark_place m n)
unfolding mark_place
met-mark M m n is = record { arrivals = is.arrivals; entries = each_end (EntryMet M) n.entries (Marked (mark_of m n)) is.entries tt; waiting = is.waiting; decisions = is.decisions }

-- a batch is accepted
met-accept_batch : {S : Type 0} (M : Batch → Type 0) (n : Node S) (o : Option Proposed) → ((p : Proposed) → o ≡ Some p → M p.batch) → NodeMet M n → NodeMet M (accept_batch n o)
unfolding accept_batch
met-accept_batch M n None met is = is
met-accept_batch M n (Some p) met is = record { arrivals = is.arrivals; entries = each_end (EntryMet M) n.entries _ is.entries (met p refl); waiting = is.waiting; decisions = is.decisions }

written_is : {S : Type 0} (n : Node S) (o : Option Proposed) (p : Proposed) → written n o ≡ Some p → o ≡ Some p
written_is n None p is = absurd (cc)
written_is n (Some o) p is = (guard (has_quorum n.arrivals (view_of n) Write (open_slot n) o.head.statement.digest) (Some o) p is).1

accepting-met : {S : Type 0} (M : Batch → Type 0) (n : Node S) → NodeMet M n → (p : Proposed) → accepting n ≡ Some p → M p.batch
unfolding accepting
accepting-met M n is p at =
    let proposal = proposed_for n.arrivals (open_slot n) in
    let parts = guard (is_open n && not (list_any (accepts_in (open_slot n)) n.entries)) (written n (votable n proposal)) p at in
    let v = votable_is n proposal p (written_is n (votable n proposal) p parts.1) in
    each_among (ProposalMet M) n.arrivals (Propose p) is.arrivals (proposed_is n.arrivals (open_slot n) p v.1).there

met-accepts : {S : Type 0} (M : Batch → Type 0) (n : Node S) → NodeMet M n → NodeMet M (accepts n)
unfolding accepts
met-accepts M n is = met-accept_batch M n (accepting n) (accepting-met M n is) is

-- what is known for a place

named-proposed : (M : Batch → Type 0) (number place regency : ℕ) (m : Message) (x : Named) → ProposalMet M m → named_in number place regency m ≡ Some x → M x.batch
named-proposed M number place regency (Propose p) x met at =
    let it : Named = record { digest = p.head.statement.digest; batch = p.batch } in
    let same : it ≡ x = some_equal it x (guard _ (Some it) x at).1 in
    subst (λ (y : Named). M y.batch) same met
named-proposed M number place regency _ x met at = absurd (cc)

named-accepted : (M : Batch → Type 0) (view place : ℕ) (e : LogEntry) (x : Named) (o : Option accept.Accept) → EntryMet M e → accept_for view place e ≡ o
    → option_map (λ (a : accept.Accept). record { digest = a.digest; batch = a.batch }) o ≡ Some x → M x.batch
named-accepted M view place e x None met found at = absurd (cc)
named-accepted M view place e x (Some a) met found at =
    let for_it = accept_for_is view place e a found in
    let own : EntryMet M (Accepted a) = subst (EntryMet M) for_it.entry_is met in
    let it : Named = record { digest = a.digest; batch = a.batch } in
    let same : it ≡ x = some_equal it x at in
    subst (λ (y : Named). M y.batch) same own

known-met : {S : Type 0} (M : Batch → Type 0) (n : Node S) (number place regency : ℕ) → NodeMet M n → Each (λ (x : Named). M x.batch) (known number place regency n.arrivals n.entries)
known-met M n number place regency is =
    each_append (λ (x : Named). M x.batch) (filter_map (named_in number place regency) n.arrivals) (filter_map (named_by number place) n.entries)
    (each_filter_map_in (λ (x : Named). M x.batch) (named_in number place regency) n.arrivals
    (λ m x there at. named-proposed M number place regency m x (each_among (ProposalMet M) n.arrivals m is.arrivals there) at))
    (each_filter_map_in (λ (x : Named). M x.batch) (named_by number place) n.entries
    (λ e x there at. named-accepted M number place e x (accept_for number place e) (each_among (EntryMet M) n.entries e is.entries there) refl at))

-- a batch is decided
met-decide_batch : {S : Type 0} (M : Batch → Type 0) (n : Node S) (o : Option Decision) → ((d : Decision) → o ≡ Some d → M d.batch) → NodeMet M n → NodeMet M (decide_batch n o)
unfolding decide_batch
met-decide_batch M n None met is = is
met-decide_batch M n (Some d) met is = record { arrivals = is.arrivals; entries = each_end (EntryMet M) n.entries (Decided d) is.entries (met d refl); waiting = met d refl; decisions = is.decisions }

deciding-met : {S : Type 0} (M : Batch → Type 0) (n : Node S) → NodeMet M n → (d : Decision) → deciding n ≡ Some d → M d.batch
deciding-met M n is d at =
    let due = due_is n d at in
    ⊎_elim
    (λ (one : FromShown n d). subst (λ (x : Decision). M x.batch) (sym one.decision_is) (each_among (λ (x : ProvenBatch). M x.batch) n.decisions one.shown is.decisions one.there))
    (λ (own : FromVotes n d).
    let named = each_among (λ (x : Named). M x.batch) (known (view_of n).number (next_place n) (regency_of n) n.arrivals n.entries) own.decides.named
    (known-met M n (view_of n).number (next_place n) (regency_of n) is) own.decides.there in
    subst (λ (x : Decision). M x.batch) (sym own.decides.decision_is) named)
    due.how

met-decides : {S : Type 0} (M : Batch → Type 0) (n : Node S) → NodeMet M n → NodeMet M (decides n)
unfolding decides
met-decides M n is = met-decide_batch M n (deciding n) (deciding-met M n is) is

-- each event keeps that
met-rules : {S : Type 0} (M : Batch → Type 0) → KeptByRules (λ (n : Node S). NodeMet M n)
met-rules M = record {
  by_adopts = met-adopts_by M;
  by_joins = met-joins M;
  by_promises = met-promises M;
  by_leads = met-leads M;
  by_proposes = met-proposes M;
  by_writes = met-writes M;
  by_accepts = met-accepts M;
  by_decides = met-decides M;
  by_times = met-times M;
  by_answers = met-answers_again M;
  by_states = met-answers_state M;
  by_plans = met-plans M;
}

met-step : {S : Type 0} (M : Batch → Type 0) (m : Meaning S) (n : Node S) (event : NodeEvent) → ForEvent (ProposalMet M) event → NodeMet M n → NodeMet M (step_of m n event).node
met-step {S = S} M m n event may is =
    keeps_step m (λ (x : Node S). NodeMet M x) (ProposalMet M) n event
    (record {
      by_rules = met-rules M;
      by_noted = met-noted M;
      by_kept = λ n message fine may is. met-kept M n message may is;
      by_installs = met-installs M m;
      by_delivers = met-delivers M m;
      by_marks = λ n waits is delivered. met-mark M m (delivers m n) delivered;
      by_firm = λ x count is. record { arrivals = is.arrivals; entries = is.entries; waiting = is.waiting; decisions = is.decisions };
    }) may is

-- more counts as met

proposal-weaker : (M N : Batch → Type 0) → ((batch : Batch) → M batch → N batch) → (message : Message) → ProposalMet M message → ProposalMet N message
proposal-weaker M N weaker (Propose p) met = weaker p.batch met
proposal-weaker M N weaker (changes.Decision d) met = weaker d.batch met
proposal-weaker M N weaker _ met = tt

pub entry-weaker : (M N : Batch → Type 0) → ((batch : Batch) → M batch → N batch) → (e : LogEntry) → EntryMet M e → EntryMet N e
entry-weaker M N weaker (Opened o) met = tt
entry-weaker M N weaker (Wrote w) met = tt
entry-weaker M N weaker (Accepted a) met = weaker a.batch met
entry-weaker M N weaker (Promised p) met = tt
entry-weaker M N weaker (Synced s) met = tt
entry-weaker M N weaker (Decided d) met = weaker d.batch met
entry-weaker M N weaker (Installed i) met = tt
entry-weaker M N weaker (Marked m) met = tt

met-weaker : {S : Type 0} (M N : Batch → Type 0) → ((batch : Batch) → M batch → N batch) → (n : Node S) → NodeMet M n → NodeMet N n
met-weaker M N weaker n is =
    record {
      arrivals = each-weaken (ProposalMet M) (ProposalMet N) (proposal-weaker M N weaker) n.arrivals is.arrivals;
      entries = each-weaken (EntryMet M) (EntryMet N) (entry-weaker M N weaker) n.entries is.entries;
      waiting = for_batch-weaker M N weaker n.waiting is.waiting;
      decisions = each-weaken (λ (d : ProvenBatch). M d.batch) (λ (d : ProvenBatch). N d.batch) (λ d met. weaker d.batch met) n.decisions is.decisions;
    }

-- a node that goes on after a crash; an opening has no batch
met_reopened : {S : Type 0} (M : Batch → Type 0) (m : Meaning S) (o : Outset S) (entries : List LogEntry) → Each (EntryMet M) entries → NodeMet M (reopened m o entries)
unfolding reopened
met_reopened M m o [] met = record { arrivals = tt; entries = (tt, tt); waiting = tt; decisions = tt }
met_reopened {S = S} M m o (e ∷ es) met = subst (λ (n : Node S). NodeMet M n) (sym (reopened_is m o e es)) (record { arrivals = tt; entries = met; waiting = tt; decisions = tt })

-- each batch at a host was met, of all lives of its member
pub record HostMet {S : Type 0} (M : Batch → Type 0) (h : Host S) : Type 0 where
  pub node : NodeMet M h.node
  pub life : EachLife (EntryMet M) h.life

host-weaker : {S : Type 0} (M N : Batch → Type 0) → ((batch : Batch) → M batch → N batch) → (h : Host S) → HostMet M h → HostMet N h
host-weaker M N weaker h is = record { node = met-weaker M N weaker h.node is.node; life = life-weaker (EntryMet M) (EntryMet N) (entry-weaker M N weaker) h.life is.life }

-- worlds

-- all that is held and sent has a spelling, texts that were met are one where their digests are, and all batches at nodes and all that were
-- chosen were met
pub record Grounded {S : Type 0} (m : Meaning S) (w : World S) : Type 0 where
  pub fit : AllFit m w
  pub texts : TextsExact w.sent w.marked
  pub hosts : Each (HostMet (IsMet w.sent)) w.hosts
  pub chosen : Each (IsMet w.sent) w.chosen

-- so batches that were met are those of the list where their digests are
pub grounded-exact : {S : Type 0} {m : Meaning S} (w : World S) (xs : List Batch) → Grounded m w → Each (IsMet w.sent) xs → Exact digest_of xs w.chosen
grounded-exact w xs is met = met-exact w.sent w.marked xs w.chosen is.fit.sent is.texts met is.chosen

-- and what was sent is read
pub grounded-reads : {S : Type 0} {m : Meaning S} (w : World S) → Grounded m w → ReadsSent w
grounded-reads w is = fit-reads w is.fit

-- the part of it that is not about spelling
record Met {S : Type 0} (w : World S) : Type 0 where
  texts : TextsExact w.sent w.marked
  hosts : Each (HostMet (IsMet w.sent)) w.hosts
  chosen : Each (IsMet w.sent) w.chosen

-- a message leaves
met-posts : {S : Type 0} (w : World S) (s : Sent) → Met w → Met (posts w s)
met-posts {S = S} w s is =
    by-posts (λ (v : World S). Met v) w s
    (λ ending. record { texts = is.texts; hosts = is.hosts; chosen = is.chosen })
    (λ free room. record {
      texts = texts-end w.sent w.marked s free is.texts;
      hosts = each-weaken (HostMet (IsMet w.sent)) (HostMet (IsMet (w.sent ++ s ∷ []))) (host-weaker (IsMet w.sent) (IsMet (w.sent ++ s ∷ [])) (met-grows w.sent s)) w.hosts is.hosts;
      chosen = each-weaken (IsMet w.sent) (IsMet (w.sent ++ s ∷ [])) (met-grows w.sent s) w.chosen is.chosen;
    })

-- the list with the batch that waits at a node
chosen_with-met : (M : Batch → Type 0) (chosen : List Batch) (place : ℕ) (waiting : Option Batch) → Each M chosen → ForBatch waiting M → Each M (chosen_with chosen place waiting)
chosen_with-met M chosen place None each met = each
chosen_with-met M chosen place (Some batch) each met =
    either (λ (bs : List Batch). Each M bs) (place == length chosen + 1) (chosen ++ batch ∷ []) chosen (each_end M chosen batch each met) each

-- a host's node takes an event
met-after : {S : Type 0} (M : Batch → Type 0) (m : Meaning S) (h : Host S) (o : Outcome S) → NodeMet M o.node → HostMet M h → HostMet M (host_after (course_of m) h o)
met-after M m h o met is = record { node = record { arrivals = met.arrivals; entries = met.entries; waiting = met.waiting; decisions = met.decisions }; life = life-firm (EntryMet M) h.life h.node o.node met.entries is.life }

met-stepped : {S : Type 0} (m : Meaning S) (w : World S) (i : ℕ) (h : Host S) (o : Outcome S) → slice_get w.hosts i ≡ Some h → NodeMet (IsMet w.sent) o.node → Met w → Met (stepped (course_of m) w i h o)
unfolding stepped
met-stepped {S = S} m w i h o at met is =
    let M : Batch → Type 0 = IsMet w.sent in
    keeps-sends_all Met h.node.id (view_of o.node) (λ v held met. met-posts v (from_node v h.node.id (view_of o.node) held) met) _ (leaving o.node.firm o.node.held)
    (record {
      texts = texts-marked w.sent w.marked (flat_map snapshot_in o.fired) is.texts;
      hosts = each_set (HostMet M) w.hosts i (host_after (course_of m) h o) is.hosts (met-after M m h o met (each_get (HostMet M) w.hosts i h is.hosts at));
      chosen = chosen_with-met M w.chosen (next_place o.node) o.node.waiting is.chosen met.waiting;
    })

-- a message that was sent
has-met : (sent : List Sent) (p : Proposed) → HasMessage sent (Propose p) → IsMet sent p.batch
has-met [] p has = absurd has
has-met (s ∷ sent) p has =
    elim has [
      | inl here ↦ has-left (batches s.content) (batches_met sent) p.batch (subst (λ (y : Content). HasBatch (batches y) p.batch) (sym here) (inl refl))
      | inr later ↦ has-right (batches s.content) (batches_met sent) p.batch (has-met sent p later)
    ]

shown-met : (sent : List Sent) (d : ProvenBatch) → HasMessage sent (changes.Decision d) → IsMet sent d.batch
shown-met [] d has = absurd has
shown-met (s ∷ sent) d has =
    elim has [
      | inl here ↦ has-left (batches s.content) (batches_met sent) d.batch (subst (λ (y : Content). HasBatch (batches y) d.batch) (sym here) (inl refl))
      | inr later ↦ has-right (batches s.content) (batches_met sent) d.batch (shown-met sent d later)
    ]

message-met : (sent : List Sent) (message : Message) → HasMessage sent message → ProposalMet (IsMet sent) message
message-met sent (Propose p) has = has-met sent p has
message-met sent (changes.Decision d) has = shown-met sent d has
message-met sent _ has = tt

-- what may come
event-met : {S : Type 0} (w : World S) (h : Host S) (event : NodeEvent) → MayRead w h event → ForEvent (ProposalMet (IsMet w.sent)) event
event-met w h (Arrive bytes) may = comes-as w.sent bytes (ForRead (ProposalMet (IsMet w.sent))) (message-met w.sent) (λ at. tt) may
event-met w h Tick may = tt
event-met w h Deliver may = tt
event-met w h (Firm count) may = tt

-- what a node has then
pub step-met : {S : Type 0} (m : Meaning S) (w : World S) (i : ℕ) (h : Host S) (event : NodeEvent) → slice_get w.hosts i ≡ Some h → MayRead w h event → Grounded m w → NodeMet (IsMet w.sent) (step_of m h.node event).node
step-met m w i h event at may is = met-step (IsMet w.sent) m h.node event (event-met w h event may) (each_get (HostMet (IsMet w.sent)) w.hosts i h is.hosts at).node

part : {S : Type 0} {m : Meaning S} (w : World S) → Grounded m w → Met w
part w is = record { texts = is.texts; hosts = is.hosts; chosen = is.chosen }

whole : {S : Type 0} {m : Meaning S} (w : World S) → AllFit m w → Met w → Grounded m w
whole w fit is = record { fit = fit; texts = is.texts; hosts = is.hosts; chosen = is.chosen }

-- another host stands at an index
met-set : {S : Type 0} {m : Meaning S} (w : World S) (i : ℕ) (h : Host S) → AllFit m (with_host w i h) → HostMet (IsMet w.sent) h → Grounded m w → Grounded m (with_host w i h)
met-set w i h fit met is = record { fit = fit; texts = is.texts; hosts = each_set (HostMet (IsMet w.sent)) w.hosts i h is.hosts met; chosen = is.chosen }

-- a node goes on over the cut of its member's diary
pub grounded-resumes : {S : Type 0} (m : Meaning S) → IsBrief m → (w : World S) (i : ℕ) (h : Host S) (stated : List Statement) (place : ℕ) (checkpoint : Option OwnSnapshot) → slice_get w.hosts i ≡ Some h
    → AreRestorable m w.view w.chosen → w.period < 2 ^ 32 → node_resumed (course_of m) w h ≡ node_behind m group_secret h.node.id w.view w.period place w.chosen checkpoint h.life.diary
    → GoesBehind group_secret stated w.view place w.chosen h.life.diary → (place ≡ 0 → checkpoint ≡ None) → IfSome checkpoint FitsSnapshot → Grounded m w
    → Grounded m (with_host w i (host_resumed h (node_resumed (course_of m) w h)))
grounded-resumes {S = S} m brief w i h stated place checkpoint at may low same goes none own is =
    let met : HostMet (IsMet w.sent) h = each_get (HostMet (IsMet w.sent)) w.hosts i h is.hosts at in
    let node : NodeMet (IsMet w.sent) (node_resumed (course_of m) w h) =
    subst (λ (n : Node S). NodeMet (IsMet w.sent) n) (sym same)
    (met_reopened (IsMet w.sent) m (outset_behind m group_secret h.node.id w.view w.period place w.chosen checkpoint) (cut_at place h.life.diary) (cut_each (EntryMet (IsMet w.sent)) place h.life.diary met.life.diary)) in
    met-set w i (host_resumed h (node_resumed (course_of m) w h)) (fit-resumes m brief w i h stated place checkpoint at may low same goes none own is.fit) (record { node = node; life = met.life }) is

-- a node takes an event, if what it may take over is small
pub grounded-event : {S : Type 0} (m : Meaning S) → IsBrief m → (w : World S) (i : ℕ) (h : Host S) (event : NodeEvent) → slice_get w.hosts i ≡ Some h → MayCome w h event → Settles m (takes_in h.node event).node → Grounded m w
    → Grounded m (stepped (course_of m) w i h (step_of m h.node event))
grounded-event m brief w i h event at may settles is =
    whole (stepped (course_of m) w i h (step_of m h.node event)) (fit-event m brief w i h event at may settles is.fit)
    (met-stepped m w i h (step_of m h.node event) at
    (met-step (IsMet w.sent) m h.node event (event-met w h event (may_read w h event (grounded-reads w is) may))
    (each_get (HostMet (IsMet w.sent)) w.hosts i h is.hosts at).node) (part w is))

-- each other event keeps that
pub keeps-grounded : {S : Type 0} (m : Meaning S) → KeepsBut (course_of m) (Grounded m)
unfolding hearing
keeps-grounded {S = S} m =
    let k : KeepsBut (course_of m) (AllFit m) = keeps-fit m in
    record {
      disk = λ w i h up at is.
          let met : HostMet (IsMet w.sent) h = each_get (HostMet (IsMet w.sent)) w.hosts i h is.hosts at in
          met-set w i (after_call (course_of m) h) (k.disk w i h up at is.fit)
          (record { node = met.node; life = life-called (EntryMet (IsMet w.sent)) h.life (store_after h) met.life }) is;
      crash = λ w i h left up at may is.
          let met : HostMet (IsMet w.sent) h = each_get (HostMet (IsMet w.sent)) w.hosts i h is.hosts at in
          met-set w i (host_crashed (course_of m) h left) (k.crash w i h left up at may is.fit)
          (record { node = met.node; life = life-crashed (EntryMet (IsMet w.sent)) h left met.node.entries met.life }) is;
      hear = λ w i c x a on at has read is. record { fit = k.hear w i c x a on at has read is.fit; texts = is.texts; hosts = is.hosts; chosen = is.chosen };
      ask = λ w i c op at free few short is.
          whole (posts (asked_by w i c op) (from_client c (ask_of c op))) (k.ask w i c op at free few short is.fit)
          (met-posts (asked_by w i c op) (from_client c (ask_of c op)) (record { texts = is.texts; hosts = is.hosts; chosen = is.chosen }));
      again = λ w i c q at waits is.
          whole (posts w (from_client c (signed_by c q))) (k.again w i c q at waits is.fit) (met-posts w (from_client c (signed_by c q)) (part w is));
      learn = λ w i j c d at other is. record { fit = k.learn w i j c d at other is.fit; texts = is.texts; hosts = is.hosts; chosen = is.chosen };
      inject = λ w x read fine is. whole (posts w (from_script x)) (k.inject w x read fine is.fit) (met-posts w (from_script x) (part w is));
      declare = λ w faulty rogue ending how is. record { fit = k.declare w faulty rogue ending how is.fit; texts = is.texts; hosts = is.hosts; chosen = is.chosen };
      same = λ w mark told is. record { fit = k.same w mark told is.fit; texts = is.texts; hosts = is.hosts; chosen = is.chosen };
      meet = λ w texts on is. record { fit = k.meet w texts on is.fit; texts = texts-marked w.sent w.marked texts is.texts; hosts = is.hosts; chosen = is.chosen };
    }

-- the beginning

hosts_met : {S : Type 0} (M : Batch → Type 0) (m : Meaning S) (view : View) (period : ℕ) (ids : List ℕ) → Each (HostMet M) (hosts_from m view period ids)
hosts_met M m view period [] = tt
hosts_met M m view period (id ∷ ids) = (record { node = record { arrivals = tt; entries = (tt, tt); waiting = tt; decisions = tt }; life = record { diary = tt; aside = tt } }, hosts_met M m view period ids)

pub grounded-begun : {S : Type 0} (m : Meaning S) (g : Header) → IsHeader g → Grounded m (begun m g)
grounded-begun m g is =
    record { fit = fit-begun m g is; texts = record { same = λ a b ma mb same. absurd ma }; hosts = hosts_met (IsMet []) m g.view g.period g.view.members; chosen = tt }

-- a new node is added
pub grounded-added : {S : Type 0} (m : Meaning S) (w : World S) (i member : ℕ) → is_view w.view ≡ true → w.period < 2 ^ 32 → IsNew w member → Grounded m w → Grounded m (added (course_of m) w i member)
grounded-added m w i member viewed low new is = record {
  fit = fit-added m w i member viewed low new is.fit;
  texts = is.texts;
  hosts = each_insert (HostMet (IsMet w.sent)) w.hosts i (new_host m w member) is.hosts (hosts_met (IsMet w.sent) m w.view w.period (member ∷ [])).0;
  chosen = is.chosen;
}
