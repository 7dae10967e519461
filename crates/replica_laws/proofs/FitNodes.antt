-- What a node holds and sends has a spelling, and bears its signers' tags: rule by rule.
use Rattle.std.proofs.Common.{◌≡◌, ◌⊎◌, inl, inr, ⊎_elim, ℕ, zero, suc, ◌+◌, ◌^◌, ◌<◌, ◌≤◌, ◌++◌, ◌==◌, ◌&&◌, ◌||◌, max, Bool, true, false, not, List, [], ◌∷◌, length, length-append, append-nil, refl, ap, sym, ◌∙◌, subst, cond, Option, Some, None, is_some, is_none, nat_lt, nat_le, filter, take, arith, Result, Ok, Err, ◌-◌, append_assoc, get_or, length-drop}
use Rattle.std.proofs.lemmas.Bool.{ltb-true, leb-true, and_from}
use Rattle.std.specs.Prelude.{IfSome, option_map, find, map}
use Rattle.std.specs.List.{list_any, list_all, filter_map, cons_option, AllByRecursion}
use Rattle.std.specs.Option.{option_to_list}
use Rattle.smart_base.specs.Lists.{Each, or_else, same_bytes}
use Rattle.smart_base.specs.Spelling.{IsCount, IsPayload, u32, u64, u8}
use Rattle.smart_base.specs.Views.{View, is_view, is_member, leader, present, quorum, first_quorum}
use Rattle.smart_base.proofs.ViewLaws.{members-few}
use Rattle.smart_view.specs.Sizes.{collect_size}
use Rattle.smart_statements.specs.Equality.{same_slot, same_kind}
use Rattle.smart_statements.specs.Forms.{SignedBy}
use Rattle.smart_statements.specs.Kinds.{requests, ballots, proposals}
use Rattle.smart_statements.specs.Batches.{Batch, batch_text, FitsBatch}
use Rattle.smart_statements.specs.Spelling as spells
use Rattle.smart_statements.specs.Spelling.{FitsSlot, FitsBallot, FitsRequest, IsSigner, FitsSigned}
use Rattle.smart_statements.specs.SignedLists.{optional, FitsOptional}
use Rattle.smart_statements.specs.Reports.{reports, marks, votes_of, FitsVote, FitsMark, FitsReport}
use Rattle.smart_messages.specs.Regencies.{stops, syncs, view_infos, FitsSync}
use Rattle.smart_messages.specs.Messages.{spelling, kind, Fits, decoded}
use Rattle.smart_messages.proofs.Messages.{decoded_is}
use Rattle.smart_base.specs.Cuts.{IsBytes}
use Rattle.node_rules.specs.Kept.{node_after}
use Rattle.smart_statements.specs.declared.statement.Request.{Request}
use Rattle.smart_statements.specs.declared.statement.Slot.{Slot}
use Rattle.smart_statements.specs.declared.statement.Ballot.{Ballot}
use Rattle.smart_statements.specs.declared.statement.VoteKind.{VoteKind}
use Rattle.smart_statements.specs.declared.statement.VoteKind.TheVariants.{Write, Accept}
use Rattle.smart_statements.specs.declared.report.LockCertificate.{LockCertificate}
use Rattle.smart_statements.specs.declared.report.Report.{Report}
use Rattle.smart_messages.specs.declared.regency.Sync.{Sync}
use Rattle.smart_messages.specs.declared.regency.Reported.{Reported}
use Rattle.smart_messages.specs.declared.message.Message.TheVariants as changes
use Rattle.smart_messages.specs.declared.message.Message.{Message}
use Rattle.smart_messages.specs.declared.message.Message.TheVariants.{Ask, Propose, Vote}
use Rattle.smart_messages.specs.declared.message.Proposed.{Proposed}
use Rattle.smart_statements.specs.declared.entry.NodeEvent.{NodeEvent}
use Rattle.smart_statements.specs.declared.entry.NodeEvent.TheVariants.{Arrive, Tick, Deliver, Firm}
use Rattle.smart_service.specs.Services.{Meaning, Comes, comes_first, comes_next}
use Rattle.smart_service.specs.Tables.{kept_in}
use Rattle.smart_service.specs.declared.table.Execution.{Execution}
use Rattle.smart_service.specs.declared.replica.Replica.{Replica}
use Rattle.vote_book.specs.Books.{Among, HasMade, place_made, last_made, number_or}
use Rattle.vote_book.specs.BookReports.{last_maker, evidence_of, accept_for, greatest_accept, lock_of, certificate_of}
use Rattle.vote_book.proofs.Locks.{maker_is, no_maker}
use Rattle.vote_book.specs.declared.entry.Accept as accept
use Rattle.vote_book.specs.declared.entry.Decision.{Decision}
use Rattle.vote_book.specs.declared.entry.LogEntry.{LogEntry}
use Rattle.vote_book.specs.declared.entry.LogEntry.TheVariants as entries
use Rattle.regency_sync.specs.Synchronizers.{Synchronizer, needs_report, is_lock_of, bears, batch_in, batch_of as bound_batch, has_next, is_joining, is_promising, is_report, first_report, is_collecting, collect, collecting}
use Rattle.replica_rules.specs.Seals.{is_verified, signed, digest_of, is_managers, request_fits}
use Rattle.replica_rules.specs.Replicas.{is_next, line_of, execute, line_made, lines_of, at_next, delivered, executed_lines}
use Rattle.node_rules.specs.Votes.{is_vote, has_vote, certificate, Named, vote_for, first_vote, certificate_votes, proposed_in, proposed_for, named_in, named_by, known, decision_by, accepted_under}
use Rattle.replica_rules.specs.Pools.{offered, settled, is_within as is_within_limits, filled, batch_of, gathered}
use Rattle.node_rules.specs.Rules.{reply_of, replying, lines_to_answer, deliver_batch, delivers, batch_under, proposing, propose_batch, proposes, ballot, votable, writing, write_batch, writes, written, accepting, accept_batch, accepts, slot_in, decision_in, decision_ahead, deciding, decide_batch, decides, replies_with, answering, answer_line, answers_again, decision_shown, first_votes, has_signed, shown_next}
use Rattle.node_rules.specs.Nodes.{Node, view_of, regency_of, regency_in, greatest_regency, start_of, next_place, open_slot, is_free, is_open, bound_at, synchronizer_of, holding, recording, decided_place, holding_all, entered, enters, stays_in_view, telling, view_told}
use Rattle.node_rules.specs.Arrivals.{signer_why, view_why, regency_why, bears_lock, is_batch_for, is_proven, why_report, why_dropped, kept, noted, is_proven_batch, regency_by, why_decision, why_mark, why_vote}
use Rattle.node_rules.specs.Changes.{start_by_sync, promised_for, adopts_by, is_adoptable, adoption, adopts, stop_for, asks_next, joining, joins, report_of, reported_by, next_promise, promising, promise_next, promises, leading, lead_with, leads, is_pressed, timing, passes_on, presses, times, asks_state, lags, state_ask}
use Rattle.node_rules.specs.Steps.{step_of, takes_in, released, opened, outset}
use Rattle.node_rules.specs.declared.node.Why.TheVariants.{NotLeader, BadProof, BadTag, FarPlace, InvalidBatch, OldPlace}
use Rattle.node_rules.specs.Marks.{mark_of, mark_place, firm_at, is_firm_snapshot, is_own_turn, last_taken, newest_firm, own_snapshot, own_snapshots, snapshots_due}
use Rattle.node_rules.specs.declared.node.Held.{Held}
use Rattle.node_rules.specs.declared.node.OwnSnapshot.{OwnSnapshot}
use Rattle.node_rules.specs.declared.node.Target.{Target}
use Rattle.node_rules.specs.declared.node.Target.TheVariants as targets
use Rattle.replica_laws.proofs.Lists.{each_given, if_weaker, if_or, if_cond, if_map, if_find, if_found, third-none}
use Rattle.replica_laws.proofs.Entered.{IsQuiet, quiet-wrote, quiet-accepted, quiet-decided, quiet-installed, quiet-marked}
use Rattle.replica_laws.proofs.Checked.{for_batch-weaker, for_batch-or, each_offered, verified_where_signed, valid_where_kept, fits_where_valid, fits_each, greater-if, votable-if, written-if}
use Rattle.certificates.specs.Collects.{evidence_holds, has_no_false_lock}
use Rattle.replica_laws.proofs.Collected.{report-short}
use Rattle.replica_laws.proofs.Genuine.{IsGood, good-genuine, AreVerified, FitVotes, FitEvidence, FitLock, FitReport, FitsSome, FitsCollected, digest_of-length, ask-good, vote-good, reply-good, told-good, mark-good, propose-good, stop-good, report-good, sync-good, single-fits, single-verified, longer-fits, longer-verified, FitMarks, ask_state-good, decision-good, offer-good, part-good, signed-fits, signed-verified}
use Rattle.replica_laws.proofs.Again.{ForLine, answering-each, each-delivered}
use Rattle.replica_laws.proofs.Replying.{place-delivers}
use Rattle.smart_keys.proofs.Digests.{digest-length}
use Rattle.snapshot_form.specs.Snapshots.{snapshot_text, pieces}
use Rattle.node_rules.proofs.Rulewise.{KeptByRules, ForRead, ForEvent, by_mark, keeps_from, takes_in_as, why-noted}
use Rattle.kept_arrivals.proofs.Transfers.{installing_ready}
use Rattle.replica_laws.proofs.Parts.{ArePartsBytes, IsBytesIn, parts-step, parts-takes_in}
use Rattle.replica_laws.specs.Sending.{IsTerse, ForBatch, IsByteEvent, HoldsGenuine, IsGenuine}
use Rattle.agreement_laws.proofs.Lists.{each_take, either, either_by, each_end, each_append, not_false, some_equal}
use Rattle.smart_base.proofs.SameLists.{and_true}
use Rattle.smart_base.proofs.ViewFacts.{each-weaken}
use Rattle.regency_sync.proofs.Lists.{each_filter}
use Rattle.node_laws.proofs.Certified.{same_kind_is}
use Rattle.node_laws.proofs.Passes.{each_staying}
use Rattle.node_laws.proofs.Books.{greatest_push}
use Rattle.node_laws.proofs.Arriving.{ask_tagged, proven_is}
use Rattle.replica_rules.proofs.Managed.{AtMostOne, delivered_one, fits_alone}
use Rattle.replica_rules.proofs.Places.{place_execute}
use Rattle.replica_rules.proofs.Coming.{valid_delivered}
use Rattle.node_rules.proofs.Options.{else_none, no_reason}
use Rattle.node_rules.specs.declared.node.Asked.{Asked}
use Rattle.node_laws.proofs.Installing.{IsReady, each_drop, installing_is}
use Rattle.node_laws.proofs.Planning.{IsTakenFrom, all_each_mark, finished_from, plan_each, plan_few}
use Rattle.node_rules.specs.Transfers.{answers_state, decided_at, decides_at, follow_plan, gives_parts, go_on, install_by, install_fetch, install_replica, installed_by, installing, installs, is_of_group, is_other_offer, is_shown_place, last_few, made_of, mark_made, marks_past, offer_for, offers_state, part_messages, place_of_snapshot, places_after, planning, plans, shown_after, shown_as, shown_at, size_of_snapshot, spoil}
use Rattle.replica_laws.proofs.Small.{IsBrief, IsSmall, IsSmallLine, each_kept, present_end, present_low, restored_text, short_small, small-delivered, small-execute, small-next, small-reply, small-restored}
use Rattle.smart_base.specs.Bytes.{bytes-after}
use Rattle.smart_service.specs.declared.table.TableLine.{TableLine}
use Rattle.smart_statements.specs.ReportLaws.{mark_small}
use Rattle.smart_statements.specs.declared.report.Mark.{Mark}
use Rattle.snapshot_form.specs.Replicas.{IsOfClients}
use Rattle.state_transfer.proofs.Certificates.{rests_on_marks}
use Rattle.state_transfer.proofs.Joined.{piece_short}
use Rattle.state_transfer.specs.Fetches.{are_all_there, bytes_in, finished, is_numbered, joined, joined_of, kept_unless, part_at, pieces_of}
use Rattle.state_marks.specs.Tables as tables_of_marks
use Rattle.state_transfer.specs.Plans.{all_marks, planned, verified_offer}
use Rattle.state_transfer.specs.Seeds.{seed, seeds, seeds_to}
use Rattle.state_transfer.specs.declared.choice.NotYet.{NotYet}
use Rattle.state_transfer.specs.declared.choice.Plan.{Plan}
use Rattle.state_transfer.specs.declared.fetch.Fetch.{Fetch}
use Rattle.state_transfer.specs.declared.fetch.Spoiled.{Spoiled}
use Rattle.std.proofs.lemmas.List.{get_or_past, length-map, map-append}
use Rattle.transfer_form.specs.Transfers.{FitsProven, IsMember, part_text}
use Rattle.transfer_form.specs.declared.transfer.ProvenBatch.{ProvenBatch}
use Rattle.transfer_form.specs.declared.transfer.StateAsk.{StateAsk}
use Rattle.transfer_form.specs.declared.transfer.StateOffer.{StateOffer}
use Rattle.transfer_form.specs.declared.transfer.StatePart.{StatePart}
use Rattle.vote_book.specs.declared.entry.Installation.{Installation}

-- ---- what has a spelling

-- a batch that may be sent: it has a spelling, and each request in it its client's tag
abbrev pub FitsSending : List ℕ → Batch → Type 0
FitsSending secret batch = FitsBatch batch × AreVerified secret batch

-- a batch that was sent: it has a spelling, of clients that there are, and each request in it its client's tag
abbrev pub FitsKnown : List ℕ → Batch → Type 0
FitsKnown secret batch = IsOfClients batch × AreVerified secret batch

-- a vote with its member's tag
abbrev pub FitsCast : List ℕ → SignedBy Ballot → Type 0
FitsCast secret b = FitsSigned ballots (λ signer. FitsBallot) b × (is_verified ballots secret b ≡ true)

-- a proposal that was kept: its digest has its length, and its batch may be delivered. A vote that was kept
abbrev pub FitsArrival : List ℕ → Message → Type 0
FitsArrival secret (Propose p) = FitsKnown secret p.batch × (length p.head.statement.digest ≡ 32)
FitsArrival secret (Vote b) = FitsCast secret b
FitsArrival secret _ = Unit {0}

-- a batch that has a spelling, at a place that has one
abbrev pub FitsAt : ℕ → Batch → Type 0
FitsAt place batch = FitsBatch batch × (place < 2 ^ 63)

-- a batch that may be delivered at a place
abbrev pub FitsWaiting : ℕ → Batch → Type 0
FitsWaiting place batch = IsOfClients batch × (place < 2 ^ 63)

-- a request of the pool has a spelling, and its client's tag
pub record FitsPool (secret : List ℕ) (q : SignedBy Request) : Type 0 where
  pub fits : FitsSigned requests FitsRequest q
  pub tagged : is_verified requests secret q ≡ true

-- a batch that may be proposed at a place
abbrev pub FitsProposed : List ℕ → ℕ → Batch → Type 0
FitsProposed secret place batch = FitsAt place batch × AreVerified secret batch

-- a line of the table that a reply can state
pub record FitsLine (line : Execution) : Type 0 where
  pub view : line.view < 2 ^ 32
  pub place : IsCount line.place
  pub index : line.index < 2 ^ 16
  pub client : line.client < 2 ^ 16
  pub seq : IsCount line.seq
  pub reply : IsPayload line.reply

-- an accept that a report can state as its lock
pub record FitsAccept (secret : List ℕ) (a : accept.Accept) : Type 0 where
  pub regency_fits : a.slot.regency < 2 ^ 32
  pub digest_fits : length a.digest ≡ 32
  pub writes_fit : FitVotes Write a.writes
  pub batch_fits : FitsKnown secret a.batch

-- a decision that a report can state as its evidence, and that may be shown
pub record FitsDecision (secret : List ℕ) (d : Decision) : Type 0 where
  pub view_fits : d.slot.view < 2 ^ 32
  pub place_fits : IsCount d.slot.place
  pub regency_fits : d.slot.regency < 2 ^ 32
  pub accepts_fit : FitVotes Accept d.accepts
  pub voted : Each (λ b. is_verified ballots secret b ≡ true) d.accepts
  pub batch_fits : FitsKnown secret d.batch

-- an installation that a report can state as its evidence
pub record FitsInstalled (i : Installation) : Type 0 where
  pub place_fits : IsCount i.place
  pub digest_fits : length i.digest ≡ 32
  pub view_fits : i.view < 2 ^ 32
  pub marks_fit : FitMarks 31 i.marks

abbrev pub FitsEntry : List ℕ → LogEntry → Type 0
FitsEntry secret (entries.Opened o) = Unit {0}
FitsEntry secret (entries.Wrote w) = Unit {0}
FitsEntry secret (entries.Accepted a) = FitsAccept secret a
FitsEntry secret (entries.Promised p) = Unit {0}
FitsEntry secret (entries.Synced s) = Unit {0}
FitsEntry secret (entries.Decided d) = FitsDecision secret d
FitsEntry secret (entries.Installed i) = FitsInstalled i
FitsEntry secret (entries.Marked m) = FitsMark m

-- the batch that comes with a lock may be sent
abbrev pub FitsLocked : List ℕ → Option LockCertificate → Option Batch → Type 0
FitsLocked secret None batch = Unit {0}
FitsLocked secret (Some lock) batch = ForBatch batch (FitsSending secret)

-- a report that was kept
pub record FitsReported (secret : List ℕ) (r : Reported) : Type 0 where
  pub head_fits : FitsCollected secret r.head
  pub locked : FitsLocked secret r.head.statement.lock r.batch

-- a beginning of a regency that was kept
abbrev pub FitsBegun : SignedBy Sync → Type 0
FitsBegun s = FitsSync s.statement

-- ---- what is taken over

-- an own snapshot that may be offered, and given in parts
pub record FitsSnapshot (s : OwnSnapshot) : Type 0 where
  pub place_fits : IsCount s.place
  pub short : length s.snapshot ≤ 16777216

-- a mark with its member's tag
abbrev pub FitsStated : List ℕ → SignedBy Mark → Type 0
FitsStated secret k = FitsSigned marks (λ signer. FitsMark) k × (is_verified marks secret k ≡ true)

-- a decided batch that others showed
pub record FitsShown (secret : List ℕ) (d : ProvenBatch) : Type 0 where
  pub place_fits : IsCount d.place
  pub batch_fits : FitsKnown secret d.batch
  pub accepts_fit : Each (FitsSigned (votes_of Accept) (λ signer. FitsVote Accept)) d.accepts
  pub voted : Each (λ b. is_verified ballots secret b ≡ true) d.accepts

-- a plan that may be recorded
pub record FitsPlan (p : Plan) : Type 0 where
  pub place_fits : IsCount p.place
  pub digest_fits : length p.digest ≡ 32
  pub view_fits : p.view < 2 ^ 32
  pub marks_fit : FitMarks 31 p.marks

-- a plan that may be recorded, whatever its parts are
pub record FitsFetch (f : Fetch) : Type 0 where
  pub plan_fits : FitsPlan f.plan

-- a replica that may be delivered to and given on, and what is taken over from others
pub record FitsTransfers {S : Type 0} (m : Meaning S) (secret : List ℕ) (r : Replica S) (own : List OwnSnapshot) (shown : List ProvenBatch) (offers : List StateOffer) (table : List (SignedBy Mark))
    (fetch : Option Fetch) : Type 0 where
  pub small : IsSmall m r
  pub owned : Each FitsSnapshot own
  pub shown_fit : Each (FitsShown secret) shown
  pub offers_fit : Each (λ (o : StateOffer). Each (FitsStated secret) o.marks) offers
  pub table_fits : Each (FitsStated secret) table
  pub fetch_fits : IfSome fetch FitsFetch

-- all that a node holds has a spelling, and what it sends
pub record FitNode {S : Type 0} (m : Meaning S) (secret : List ℕ) (n : Node S) : Type 0 where
  pub named : IsSigner 1 n.id
  pub shared : n.secret ≡ secret
  pub view : is_view (view_of n) ≡ true
  pub views : Each (λ v. is_view v ≡ true) n.replica.views
  pub regency : (view : ℕ) → greatest_regency view n.entries < 2 ^ 32
  pub lines : Each FitsLine (kept_in n.replica.table)
  pub pool : Each (FitsPool secret) n.pool
  pub arrivals : Each (FitsArrival secret) n.arrivals
  pub told : Each (FitsReported secret) n.reports
  pub begun : Each FitsBegun n.syncs
  pub book : Each (FitsEntry secret) n.entries
  pub waiting : ForBatch n.waiting (FitsWaiting (next_place n))
  pub held : Each (λ h. IsGood secret h.message) n.held
  pub service : Comes m n.replica.service
  pub transfers : FitsTransfers m secret n.replica (own_snapshots n) n.decisions n.offers n.marks n.fetch

-- a view's number
pub view-low : (v : View) → is_view v ≡ true → v.number < 2 ^ 32
unfolding is_view
view-low v is =
    let a = and_true _ _ is in
    let b = and_true _ _ a.0 in
    let c = and_true _ _ b.0 in
    let d = and_true _ _ c.0 in
    let e = and_true _ _ d.0 in
    let f = and_true _ _ e.0 in
    let low = leb-true v.number 1023 f.0 in
    omega (arith, low)

-- the regency in force
pub force-low : {S : Type 0} {m : Meaning S} (secret : List ℕ) (n : Node S) → FitNode m secret n → regency_of n < 2 ^ 32
unfolding regency_of
force-low secret n is = is.regency (view_of n).number

-- ---- messages that wait to leave, and entries

-- a node that differs in what has no spelling
pub fit-as : {S : Type 0} {m : Meaning S} (secret : List ℕ) (n : Node S) (firm : ℕ) (slots : List Slot) (stopped led pressed told : Bool) → FitNode m secret n
    → FitNode m secret (record n { firm = firm; proposed = slots; stop_made = stopped; sync_made = led; impatient = pressed; behind = told })
unfolding regency_of
fit-as secret n firm slots stopped led pressed told is =
    record {
      named = is.named;
      shared = is.shared;
      view = is.view;
      views = is.views;
      regency = is.regency;
      lines = is.lines;
      pool = is.pool;
      arrivals = is.arrivals;
      told = is.told;
      begun = is.begun;
      book = is.book;
      waiting = is.waiting;
      held = is.held;
      service = is.service;
      transfers = is.transfers;
    }

-- a message waits to leave
fit-holding : {S : Type 0} {m : Meaning S} (secret : List ℕ) (n : Node S) (to : Target) (message : Message) → IsGood secret message → FitNode m secret n → FitNode m secret (holding n to message)
unfolding regency_of
fit-holding secret n to message good is =
    record {
      named = is.named;
      shared = is.shared;
      view = is.view;
      views = is.views;
      regency = is.regency;
      lines = is.lines;
      pool = is.pool;
      arrivals = is.arrivals;
      told = is.told;
      begun = is.begun;
      book = is.book;
      waiting = is.waiting;
      held = each_end (λ (h : Held). IsGood secret h.message) n.held _ is.held good;
      service = is.service;
      transfers = is.transfers;
    }

-- entries are recorded
fit-book : {S : Type 0} {m : Meaning S} (secret : List ℕ) (n : Node S) (more : List LogEntry) → ((view : ℕ) → greatest_regency view (n.entries ++ more) < 2 ^ 32) → Each (FitsEntry secret) more → FitNode m secret n
    → FitNode m secret (record n { entries = n.entries ++ more })
fit-book secret n more regency fit is =
    record {
      named = is.named;
      shared = is.shared;
      view = is.view;
      views = is.views;
      regency = regency;
      lines = is.lines;
      pool = is.pool;
      arrivals = is.arrivals;
      told = is.told;
      begun = is.begun;
      book = each_append (FitsEntry secret) n.entries more is.book fit;
      waiting = is.waiting;
      held = is.held;
      service = is.service;
      transfers = is.transfers;
    }

fit-recording : {S : Type 0} {m : Meaning S} (secret : List ℕ) (n : Node S) (e : LogEntry) → IsQuiet e → FitsEntry secret e → FitNode m secret n → FitNode m secret (recording n e)
fit-recording secret n e quiet fit is = fit-book secret n (e ∷ []) (λ view. let low = is.regency view in let grown = greatest_push view n.entries e in let none = quiet.no_promise view in omega (arith, grown, none, low)) (fit, tt) is

-- a reply has a spelling
line-good : (secret own : List ℕ) (id : ℕ) (line : Execution) → own ≡ secret → IsSigner 1 id → FitsLine line → IsGood secret (reply_of own id line)
line-good secret own id line shared named fit =
    subst (λ (s : List ℕ). IsGood secret (reply_of s id line)) (sym shared)
    (reply-good secret id (record { view = line.view; place = line.place; index = line.index; client = line.client; seq = line.seq; reply = line.reply }) named
    (record { view_fits = fit.view; place_fits = fit.place; index_fits = fit.index; client_fits = fit.client; seq_fits = fit.seq; reply_fits = fit.reply }))

-- replies wait to leave
fit-replying : {S : Type 0} {m : Meaning S} (secret : List ℕ) (n : Node S) (lines : List Execution) → Each FitsLine lines → FitNode m secret n → FitNode m secret (replying n lines)
fit-replying secret n [] each is = is
fit-replying secret n (l ∷ ls) each is =
    fit-replying secret (holding n (targets.Client l.client) (reply_of n.secret n.id l)) ls each.1
    (fit-holding secret n (targets.Client l.client) (reply_of n.secret n.id l) (line-good secret n.secret n.id l is.shared is.named each.0) is)

-- a view that is told
fit-telling : {S : Type 0} {m : Meaning S} (secret : List ℕ) (n : Node S) (known : Bool) (to : Target) → FitNode m secret n → FitNode m secret (telling known to n)
fit-telling secret n true to is = is
fit-telling secret n false to is =
    fit-holding secret n to (view_told n)
    (subst (λ (s : List ℕ). IsGood secret (changes.ViewTold (signed view_infos s n.id (record { view = view_of n })))) (sym is.shared)
    (told-good secret n.id (record { view = view_of n }) is.named is.view)) is

-- ---- arrivals

-- each request of a batch that may stand at a place bears its client's tag
verified_each : (secret : List ℕ) (place : ℕ) (batch : Batch) → list_all (request_fits secret place) batch ≡ true → AreVerified secret batch
verified_each secret place [] all = refl
verified_each secret place (q ∷ qs) all =
    let parts = and_true (request_fits secret place q) (list_all (request_fits secret place) qs) all in
    let one = (and_true _ (is_verified requests secret q) parts.0).1 in
    both (is_verified requests secret q) (list_all (λ x. is_verified requests secret x) qs) one (verified_each secret place qs parts.1)
  where
    both : (a b : Bool) → a ≡ true → b ≡ true → (a && b) ≡ true
    both true b ea eb = eb
    both false b ea eb = absurd (cc)

-- and is of a client that there is
clients_each : (secret : List ℕ) (place : ℕ) (batch : Batch) → list_all (request_fits secret place) batch ≡ true → Each (λ q. q.statement.client ≤ 1024) batch
clients_each secret place [] all = tt
clients_each secret place (q ∷ qs) all =
    let parts = and_true (request_fits secret place q) (list_all (request_fits secret place) qs) all in
    let one = and_true (nat_le q.statement.client 1024 && nat_lt q.statement.after place) (is_verified requests secret q) parts.0 in
    let two = and_true (nat_le q.statement.client 1024) (nat_lt q.statement.after place) one.0 in
    (leb-true q.statement.client 1024 two.0, clients_each secret place qs parts.1)

known_where_valid : (secret : List ℕ) (place : ℕ) (digest : List ℕ) (batch : Batch) → is_batch_for secret place digest batch ≡ true → FitsBatch batch → FitsKnown secret batch
known_where_valid secret place digest batch valid fit =
    let fine = fits_where_valid secret place digest batch valid in
    let each = fits_each secret batch place fine in
    ((fit, clients_each secret place batch each, fits_alone secret batch place fine), verified_each secret place batch each)

verified_where_valid : (secret : List ℕ) (place : ℕ) (digest : List ℕ) (batch : Batch) → is_batch_for secret place digest batch ≡ true → AreVerified secret batch
verified_where_valid secret place digest batch valid = verified_each secret place batch (fits_each secret batch place (fits_where_valid secret place digest batch valid))

-- a report that is not dropped is proven
proven_where_kept : {S : Type 0} (n : Node S) (r : Reported) → why_report n r ≡ None → is_proven n r ≡ true
unfolding why_report
proven_where_kept n r none =
    third-none (not (leader (view_of n) r.head.statement.regency == n.id)) (is_proven n r) NotLeader BadProof _
    (else_none (regency_why n r.head.statement.regency) _
    (else_none (view_why n r.head.statement.view) _ (else_none (signer_why n (is_verified reports n.secret r.head) r.head.signer) _ none).1).1).1

-- and bears its member's tag
report_verified : {S : Type 0} (n : Node S) (r : Reported) → why_report n r ≡ None → is_verified reports n.secret r.head ≡ true
unfolding why_report
report_verified n r none = verified_where_signed n (is_verified reports n.secret r.head) r.head.signer (else_none (signer_why n (is_verified reports n.secret r.head) r.head.signer) _ none).0

-- and with its lock comes a batch of it
lock_borne : {S : Type 0} (n : Node S) (r : Reported) → is_proven n r ≡ true → bears_lock n.secret (r.head.statement.last + 1) r.head.statement.lock r.batch ≡ true
unfolding is_proven
lock_borne n r is = (and_true _ (bears_lock n.secret (r.head.statement.last + 1) r.head.statement.lock r.batch) is).1

-- and is short where it bears no idle evidence
proven-brief : {S : Type 0} (n : Node S) (r : Reported) → Each (λ v. is_view v ≡ true) n.replica.views → is_view (view_of n) ≡ true → FitsSigned reports (λ signer. FitsReport) r.head
    → is_verified reports n.secret r.head ≡ true → is_proven n r ≡ true → IsTerse r.head.statement → length (spells.signed reports r.head) ≤ 5720
unfolding is_proven
proven-brief n r views view fit tagged is terse =
    let one = and_true _ (bears_lock n.secret (r.head.statement.last + 1) r.head.statement.lock r.batch) is in
    let two = and_true (evidence_holds n.secret n.replica.views r.head.statement.last r.head.statement.evidence) (has_no_false_lock n.secret (view_of n) r.head.statement.last r.head.statement.regency r.head.statement.lock) one.0 in
    report-short n.secret n.replica.views (view_of n) r.head views view fit tagged two.0 two.1 terse

locked-fits : (secret : List ℕ) (place : ℕ) (lock : Option LockCertificate) (batch : Option Batch) → bears_lock secret place lock batch ≡ true → FitsOptional FitsBatch batch → FitsLocked secret lock batch
locked-fits secret place None batch borne fit = tt
locked-fits secret place (Some lock) None borne fit = tt
locked-fits secret place (Some lock) (Some batch) borne fit = (fit, verified_where_valid secret place lock.digest batch borne)

-- a report is no longer than the message that bears it
head-short : (r : Reported) → length (spelling (changes.StopData r)) ≤ 1048576 → length (spells.signed reports r.head) ≤ 1048576
unfolding spelling
head-short r short =
    let long = length-append (spells.signed reports r.head) (optional batch_text r.batch) in
    omega (arith, short, long)

-- a vote that is not dropped bears its member's tag
vote_verified : {S : Type 0} (n : Node S) (b : SignedBy Ballot) → why_vote n b ≡ None → is_verified ballots n.secret b ≡ true
unfolding why_vote
vote_verified n b none = verified_where_signed n (is_verified ballots n.secret b) b.signer (else_none (signer_why n (is_verified ballots n.secret b) b.signer) _ none).0

-- and so does a mark
mark_verified : {S : Type 0} (n : Node S) (k : SignedBy Mark) → why_mark n k ≡ None → is_verified marks n.secret k ≡ true
unfolding why_mark
mark_verified n k none = not_false (is_verified marks n.secret k) (no_reason (not (is_verified marks n.secret k)) BadTag _ none).0

-- what holds of each mark of a table, and of a new one, holds of each behind it
each-noted : (P : SignedBy Mark → Type 0) (k : SignedBy Mark) (table : List (SignedBy Mark)) → Each P table → P k → Each P (tables_of_marks.noted k table)
unfolding tables_of_marks.noted
each-noted P k table each is =
    either (λ (ks : List (SignedBy Mark)). Each P ks) (tables_of_marks.repeats table k) table _ each
    (either (λ (ks : List (SignedBy Mark)). Each P ks) (nat_le 64 (tables_of_marks.count_of k.signer table)) _ (table ++ k ∷ [])
    (each_filter P _ (table ++ k ∷ []) (each_end P table k each is)) (each_end P table k each is))

-- the marks of an offer that verify
offered-fit : (secret : List ℕ) (ms : List (SignedBy Mark)) → AllByRecursion (FitsSigned marks (λ signer. FitsMark)) ms → Each (FitsStated secret) (filter (is_verified marks secret) ms)
offered-fit secret [] all = tt
offered-fit secret (k ∷ ms) all = by (is_verified marks secret k) refl (offered-fit secret ms all.1)
  where
    by : (t : Bool) → is_verified marks secret k ≡ t → Each (FitsStated secret) (filter (is_verified marks secret) ms) → Each (FitsStated secret) (cond t (k ∷ filter (is_verified marks secret) ms) (filter (is_verified marks secret) ms))
    by true is rest = ((all.0, is), rest)
    by false is rest = rest

all_each : {A : Type 0} (P : A → Type 0) (xs : List A) → AllByRecursion P xs → Each P xs
all_each P [] all = tt
all_each P (x ∷ xs) all = (all.0, all_each P xs all.1)

-- a decided batch that is not dropped
shown-fits : {S : Type 0} (n : Node S) (d : ProvenBatch) → why_decision n d ≡ None → FitsProven d → FitsShown n.secret d
unfolding why_decision
shown-fits n d none fit =
    let place = no_reason (nat_le d.place (decided_place n)) OldPlace _ none in
    let far = no_reason (nat_lt (decided_place n + 1) d.place || is_some n.waiting) FarPlace _ place.1 in
    let batch = no_reason (not (is_batch_for n.secret d.place (digest_of d.batch) d.batch)) InvalidBatch _ far.1 in
    let proven = no_reason (not (is_proven_batch n d)) BadProof _ batch.1 in
    record {
      place_fits = fit.place_fits;
      batch_fits = known_where_valid n.secret d.place (digest_of d.batch) d.batch (not_false (is_batch_for n.secret d.place (digest_of d.batch) d.batch) batch.0) fit.batch_fits;
      accepts_fit = all_each (FitsSigned (votes_of Accept) (λ signer. FitsVote Accept)) d.accepts fit.accepts_fit.1;
      voted = (proven_is n d (not_false (is_proven_batch n d) proven.0)).0.verified;
    }

-- a part is kept
part-kept : (p : StatePart) (fetch : Option Fetch) → IfSome fetch FitsFetch → IfSome (option_map (λ (f : Fetch). kept_unless None f p) fetch) FitsFetch
part-kept p None fit = tt
part-kept p (Some f) fit = record { plan_fits = fit.plan_fits }

-- an arrival that is not dropped is kept
pub fit-kept : {S : Type 0} {m : Meaning S} (secret : List ℕ) (n : Node S) (message : Message) → why_dropped n message ≡ None → Fits message → FitNode m secret n → FitNode m secret (kept n message)
unfolding kept regency_of
fit-kept {S = S} {m = m} secret n (Ask q) fine fit is =
    either (λ (x : Node S). FitNode m secret x) (is_next n.replica.table q.statement) (record n { pool = offered n.pool q }) n
    (record {
      named = is.named;
      shared = is.shared;
      view = is.view;
      views = is.views;
      regency = is.regency;
      lines = is.lines;
      pool = each_offered (FitsPool secret) n.pool q is.pool
          (record { fits = fit.content_fits; tagged = subst (λ (s : List ℕ). is_verified requests s q ≡ true) is.shared (ask_tagged n q fine) });
      arrivals = is.arrivals;
      told = is.told;
      begun = is.begun;
      book = is.book;
      waiting = is.waiting;
      held = is.held;
      service = is.service;
      transfers = is.transfers;
    }) is
fit-kept secret n (Propose p) fine fit is =
    record {
      named = is.named;
      shared = is.shared;
      view = is.view;
      views = is.views;
      regency = is.regency;
      lines = is.lines;
      pool = is.pool;
      arrivals = each_end (FitsArrival secret) n.arrivals (Propose p) is.arrivals (
        subst (λ (s : List ℕ). FitsKnown s p.batch) is.shared
            (known_where_valid n.secret p.head.statement.slot.place p.head.statement.digest p.batch (valid_where_kept n p fine) fit.content_fits.1),
        fit.content_fits.0.statement_fits.digest_fits,
      );
      told = is.told;
      begun = is.begun;
      book = is.book;
      waiting = is.waiting;
      held = is.held;
      service = is.service;
      transfers = is.transfers;
    }
fit-kept secret n (Vote b) fine fit is =
    record {
      named = is.named;
      shared = is.shared;
      view = is.view;
      views = is.views;
      regency = is.regency;
      lines = is.lines;
      pool = is.pool;
      arrivals = each_end (FitsArrival secret) n.arrivals (Vote b) is.arrivals (fit.content_fits, subst (λ (s : List ℕ). is_verified ballots s b ≡ true) is.shared (vote_verified n b fine));
      told = is.told;
      begun = is.begun;
      book = is.book;
      waiting = is.waiting;
      held = is.held;
      service = is.service;
      transfers = is.transfers;
    }
fit-kept secret n (changes.Stop s) fine fit is =
    record {
      named = is.named;
      shared = is.shared;
      view = is.view;
      views = is.views;
      regency = is.regency;
      lines = is.lines;
      pool = is.pool;
      arrivals = is.arrivals;
      told = is.told;
      begun = is.begun;
      book = is.book;
      waiting = is.waiting;
      held = is.held;
      service = is.service;
      transfers = is.transfers;
    }
fit-kept secret n (changes.StopData r) fine fit is =
    record {
      named = is.named;
      shared = is.shared;
      view = is.view;
      views = is.views;
      regency = is.regency;
      lines = is.lines;
      pool = is.pool;
      arrivals = is.arrivals;
      told = each_end (FitsReported secret) n.reports r is.told (record {
        head_fits = record {
          signed_fits = fit.content_fits.0;
          short = head-short r fit.bytes_fit;
          brief = λ terse. proven-brief n r is.views is.view fit.content_fits.0 (report_verified n r fine) (proven_where_kept n r fine) terse;
          tagged = subst (λ (s : List ℕ). is_verified reports s r.head ≡ true) is.shared (report_verified n r fine);
        };
        locked = subst (λ (s : List ℕ). FitsLocked s r.head.statement.lock r.batch) is.shared
            (locked-fits n.secret (r.head.statement.last + 1) r.head.statement.lock r.batch (lock_borne n r (proven_where_kept n r fine)) fit.content_fits.1);
      });
      begun = is.begun;
      book = is.book;
      waiting = is.waiting;
      held = is.held;
      service = is.service;
      transfers = is.transfers;
    }
fit-kept secret n (changes.Sync s) fine fit is =
    record {
      named = is.named;
      shared = is.shared;
      view = is.view;
      views = is.views;
      regency = is.regency;
      lines = is.lines;
      pool = is.pool;
      arrivals = is.arrivals;
      told = is.told;
      begun = each_end FitsBegun n.syncs s is.begun fit.content_fits.statement_fits;
      book = is.book;
      waiting = is.waiting;
      held = is.held;
      service = is.service;
      transfers = is.transfers;
    }
fit-kept secret n (changes.Mark k) fine fit is =
    record {
      named = is.named;
      shared = is.shared;
      view = is.view;
      views = is.views;
      regency = is.regency;
      lines = is.lines;
      pool = is.pool;
      arrivals = is.arrivals;
      told = is.told;
      begun = is.begun;
      book = is.book;
      waiting = is.waiting;
      held = is.held;
      service = is.service;
      transfers = record {
        small = is.transfers.small;
        owned = is.transfers.owned;
        shown_fit = is.transfers.shown_fit;
        offers_fit = is.transfers.offers_fit;
        table_fits = each-noted (FitsStated secret) k n.marks is.transfers.table_fits
            (fit.content_fits, subst (λ (s : List ℕ). is_verified marks s k ≡ true) is.shared (mark_verified n k fine));
        fetch_fits = is.transfers.fetch_fits;
      };
    }
fit-kept secret n (changes.Decision d) fine fit is =
    record {
      named = is.named;
      shared = is.shared;
      view = is.view;
      views = is.views;
      regency = is.regency;
      lines = is.lines;
      pool = is.pool;
      arrivals = is.arrivals;
      told = is.told;
      begun = is.begun;
      book = is.book;
      waiting = is.waiting;
      held = is.held;
      service = is.service;
      transfers = record {
        small = is.transfers.small;
        owned = is.transfers.owned;
        shown_fit = each_end (FitsShown secret) n.decisions d is.transfers.shown_fit (subst (λ (s : List ℕ). FitsShown s d) is.shared (shown-fits n d fine fit.content_fits));
        offers_fit = is.transfers.offers_fit;
        table_fits = is.transfers.table_fits;
        fetch_fits = is.transfers.fetch_fits;
      };
    }
fit-kept secret n (changes.StateOffer o) fine fit is =
    record {
      named = is.named;
      shared = is.shared;
      view = is.view;
      views = is.views;
      regency = is.regency;
      lines = is.lines;
      pool = is.pool;
      arrivals = is.arrivals;
      told = is.told;
      begun = is.begun;
      book = is.book;
      waiting = is.waiting;
      held = is.held;
      service = is.service;
      transfers = record {
        small = is.transfers.small;
        owned = is.transfers.owned;
        shown_fit = is.transfers.shown_fit;
        offers_fit = each_end (λ (x : StateOffer). Each (FitsStated secret) x.marks) n.offers (verified_offer n.secret o) is.transfers.offers_fit
            (subst (λ (s : List ℕ). Each (FitsStated s) (verified_offer n.secret o).marks) is.shared (offered-fit n.secret o.marks fit.content_fits.marks_fit.1));
        table_fits = is.transfers.table_fits;
        fetch_fits = is.transfers.fetch_fits;
      };
    }
fit-kept secret n (changes.StatePart p) fine fit is =
    record {
      named = is.named;
      shared = is.shared;
      view = is.view;
      views = is.views;
      regency = is.regency;
      lines = is.lines;
      pool = is.pool;
      arrivals = is.arrivals;
      told = is.told;
      begun = is.begun;
      book = is.book;
      waiting = is.waiting;
      held = is.held;
      service = is.service;
      transfers = record {
        small = is.transfers.small;
        owned = is.transfers.owned;
        shown_fit = is.transfers.shown_fit;
        offers_fit = is.transfers.offers_fit;
        table_fits = is.transfers.table_fits;
        fetch_fits = part-kept p n.fetch is.transfers.fetch_fits;
      };
    }
fit-kept secret n _ fine fit is = is

-- a node is told that it is behind
pub fit-noted : {S : Type 0} {m : Meaning S} (secret : List ℕ) (n : Node S) (message : Message) → FitNode m secret n → FitNode m secret (noted n message)
unfolding noted
fit-noted secret n message is = fit-as secret n n.firm n.proposed n.stop_made n.sync_made n.impatient _ is

-- a node answers again
fit-answer_line : {S : Type 0} {m : Meaning S} (secret : List ℕ) (n : Node S) (line : Option Execution) → ForLine line FitsLine → FitNode m secret n → FitNode m secret (answer_line n line)
unfolding answer_line
fit-answer_line secret n None fit is = is
fit-answer_line secret n (Some line) fit is =
    fit-telling secret (replies_with n line) (nat_le (length n.replica.views) 1) (targets.Client line.client)
    (fit-holding secret n (targets.Client line.client) (reply_of n.secret n.id line) (line-good secret n.secret n.id line is.shared is.named fit) is)

pub fit-answers_again : {S : Type 0} {m : Meaning S} (secret : List ℕ) (n : Node S) (asked : Asked) → FitNode m secret n → FitNode m secret (answers_again n asked)
unfolding answers_again
fit-answers_again secret n asked is = fit-answer_line secret n (answering n asked) (answering-each FitsLine n asked is.lines) is

-- ---- deliver

-- the line of a request that is executed
line_made-fits : {S : Type 0} (m : Meaning S) → IsBrief m → (r : Replica S) (index : ℕ) (q : SignedBy Request) → IsSmall m r → 1 ≤ r.place → index < 2 ^ 16 → FitsSigned requests FitsRequest q
    → Each FitsLine (option_to_list (line_made m r index q.statement))
line_made-fits m brief r index q small some low fit =
    let number = present_low r.views small.views_fit in
    either (λ (line : Option Execution). Each FitsLine (option_to_list line)) (is_next r.table q.statement) (Some (line_of m r index q.statement)) None (
      record {
        view = omega (arith, number);
        place = (some, small.place_fits);
        index = low;
        client = fit.statement_fits.client_fits;
        seq = fit.statement_fits.seq_fits;
        reply = small-reply m brief r q.statement small.service_fits;
      },
      tt,
    ) tt

-- the lines of the requests that are
lines_of-fit : {S : Type 0} (m : Meaning S) → IsBrief m → (r : Replica S) (index : ℕ) (qs : Batch) → IsSmall m r → 1 ≤ r.place → index + length qs ≤ 64 → Each (λ q. q.statement.client ≤ 1024) qs
    → AllByRecursion (FitsSigned requests FitsRequest) qs → Each FitsLine (lines_of m r index qs)
lines_of-fit m brief r index [] small some few known all = tt
lines_of-fit m brief r index (q ∷ qs) small some few known all =
    let place = place_execute m r index q.statement in
    each_append FitsLine (option_to_list (line_made m r index q.statement)) (lines_of m (execute m r index q.statement) (index + 1) qs)
    (line_made-fits m brief r index q small some (omega (arith, few)) all.0)
    (lines_of-fit m brief (execute m r index q.statement) (index + 1) qs
    (small-execute m brief r index q.statement some (omega (arith, few)) known.0 all.0.statement_fits.seq_fits small) (omega (arith, some, place)) (omega (arith, few)) known.1 all.1)

-- the lines of a batch
executed_lines-fit : {S : Type 0} (m : Meaning S) → IsBrief m → (n : Node S) (batch : Batch) → FitsWaiting (next_place n) batch → IsSmall m n.replica → Each FitsLine (executed_lines m n.replica batch)
unfolding executed_lines
executed_lines-fit m brief n batch fit small =
    lines_of-fit m brief (at_next n.replica) 0 batch (small-next m n.replica fit.1 small) (omega arith) (let few = fit.0.0.count_fits.1 in omega (arith, few)) fit.0.1 fit.0.0.each_fits

-- the lines that a node answers with
lines_to_answer-fit : {S : Type 0} (m : Meaning S) → IsBrief m → (n : Node S) (batch : Batch) → FitsWaiting (next_place n) batch → IsSmall m n.replica → Each FitsLine (lines_to_answer m n batch)
lines_to_answer-fit m brief n batch fit small =
    either (λ (lines : List Execution). Each FitsLine lines) (is_member (view_of n) n.id) (executed_lines m n.replica batch) [] (executed_lines-fit m brief n batch fit small) tt

-- the view in force after a batch
view-one : (place : ℕ) (views more : List View) → place < 2 ^ 63 → is_view (present views) ≡ true → AtMostOne place views more → is_view (present more) ≡ true
view-one place views more low is (inl same) = subst (λ (vs : List View). is_view (present vs) ≡ true) (sym same) is
view-one place views more low is (inr one) =
    subst (λ (v : View). is_view v ≡ true) (sym (ap present one.1 ∙ present_end views one.0)) (one.2.valid low)

-- a node that is in a view, or that enters one
fit-entered : {S : Type 0} {m : Meaning S} (secret : List ℕ) (stays : Bool) (n : Node S) → FitNode m secret n → FitNode m secret (entered stays n)
fit-entered {S = S} secret stays n is =
    record {
      named = is.named;
      shared = is.shared;
      view = is.view;
      views = is.views;
      regency = is.regency;
      lines = is.lines;
      pool = is.pool;
      arrivals = either (λ (xs : List Message). Each (FitsArrival secret) xs) stays n.arrivals [] is.arrivals tt;
      told = either (λ (xs : List Reported). Each (FitsReported secret) xs) stays n.reports [] is.told tt;
      begun = either (λ (xs : List (SignedBy Sync)). Each FitsBegun xs) stays n.syncs [] is.begun tt;
      book = is.book;
      waiting = is.waiting;
      held = is.held;
      service = is.service;
      transfers = is.transfers;
    }

-- a batch is delivered
fit-deliver_batch : {S : Type 0} (secret : List ℕ) (m : Meaning S) → IsBrief m → (n : Node S) (batch : Option Batch) → ForBatch batch (FitsWaiting (next_place n)) → FitNode m secret n → FitNode m secret (deliver_batch m n batch)
unfolding deliver_batch
fit-deliver_batch secret m brief n None fit is = is
fit-deliver_batch {S = S} secret m brief n (Some batch) fit is =
    let x : Node S = record n { replica = delivered m n.replica batch; waiting = None; pool = settled (delivered m n.replica batch).table n.pool; impatient = false } in
    let small = small-delivered m brief n.replica batch fit.1 fit.0 is.transfers.small in
    let y : Node S = replying (enters n x) (lines_to_answer m n batch) in
    fit-telling secret y (stays_in_view n y) targets.Clients
    (fit-replying secret (enters n x) (lines_to_answer m n batch) (lines_to_answer-fit m brief n batch fit is.transfers.small)
    (fit-entered secret (stays_in_view n x) x
    (record {
      named = is.named;
      shared = is.shared;
      view = view-one (next_place n) n.replica.views (delivered m n.replica batch).views fit.1 is.view (delivered_one m n.replica batch fit.0.2);
      views = small.views_fit;
      regency = is.regency;
      lines = each-delivered FitsLine m n.replica batch is.lines (executed_lines-fit m brief n batch fit is.transfers.small);
      pool = each_filter (FitsPool secret) (λ q. is_next (delivered m n.replica batch).table q.statement) n.pool is.pool;
      arrivals = is.arrivals;
      told = is.told;
      begun = is.begun;
      book = is.book;
      waiting = tt;
      held = is.held;
      service = valid_delivered m (Comes m) comes_next n.replica batch is.service;
      transfers = record {
        small = small;
        owned = is.transfers.owned;
        shown_fit = is.transfers.shown_fit;
        offers_fit = is.transfers.offers_fit;
        table_fits = is.transfers.table_fits;
        fetch_fits = is.transfers.fetch_fits;
      };
    })))

pub fit-delivers : {S : Type 0} (secret : List ℕ) (m : Meaning S) → IsBrief m → (n : Node S) → FitNode m secret n → FitNode m secret (delivers m n)
unfolding delivers
fit-delivers secret m brief n is = fit-deliver_batch secret m brief n n.waiting is.waiting is

-- ---- lists that are no longer

length-filter_map : {A B : Type 0} (f : A → Option B) (xs : List A) → length (filter_map f xs) ≤ length xs
length-filter_map f [] = omega arith
length-filter_map {B = B} f (x ∷ xs) = by (f x) (length-filter_map f xs)
  where
    by : (o : Option B) → length (filter_map f xs) ≤ length xs → length (cons_option o (filter_map f xs)) ≤ suc (length xs)
    by None rest = omega (arith, rest)
    by (Some y) rest = omega (arith, rest)

length-filter : {A : Type 0} (p : A → Bool) (xs : List A) → length (filter p xs) ≤ length xs
length-filter p [] = omega arith
length-filter {A = A} p (x ∷ xs) =
    let rest = length-filter p xs in
    either (λ (ys : List A). length ys ≤ suc (length xs)) (p x) (x ∷ filter p xs) (filter p xs) (omega (arith, rest)) (omega (arith, rest))

length-take : {A : Type 0} (k : ℕ) (xs : List A) → length (take k xs) ≤ length xs
length-take zero xs = omega arith
length-take (suc k) [] = omega arith
length-take (suc k) (x ∷ xs) = let rest = length-take k xs in omega (arith, rest)

each_any : {A : Type 0} (xs : List A) → Each (λ x. Unit {0}) xs
each_any [] = tt
each_any (x ∷ xs) = (tt, each_any xs)

each_all : {A : Type 0} (P : A → Type 0) (xs : List A) → Each P xs → AllByRecursion P xs
each_all P [] each = tt
each_all P (x ∷ xs) each = (each.0, each_all P xs each.1)

-- ---- certificates

-- a vote of a kind
vote-fits : (kind : VoteKind) (member : ℕ) (slot : Slot) (digest : List ℕ) (b : SignedBy Ballot) → is_vote kind member slot digest (Vote b) ≡ true → FitsSigned ballots (λ signer. FitsBallot) b
    → FitsSigned (votes_of kind) (λ signer. FitsVote kind) b
vote-fits kind member slot digest b is fit =
    let one = and_true ((same_kind b.statement.kind kind && (b.signer == member)) && same_slot b.statement.slot slot) (same_bytes b.statement.digest digest) is in
    let two = and_true (same_kind b.statement.kind kind && (b.signer == member)) (same_slot b.statement.slot slot) one.0 in
    let three = and_true (same_kind b.statement.kind kind) (b.signer == member) two.0 in
    record {
      signer_fits = fit.signer_fits;
      statement_fits = record { kind_is = same_kind_is b.statement.kind kind three.0; ballot_fits = fit.statement_fits };
      text_fits = fit.text_fits;
      tag_fits = fit.tag_fits;
    }

-- a vote of a kind, with its member's tag
abbrev FitsGiven : List ℕ → VoteKind → SignedBy Ballot → Type 0
FitsGiven secret kind b = FitsSigned (votes_of kind) (λ signer. FitsVote kind) b × (is_verified ballots secret b ≡ true)

vote_for-fits : (secret : List ℕ) (kind : VoteKind) (slot : Slot) (digest : List ℕ) (member : ℕ) (m : Message) → FitsArrival secret m
    → IfSome (vote_for kind slot digest member m) (FitsGiven secret kind)
vote_for-fits secret kind slot digest member (Vote b) fit =
    if_cond (FitsGiven secret kind) (is_vote kind member slot digest (Vote b)) (Some b) (λ is. (vote-fits kind member slot digest b is fit.0, fit.1))
vote_for-fits secret kind slot digest member _ fit = tt

first_vote-fits : (secret : List ℕ) (arrivals : List Message) (kind : VoteKind) (slot : Slot) (digest : List ℕ) (member : ℕ) → Each (FitsArrival secret) arrivals
    → IfSome (first_vote arrivals kind slot digest member) (FitsGiven secret kind)
first_vote-fits secret [] kind slot digest member each = tt
first_vote-fits secret (m ∷ ms) kind slot digest member each =
    if_or (FitsGiven secret kind) (vote_for kind slot digest member m) (first_vote ms kind slot digest member)
    (vote_for-fits secret kind slot digest member m each.0) (first_vote-fits secret ms kind slot digest member each.1)

certificate-given : (secret : List ℕ) (arrivals : List Message) (view : View) (kind : VoteKind) (slot : Slot) (digest : List ℕ) → Each (FitsArrival secret) arrivals
    → Each (FitsGiven secret kind) (certificate_votes arrivals view kind slot digest)
certificate-given secret arrivals view kind slot digest each =
    each_given (λ (m : ℕ). Unit {0}) (FitsGiven secret kind) (first_vote arrivals kind slot digest)
    (λ member any. first_vote-fits secret arrivals kind slot digest member each) (certificate arrivals view kind slot digest) (each_any (certificate arrivals view kind slot digest))

-- each of which bears its member's tag
certificate-voted : (secret : List ℕ) (arrivals : List Message) (view : View) (kind : VoteKind) (slot : Slot) (digest : List ℕ) → Each (FitsArrival secret) arrivals
    → Each (λ b. is_verified ballots secret b ≡ true) (certificate_votes arrivals view kind slot digest)
certificate-voted secret arrivals view kind slot digest each =
    each-weaken (FitsGiven secret kind) (λ b. is_verified ballots secret b ≡ true) (λ b given. given.1) (certificate_votes arrivals view kind slot digest)
    (certificate-given secret arrivals view kind slot digest each)

pub certificate-fits : (secret : List ℕ) (arrivals : List Message) (view : View) (kind : VoteKind) (slot : Slot) (digest : List ℕ) → is_view view ≡ true → Each (FitsArrival secret) arrivals
    → FitVotes kind (certificate_votes arrivals view kind slot digest)
certificate-fits secret arrivals view kind slot digest is each =
    let members = members-few view is in
    let passing = length-filter (has_vote arrivals kind slot digest) view.members in
    let first = length-take (quorum view) (filter (has_vote arrivals kind slot digest) view.members) in
    let votes = length-filter_map (first_vote arrivals kind slot digest) (certificate arrivals view kind slot digest) in
    record {
      few = omega (arith, members, passing, first, votes);
      all = each_all (FitsSigned (votes_of kind) (λ signer. FitsVote kind)) (certificate_votes arrivals view kind slot digest)
          (each-weaken (FitsGiven secret kind) (FitsSigned (votes_of kind) (λ signer. FitsVote kind)) (λ b given. given.0) (certificate_votes arrivals view kind slot digest)
          (certificate-given secret arrivals view kind slot digest each));
    }

-- ---- changes of the regency

-- a later regency is a number of 32 bits
promise-low : (view : ℕ) (v r : ℕ) (same : Bool) → (v == view) ≡ same → r < 2 ^ 32 → regency_in view (entries.Promised (record { view = v; regency = r })) < 2 ^ 32
promise-low view v r true is low = rw is low
promise-low view v r false is low = rw is (omega arith)

-- a wish for the next one
asks-fit : {S : Type 0} {m : Meaning S} (secret : List ℕ) (n : Node S) → regency_of n + 1 < 2 ^ 32 → FitNode m secret n → FitNode m secret (asks_next n)
asks-fit {S = S} secret n low is =
    let x : Node S = record n { stop_made = true } in
    fit-holding secret x targets.View (stop_for n)
    (subst (λ (s : List ℕ). IsGood secret (changes.Stop (signed stops s n.id (record { view = (view_of n).number; regency = regency_of n + 1 })))) (sym is.shared)
    (stop-good secret n.id (record { view = (view_of n).number; regency = regency_of n + 1 }) is.named (record { view_fits = view-low (view_of n) is.view; regency_fits = low })))
    (fit-as secret n n.firm n.proposed true n.sync_made n.impatient n.behind is)

joining-low : {S : Type 0} (n : Node S) → joining n ≡ true → regency_of n + 1 < 2 ^ 32
unfolding joining is_joining
joining-low n is = ltb-true (regency_of n + 1) (2 ^ 32) (and_true (has_next (synchronizer_of n)) (not n.stop_made) (and_true _ _ is).0).0

pub fit-joins : {S : Type 0} {m : Meaning S} (secret : List ℕ) (n : Node S) → FitNode m secret n → FitNode m secret (joins n)
unfolding joins
fit-joins {S = S} {m = m} secret n is = either_by (λ (x : Node S). FitNode m secret x) (joining n) (asks_next n) n (λ due. asks-fit secret n (joining-low n due) is) (λ not_due. is)

-- a beginning is adopted
adopted-low : {S : Type 0} (n : Node S) (s : Sync) (v : ℕ) → greatest_regency v n.entries < 2 ^ 32 → s.regency < 2 ^ 32
    → greatest_regency v (n.entries ++ promised_for n s ++ entries.Synced (start_by_sync s) ∷ []) < 2 ^ 32
adopted-low n s v low begun =
    let last = greatest_push v (n.entries ++ promised_for n s) (entries.Synced (start_by_sync s)) in
    let first : greatest_regency v (n.entries ++ promised_for n s) < 2 ^ 32 =
    either (λ (es : List LogEntry). greatest_regency v (n.entries ++ es) < 2 ^ 32) (nat_lt (regency_of n) s.regency) _ []
    (let grown = greatest_push v n.entries (entries.Promised (record { view = s.view; regency = s.regency })) in
    let own = promise-low v s.view s.regency (s.view == v) refl begun in
    omega (arith, grown, own, low))
    (subst (λ (es : List LogEntry). greatest_regency v es < 2 ^ 32) (sym (append-nil n.entries)) low) in
    omega (arith, last, first)

promised_for-fit : {S : Type 0} (secret : List ℕ) (n : Node S) (s : Sync) → Each (FitsEntry secret) (promised_for n s)
promised_for-fit secret n s = either (λ (es : List LogEntry). Each (FitsEntry secret) es) (nat_lt (regency_of n) s.regency) _ [] (tt, tt) tt

fit-adopts_by : {S : Type 0} {m : Meaning S} (secret : List ℕ) (n : Node S) (sync : Option (SignedBy Sync)) → IfSome sync FitsBegun → FitNode m secret n → FitNode m secret (adopts_by n sync)
unfolding adopts_by regency_of
fit-adopts_by secret n None begun is = is
fit-adopts_by secret n (Some sync) begun is =
    record {
      named = is.named;
      shared = is.shared;
      view = is.view;
      views = is.views;
      regency = λ view. adopted-low n sync.statement view (is.regency view) begun.regency_fits;
      lines = is.lines;
      pool = is.pool;
      arrivals = is.arrivals;
      told = is.told;
      begun = is.begun;
      book = each_end (FitsEntry secret) (n.entries ++ promised_for n sync.statement) (entries.Synced (start_by_sync sync.statement))
          (each_append (FitsEntry secret) n.entries (promised_for n sync.statement) is.book (promised_for-fit secret n sync.statement)) tt;
      waiting = is.waiting;
      held = is.held;
      service = is.service;
      transfers = is.transfers;
    }

pub fit-adopts : {S : Type 0} {m : Meaning S} (secret : List ℕ) (n : Node S) → FitNode m secret n → FitNode m secret (adopts n)
unfolding adopts adoption
fit-adopts secret n is =
    fit-adopts_by secret n (find (is_adoptable n) n.syncs) (if_find FitsBegun (is_adoptable n) n.syncs is.begun) is

-- the last place that a book makes
pub last-low : (secret : List ℕ) (es : List LogEntry) → Each (FitsEntry secret) es → last_made es < 2 ^ 63
last-low secret [] each = omega arith
last-low secret (e ∷ es) each = let rest = last-low secret es each.1 in let one = entry-low secret e each.0 in omega (arith, rest, one)
  where
    entry-low : (secret : List ℕ) (e : LogEntry) → FitsEntry secret e → number_or (place_made e) 0 < 2 ^ 63
    entry-low secret (entries.Opened o) fit = omega arith
    entry-low secret (entries.Wrote w) fit = omega arith
    entry-low secret (entries.Accepted a) fit = omega arith
    entry-low secret (entries.Promised p) fit = omega arith
    entry-low secret (entries.Synced s) fit = omega arith
    entry-low secret (entries.Decided d) fit = fit.place_fits.1
    entry-low secret (entries.Installed i) fit = fit.place_fits.1
    entry-low secret (entries.Marked m) fit = omega arith

-- entries make a place, or the last one is 0
last-made : (es : List LogEntry) → (last_made es ≡ 0) ⊎ HasMade es (last_made es)
last-made [] = inl refl
last-made (e ∷ es) = step e es (place_made e) refl (last-made es)
  where
    step : (e : LogEntry) (es : List LogEntry) (made : Option ℕ) → place_made e ≡ made → (last_made es ≡ 0) ⊎ HasMade es (last_made es)
        → (max (number_or made 0) (last_made es) ≡ 0) ⊎ HasMade (e ∷ es) (max (number_or made 0) (last_made es))
    step e es None is (inl zero_is) = inl (omega (arith, zero_is))
    step e es None is (inr has) =
        inr (subst (λ (k : ℕ). HasMade (e ∷ es) k) (omega arith) (record { entry = has.entry; there = inr has.there; made = has.made }))
    step e es (Some k) is rest = greater_of e es k is rest (compare k (last_made es))
      where
        compare : (a b : ℕ) → (b ≤ a) ⊎ (a < b)
        compare a b = grind arith

        greater_of : (e : LogEntry) (es : List LogEntry) (k : ℕ) → place_made e ≡ Some k → (last_made es ≡ 0) ⊎ HasMade es (last_made es) → (last_made es ≤ k) ⊎ (k < last_made es)
            → (max k (last_made es) ≡ 0) ⊎ HasMade (e ∷ es) (max k (last_made es))
        greater_of e es k is rest (inl le) = inr (subst (λ (j : ℕ). HasMade (e ∷ es) j) (omega (arith, le)) (record { entry = e; there = inl refl; made = is }))
        greater_of e es k is (inl zero_is) (inr less) = absurd (omega (arith, zero_is, less))
        greater_of e es k is (inr has) (inr less) =
            inr (subst (λ (j : ℕ). HasMade (e ∷ es) j) (omega (arith, less)) (record { entry = has.entry; there = inr has.there; made = has.made }))

each_there : (secret : List ℕ) (es : List LogEntry) (e : LogEntry) → Each (FitsEntry secret) es → Among e es → FitsEntry secret e
each_there secret [] e each there = absurd there
each_there secret (x ∷ xs) e each (inl is) = subst (FitsEntry secret) (sym is) each.0
each_there secret (x ∷ xs) e each (inr there) = each_there secret xs e each.1 there

-- what a book shows of its last place
evidence-made : (secret : List ℕ) (last : ℕ) (e : LogEntry) → FitsEntry secret e → place_made e ≡ Some last → FitEvidence last (evidence_of digest_of (Some e))
evidence-made secret last (entries.Decided d) fit made = ((fit.view_fits, fit.regency_fits), (digest_of-length d.batch, fit.accepts_fit))
evidence-made secret last (entries.Installed i) fit made = (fit.view_fits, (fit.digest_fits, fit.marks_fit))
evidence-made secret last (entries.Opened o) fit made = absurd (cc)
evidence-made secret last (entries.Wrote w) fit made = absurd (cc)
evidence-made secret last (entries.Accepted a) fit made = absurd (cc)
evidence-made secret last (entries.Promised p) fit made = absurd (cc)
evidence-made secret last (entries.Synced s) fit made = absurd (cc)
evidence-made secret last (entries.Marked m) fit made = absurd (cc)

evidence-good : (secret : List ℕ) (es : List LogEntry) (maker : Option LogEntry) → last_maker es ≡ maker → Each (FitsEntry secret) es → FitEvidence (last_made es) (evidence_of digest_of maker)
evidence-good secret es None is each =
    ⊎_elim (λ (zero_is : last_made es ≡ 0). zero_is) (λ (has : HasMade es (last_made es)). absurd (no_maker es (last_made es) is has)) (last-made es)
evidence-good secret es (Some e) is each = let found = maker_is es e is in evidence-made secret (last_made es) e (each_there secret es e each found.0) found.1

-- an accept of the book
accept_for-fits : (secret : List ℕ) (view place : ℕ) (e : LogEntry) → FitsEntry secret e → IfSome (accept_for view place e) (FitsAccept secret)
accept_for-fits secret view place (entries.Accepted a) fit = if_cond (FitsAccept secret) ((a.slot.view == view) && (a.slot.place == place)) (Some a) (λ is. fit)
accept_for-fits secret view place (entries.Opened o) fit = tt
accept_for-fits secret view place (entries.Wrote w) fit = tt
accept_for-fits secret view place (entries.Promised p) fit = tt
accept_for-fits secret view place (entries.Synced s) fit = tt
accept_for-fits secret view place (entries.Decided d) fit = tt
accept_for-fits secret view place (entries.Installed i) fit = tt
accept_for-fits secret view place (entries.Marked m) fit = tt

lock-fits : (secret : List ℕ) (view place : ℕ) (es : List LogEntry) → Each (FitsEntry secret) es → IfSome (greatest_accept view place es) (FitsAccept secret)
lock-fits secret view place [] each = tt
lock-fits secret view place (e ∷ es) each =
    greater-if (FitsAccept secret) (accept_for view place e) (greatest_accept view place es) (accept_for-fits secret view place e each.0) (lock-fits secret view place es each.1)

lock-good : (secret : List ℕ) (lock : Option accept.Accept) → IfSome lock (FitsAccept secret) → FitLock (option_map certificate_of lock)
lock-good secret None fit = tt
lock-good secret (Some a) fit = (fit.regency_fits, (fit.digest_fits, fit.writes_fit))

lock-batch : (secret : List ℕ) (lock : Option accept.Accept) → IfSome lock (FitsAccept secret) → FitsSome secret (option_map (λ (a : accept.Accept). a.batch) lock)
lock-batch secret None fit = tt
lock-batch secret (Some a) fit = (fit.batch_fits.0.0, fit.batch_fits.1)

-- what a node reports
report_of-fits : {S : Type 0} {m : Meaning S} (secret : List ℕ) (n : Node S) (regency : ℕ) → regency < 2 ^ 32 → FitNode m secret n → FitReport (report_of n regency)
unfolding report_of
report_of-fits secret n regency low is = record {
  view_fits = view-low (view_of n) is.view;
  regency_fits = low;
  last_fits = last-low secret n.entries is.book;
  evidence_fits = evidence-good secret n.entries (last_maker n.entries) refl is.book;
  lock_fits = lock-good secret (lock_of (view_of n).number n.entries) (lock-fits secret (view_of n).number (last_made n.entries + 1) n.entries is.book);
}

reported_by-good : {S : Type 0} {m : Meaning S} (secret : List ℕ) (n : Node S) (regency : ℕ) → regency < 2 ^ 32 → FitNode m secret n → IsGood secret (changes.StopData (reported_by n regency))
unfolding reported_by
reported_by-good secret n regency low is =
    let lock = lock_of (view_of n).number n.entries in
    subst (λ (s : List ℕ). IsGood secret (changes.StopData (record { head = signed reports s n.id (report_of n regency); batch = option_map (λ (a : accept.Accept). a.batch) (lock_of (view_of n).number n.entries) })))
    (sym is.shared)
    (report-good secret n.id (report_of n regency) (option_map (λ (a : accept.Accept). a.batch) (lock_of (view_of n).number n.entries)) is.named (report_of-fits secret n regency low is)
    (lock-batch secret (lock_of (view_of n).number n.entries) (lock-fits secret (view_of n).number (last_made n.entries + 1) n.entries is.book)))

pub promising-low : {S : Type 0} (n : Node S) → promising n ≡ true → regency_of n + 1 < 2 ^ 32
unfolding promising is_promising
promising-low n is = ltb-true (regency_of n + 1) (2 ^ 32) (and_true (has_next (synchronizer_of n)) _ is).0

fit-promised : {S : Type 0} {m : Meaning S} (secret : List ℕ) (n : Node S) → regency_of n + 1 < 2 ^ 32 → FitNode m secret n → FitNode m secret (recording n (entries.Promised (next_promise n)))
fit-promised secret n low is =
    fit-book secret n (entries.Promised (next_promise n) ∷ [])
    (λ view. let v = (view_of n).number in
    let grown = greatest_push view n.entries (entries.Promised (next_promise n)) in
    let own = promise-low view v (regency_of n + 1) (v == view) refl low in
    let old = is.regency view in
    omega (arith, grown, own, old)) (tt, tt) is

fit-promise_next : {S : Type 0} {m : Meaning S} (secret : List ℕ) (n : Node S) → regency_of n + 1 < 2 ^ 32 → FitNode m secret n → FitNode m secret (promise_next n)
unfolding promise_next reported_by
fit-promise_next {S = S} secret n low is =
    let x : Node S = recording n (entries.Promised (next_promise n)) in
    let y : Node S = record x { stop_made = false; sync_made = false; impatient = true } in
    fit-holding secret y (targets.Node (leader (view_of n) (regency_of n + 1))) (changes.StopData (reported_by n (regency_of n + 1))) (reported_by-good secret n (regency_of n + 1) low is)
    (fit-as secret x x.firm x.proposed false false true x.behind (fit-promised secret n low is))

pub fit-promises : {S : Type 0} {m : Meaning S} (secret : List ℕ) (n : Node S) → FitNode m secret n → FitNode m secret (promises n)
unfolding promises
fit-promises {S = S} {m = m} secret n is = either_by (λ (x : Node S). FitNode m secret x) (promising n) (promise_next n) n (λ due. fit-promise_next secret n (promising-low n due) is) (λ not_due. is)

-- the reports with which a leader begins
pub record FitsCollect (secret : List ℕ) (rs : List (SignedBy Report)) : Type 0 where
  pub few : length rs ≤ 31
  pub each : Each (FitsCollected secret) rs

first_report-fits : (secret : List ℕ) (view regency : ℕ) (rs : List Reported) (member : ℕ) → Each (FitsReported secret) rs → IfSome (first_report view regency rs member) (FitsCollected secret)
first_report-fits secret view regency rs member each =
    if_map (FitsCollected secret) (λ (r : Reported). r.head) (find (is_report view regency member) rs)
    (if_weaker (FitsReported secret) (λ r. FitsCollected secret r.head) (λ r fit. fit.head_fits) (find (is_report view regency member) rs) (if_find (FitsReported secret) (is_report view regency member) rs each))

collect-fits : (secret : List ℕ) (view : View) (s : Synchronizer) → is_view view ≡ true → Each (FitsReported secret) s.reports → FitsCollect secret (collect view s)
collect-fits secret view s is each =
    let members = members-few view is in
    let all = filter_map (first_report view.number s.regency s.reports) view.members in
    let some = length-filter_map (first_report view.number s.regency s.reports) view.members in
    let front = length-take (collect_size view) (filter_map (first_report view.number s.regency s.reports) view.members) in
    record {
      few = omega (arith, members, some, front);
      each = each_take (FitsCollected secret) (collect_size view) (filter_map (first_report view.number s.regency s.reports) view.members)
          (each_given (λ (m : ℕ). Unit {0}) (FitsCollected secret) (first_report view.number s.regency s.reports) (λ member any. first_report-fits secret view.number s.regency s.reports member each) view.members (each_any view.members));
    }

leading-fits : {S : Type 0} {m : Meaning S} (secret : List ℕ) (n : Node S) → FitNode m secret n → IfSome (leading n) (FitsCollect secret)
unfolding leading collecting
leading-fits secret n is =
    if_cond (FitsCollect secret) (is_collecting (view_of n) (synchronizer_of n)) (Some (collect (view_of n) (synchronizer_of n)))
    (λ due. collect-fits secret (view_of n) (synchronizer_of n) is.view is.told)

fit-lead_with : {S : Type 0} {m : Meaning S} (secret : List ℕ) (n : Node S) (collected : Option (List (SignedBy Report))) → IfSome collected (FitsCollect secret) → FitNode m secret n → FitNode m secret (lead_with n collected)
unfolding lead_with
fit-lead_with secret n None fit is = is
fit-lead_with {S = S} secret n (Some collected) fit is =
    let x : Node S = record n { sync_made = true } in
    fit-holding secret x targets.View (changes.Sync (signed syncs n.secret n.id (record { view = (view_of n).number; regency = regency_of n; collect = collected })))
    (subst (λ (s : List ℕ). IsGood secret (changes.Sync (signed syncs s n.id (record { view = (view_of n).number; regency = regency_of n; collect = collected })))) (sym is.shared)
    (sync-good secret n.id (record { view = (view_of n).number; regency = regency_of n; collect = collected }) is.named (view-low (view_of n) is.view) (force-low secret n is) fit.few fit.each))
    (fit-as secret n n.firm n.proposed n.stop_made true n.impatient n.behind is)

pub fit-leads : {S : Type 0} {m : Meaning S} (secret : List ℕ) (n : Node S) → FitNode m secret n → FitNode m secret (leads n)
unfolding leads
fit-leads secret n is = fit-lead_with secret n (leading n) (leading-fits secret n is) is

-- time passes
fit-passes_on : {S : Type 0} {m : Meaning S} (secret : List ℕ) (n : Node S) (pool : List (SignedBy Request)) → Each (FitsPool secret) pool → FitNode m secret n → FitNode m secret (passes_on n pool)
fit-passes_on secret n [] each is = is
fit-passes_on secret n (q ∷ qs) each is = fit-holding secret n (targets.Node (leader (view_of n) (regency_of n))) (Ask q) (ask-good secret q each.0.fits each.0.tagged) is

-- where a node does not lag, only pressure makes it act
pressed_only : (lag rest : Bool) → lag ≡ false → (lag || rest) ≡ true → rest ≡ true
pressed_only true rest none is = absurd (cc)
pressed_only false rest none is = is

-- an impatient node asks for the next regency where there is one
timing-low : {S : Type 0} (n : Node S) (impatient : Bool) → (is_pressed n && (not impatient || nat_lt (regency_of n + 1) (2 ^ 32))) ≡ true → impatient ≡ true → regency_of n + 1 < 2 ^ 32
timing-low n true is same = ltb-true (regency_of n + 1) (2 ^ 32) (and_true (is_pressed n) (nat_lt (regency_of n + 1) (2 ^ 32)) is).1
timing-low n false is same = absurd (cc)

fit-presses : {S : Type 0} {m : Meaning S} (secret : List ℕ) (n : Node S) → lags n ≡ false → timing n ≡ true → FitNode m secret n → FitNode m secret (presses n)
unfolding presses timing
fit-presses {S = S} {m = m} secret n level due is =
    let x : Node S = record n { impatient = true } in
    either_by (λ (y : Node S). FitNode m secret y) n.impatient (asks_next n) (passes_on x n.pool)
    (λ impatient. asks-fit secret n (timing-low n n.impatient (pressed_only (lags n) (is_pressed n && (not n.impatient || nat_lt (regency_of n + 1) (2 ^ 32))) level due) impatient) is)
    (λ patient. fit-passes_on secret x n.pool is.pool (fit-as secret n n.firm n.proposed n.stop_made n.sync_made true n.behind is))

-- a node that keeps other things of what others know
fit-known : {S : Type 0} {m : Meaning S} (secret : List ℕ) (n : Node S) (offers : List StateOffer) (fetch : Option Fetch) (behind : Bool) → Each (λ (o : StateOffer). Each (FitsStated secret) o.marks) offers
    → IfSome fetch FitsFetch → FitNode m secret n → FitNode m secret (record n { offers = offers; fetch = fetch; behind = behind })
unfolding regency_of
fit-known secret n offers fetch behind fits takes is =
    record {
      named = is.named;
      shared = is.shared;
      view = is.view;
      views = is.views;
      regency = is.regency;
      lines = is.lines;
      pool = is.pool;
      arrivals = is.arrivals;
      told = is.told;
      begun = is.begun;
      book = is.book;
      waiting = is.waiting;
      held = is.held;
      service = is.service;
      transfers = record {
        small = is.transfers.small;
        owned = is.transfers.owned;
        shown_fit = is.transfers.shown_fit;
        offers_fit = fits;
        table_fits = is.transfers.table_fits;
        fetch_fits = takes;
      };
    }

member-named : (id : ℕ) → IsSigner 1 id → IsMember id
member-named id named = (let least = named.0 in omega (arith, least), named.1)

-- an ask for state may leave
asked-good : {S : Type 0} {m : Meaning S} (secret : List ℕ) (n : Node S) (fetch : ℕ) → fetch < 2 ^ 63 → FitNode m secret n → IsGood secret (state_ask n fetch)
asked-good secret n fetch low is =
    ask_state-good secret (record { member = n.id; place = n.replica.place; fetch = fetch }) (member-named n.id is.named) is.transfers.small.place_fits low

fit-asks_state : {S : Type 0} {m : Meaning S} (secret : List ℕ) (n : Node S) → FitNode m secret n → FitNode m secret (asks_state n)
unfolding asks_state
fit-asks_state {S = S} secret n is =
    let x : Node S = record n { offers = []; fetch = None; behind = false } in
    fit-holding secret x targets.View (state_ask n 0) (asked-good secret n 0 (omega arith) is) (fit-known secret n [] None false tt tt is)

pub fit-times : {S : Type 0} {m : Meaning S} (secret : List ℕ) (n : Node S) → FitNode m secret n → FitNode m secret (times n)
unfolding times
fit-times {S = S} {m = m} secret n is =
    either_by (λ (x : Node S). FitNode m secret x) (lags n) (asks_state n) _ (λ lag. fit-asks_state secret n is)
    (λ level. either_by (λ (x : Node S). FitNode m secret x) (timing n) (presses n) n (λ due. fit-presses secret n level due is) (λ not_due. is))

-- ---- propose, write and accept

-- a batch behind a test
guarded : (P : Batch → Type 0) (test : Bool) (batch : Option Batch) → (test ≡ true → ForBatch batch P) → ForBatch (cond test batch None) P
guarded P true batch p = p refl
guarded P false batch p = tt

-- where a vote is open, the next place is a number of 63 bits
free-low : {S : Type 0} (n : Node S) → is_free n ≡ true → next_place n < 2 ^ 63
free-low n is = ltb-true (next_place n) (2 ^ 63) (and_true (is_none n.waiting) (nat_lt (next_place n) (2 ^ 63)) is).1

open-low : {S : Type 0} (n : Node S) → is_open n ≡ true → next_place n < 2 ^ 63
open-low n is = free-low n (and_true (is_member (view_of n) n.id) (is_free n) (and_true _ _ is).0).1

-- the slot that is open has a spelling
pub open-fits : {S : Type 0} {m : Meaning S} (secret : List ℕ) (n : Node S) → FitNode m secret n → next_place n < 2 ^ 63 → FitsSlot (open_slot n)
open-fits secret n is low = record { view_fits = view-low (view_of n) is.view; place_fits = (omega arith, low); regency_fits = force-low secret n is }

-- what fits is filled with what the limits leave room for
filled-fits : (secret : List ℕ) (batch qs : Batch) → FitsSending secret batch → Each (FitsPool secret) qs → FitsSending secret (filled batch qs)
filled-fits secret batch [] fit each = fit
filled-fits secret batch (q ∷ qs) fit each =
    either_by (λ (b : Batch). FitsSending secret b) (is_within_limits (batch ++ q ∷ [])) (filled (batch ++ q ∷ []) qs) batch
    (λ within. let limits = and_true (nat_le (length (batch ++ q ∷ [])) 64) (nat_le (length (batch_text (batch ++ q ∷ []))) 262144) within in
    filled-fits secret (batch ++ q ∷ []) qs
    (longer-fits batch q fit.0 each.0.fits (leb-true (length (batch ++ q ∷ [])) 64 limits.0) (leb-true (length (batch_text (batch ++ q ∷ []))) 262144 limits.1), longer-verified secret batch q fit.1 each.0.tagged) each.1)
    (λ full. fit)

-- the batch of some requests
batch_of-fits : (secret : List ℕ) (qs : Batch) → Each (FitsPool secret) qs → ForBatch (batch_of qs) (FitsSending secret)
batch_of-fits secret [] each = tt
batch_of-fits secret (q ∷ qs) each =
    let one : FitsSending secret (q ∷ []) = (single-fits q each.0.fits, single-verified secret q each.0.tagged) in
    either (λ (batch : Option Batch). ForBatch batch (FitsSending secret)) (is_managers q) (Some (q ∷ [])) (Some (filled (q ∷ []) (filter (λ p. not (is_managers p)) qs))) one
    (filled-fits secret (q ∷ []) (filter (λ p. not (is_managers p)) qs) one (each_filter (FitsPool secret) (λ p. not (is_managers p)) qs each.1))

-- what the pool gives
gathered-fits : (secret : List ℕ) (pool : Batch) (place : ℕ) → Each (FitsPool secret) pool → ForBatch (gathered pool place) (FitsSending secret)
unfolding gathered
gathered-fits secret pool place each =
    batch_of-fits secret (filter (λ (q : SignedBy Request). nat_lt q.statement.after place) pool) (each_filter (FitsPool secret) (λ (q : SignedBy Request). nat_lt q.statement.after place) pool each)

-- the batch of a report that bears a lock
lock-there : (secret digest : List ℕ) (lock : Option LockCertificate) (batch : Option Batch) → is_lock_of digest lock ≡ true → FitsLocked secret lock batch → ForBatch batch (FitsSending secret)
lock-there secret digest None batch is fit = absurd (cc)
lock-there secret digest (Some lock) batch is fit = fit

batch_in-fits : (secret : List ℕ) (view : View) (s : Synchronizer) (digest : List ℕ) (found : Option Reported) → IfSome found (λ r. FitsReported secret r × (bears view s digest r ≡ true))
    → ForBatch (batch_in found) (FitsSending secret)
batch_in-fits secret view s digest None fit = tt
batch_in-fits secret view s digest (Some r) fit =
    let one = and_true (needs_report view.number s.regency r && is_lock_of digest r.head.statement.lock) (is_some r.batch) fit.1 in
    let two = and_true (needs_report view.number s.regency r) (is_lock_of digest r.head.statement.lock) one.0 in
    lock-there secret digest r.head.statement.lock r.batch two.1 fit.0.locked

-- the batches that the book names
named_by-fits : (secret : List ℕ) (view place : ℕ) (e : LogEntry) → FitsEntry secret e → IfSome (named_by view place e) (λ (x : Named). FitsKnown secret x.batch)
named_by-fits secret view place e fit =
    if_map (λ (x : Named). FitsKnown secret x.batch) (λ (a : accept.Accept). record { digest = a.digest; batch = a.batch }) (accept_for view place e)
    (if_weaker (FitsAccept secret) (λ a. FitsKnown secret a.batch) (λ a is. is.batch_fits) (accept_for view place e) (accept_for-fits secret view place e fit))

accepted_under-fits : (secret : List ℕ) (view place : ℕ) (digest : List ℕ) (es : List LogEntry) → Each (FitsEntry secret) es → ForBatch (accepted_under view place digest es) (FitsSending secret)
accepted_under-fits secret view place digest es each =
    named (find (λ (x : Named). same_bytes x.digest digest) (filter_map (named_by view place) es))
    (if_find (λ (x : Named). FitsKnown secret x.batch) (λ (x : Named). same_bytes x.digest digest) (filter_map (named_by view place) es)
    (each_given (FitsEntry secret) (λ (x : Named). FitsKnown secret x.batch) (named_by view place) (named_by-fits secret view place) es each))
  where
    named : (o : Option Named) → IfSome o (λ (x : Named). FitsKnown secret x.batch) → ForBatch (option_map (λ (x : Named). x.batch) o) (FitsSending secret)
    named None fit = tt
    named (Some x) fit = (fit.0.0, fit.1)

batch_under-fits : {S : Type 0} {m : Meaning S} (secret : List ℕ) (n : Node S) (bound : Option (List ℕ)) → FitNode m secret n → ForBatch (batch_under n bound) (FitsSending secret)
unfolding batch_under bound_batch
batch_under-fits secret n None is = gathered-fits secret n.pool (next_place n) is.pool
batch_under-fits secret n (Some digest) is =
    for_batch-or (FitsSending secret) (bound_batch (view_of n) (synchronizer_of n) digest) (accepted_under (view_of n).number (next_place n) digest n.entries)
    (batch_in-fits secret (view_of n) (synchronizer_of n) digest (find (bears (view_of n) (synchronizer_of n) digest) n.reports)
    (if_found (FitsReported secret) (bears (view_of n) (synchronizer_of n) digest) n.reports is.told))
    (accepted_under-fits secret (view_of n).number (next_place n) digest n.entries is.book)

proposing-fits : {S : Type 0} {m : Meaning S} (secret : List ℕ) (n : Node S) → FitNode m secret n → ForBatch (proposing n) (FitsProposed secret (next_place n))
unfolding proposing
proposing-fits secret n is =
    guarded (FitsProposed secret (next_place n)) _ (batch_under n (bound_at (next_place n) (start_of n)))
    (λ guard. let one = and_true (is_open n && (leader (view_of n) (regency_of n) == n.id)) (not (list_any (same_slot (open_slot n)) n.proposed)) guard in
    let two = and_true (is_open n) (leader (view_of n) (regency_of n) == n.id) one.0 in
    for_batch-weaker (FitsSending secret) (FitsProposed secret (next_place n)) (λ batch fit. ((fit.0, open-low n two.0), fit.1)) (batch_under n (bound_at (next_place n) (start_of n)))
    (batch_under-fits secret n (bound_at (next_place n) (start_of n)) is))

fit-propose_batch : {S : Type 0} {m : Meaning S} (secret : List ℕ) (n : Node S) (batch : Option Batch) → ForBatch batch (FitsProposed secret (next_place n)) → FitNode m secret n → FitNode m secret (propose_batch n batch)
unfolding propose_batch
fit-propose_batch secret n None fit is = is
fit-propose_batch {S = S} secret n (Some batch) fit is =
    let x : Node S = record n { proposed = n.proposed ++ open_slot n ∷ [] } in
    fit-holding secret x targets.View
    (Propose (record { head = signed proposals n.secret n.id (record { slot = open_slot n; digest = digest_of batch }); batch = batch }))
    (subst (λ (s : List ℕ). IsGood secret (Propose (record { head = signed proposals s n.id (record { slot = open_slot n; digest = digest_of batch }); batch = batch }))) (sym is.shared)
    (propose-good secret n.id (record { slot = open_slot n; digest = digest_of batch }) batch is.named
    (record { slot_fits = open-fits secret n is fit.0.1; digest_fits = digest_of-length batch }) fit.0.0 fit.1))
    (fit-as secret n n.firm x.proposed n.stop_made n.sync_made n.impatient n.behind is)

pub fit-proposes : {S : Type 0} {m : Meaning S} (secret : List ℕ) (n : Node S) → FitNode m secret n → FitNode m secret (proposes n)
unfolding proposes
fit-proposes secret n is = fit-propose_batch secret n (proposing n) (proposing-fits secret n is) is

-- a vote has a spelling
ballot-good : {S : Type 0} {m : Meaning S} (secret : List ℕ) (n : Node S) (kind : VoteKind) (digest : List ℕ) → next_place n < 2 ^ 63 → length digest ≡ 32 → FitNode m secret n → IsGood secret (ballot n kind digest)
ballot-good secret n kind digest low long is =
    subst (λ (s : List ℕ). IsGood secret (Vote (signed ballots s n.id (record { kind = kind; slot = open_slot n; digest = digest })))) (sym is.shared)
    (vote-good secret n.id (record { kind = kind; slot = open_slot n; digest = digest }) is.named (record { slot_fits = open-fits secret n is low; digest_fits = long }))

-- a proposal that may get the node's vote
pub record FitsVoted (secret : List ℕ) (place : ℕ) (p : Proposed) : Type 0 where
  pub low : place < 2 ^ 63
  pub batch_fits : FitsKnown secret p.batch
  pub digest_fits : length p.head.statement.digest ≡ 32

proposed_in-fits : (secret : List ℕ) (slot : Slot) (message : Message) → FitsArrival secret message
    → IfSome (proposed_in slot message) (λ (p : Proposed). FitsKnown secret p.batch × (length p.head.statement.digest ≡ 32))
proposed_in-fits secret slot (Propose p) fit =
    if_cond (λ (x : Proposed). FitsKnown secret x.batch × (length x.head.statement.digest ≡ 32)) (same_slot p.head.statement.slot slot) (Some p) (λ is. fit)
proposed_in-fits secret slot _ fit = tt

proposed_for-fits : (secret : List ℕ) (slot : Slot) (arrivals : List Message) → Each (FitsArrival secret) arrivals
    → IfSome (proposed_for arrivals slot) (λ (p : Proposed). FitsKnown secret p.batch × (length p.head.statement.digest ≡ 32))
proposed_for-fits secret slot [] each = tt
proposed_for-fits secret slot (x ∷ xs) each =
    if_or (λ (p : Proposed). FitsKnown secret p.batch × (length p.head.statement.digest ≡ 32)) (proposed_in slot x) (proposed_for xs slot) (proposed_in-fits secret slot x each.0) (proposed_for-fits secret slot xs each.1)

voted-fits : {S : Type 0} {m : Meaning S} (secret : List ℕ) (n : Node S) → next_place n < 2 ^ 63 → FitNode m secret n → IfSome (votable n (proposed_for n.arrivals (open_slot n))) (FitsVoted secret (next_place n))
voted-fits secret n low is =
    votable-if (FitsVoted secret (next_place n)) n (proposed_for n.arrivals (open_slot n))
    (if_weaker (λ (p : Proposed). FitsKnown secret p.batch × (length p.head.statement.digest ≡ 32)) (FitsVoted secret (next_place n))
    (λ p fit. record { low = low; batch_fits = fit.0; digest_fits = fit.1 }) (proposed_for n.arrivals (open_slot n)) (proposed_for-fits secret (open_slot n) n.arrivals is.arrivals))

pub writing-fits : {S : Type 0} {m : Meaning S} (secret : List ℕ) (n : Node S) → FitNode m secret n → IfSome (writing n) (FitsVoted secret (next_place n))
unfolding writing
writing-fits secret n is =
    if_cond (FitsVoted secret (next_place n)) _ (votable n (proposed_for n.arrivals (open_slot n))) (λ may. voted-fits secret n (open-low n (and_true (is_open n) _ may).0) is)

fit-write_batch : {S : Type 0} {m : Meaning S} (secret : List ℕ) (n : Node S) (p : Option Proposed) → IfSome p (FitsVoted secret (next_place n)) → FitNode m secret n → FitNode m secret (write_batch n p)
unfolding write_batch
fit-write_batch secret n None fit is = is
fit-write_batch secret n (Some p) fit is =
    let entry : LogEntry = entries.Wrote (record { slot = open_slot n; digest = p.head.statement.digest }) in
    fit-holding secret (recording n entry) targets.View (ballot n Write p.head.statement.digest) (ballot-good secret n Write p.head.statement.digest fit.low fit.digest_fits is)
    (fit-recording secret n entry (quiet-wrote _) tt is)

pub fit-writes : {S : Type 0} {m : Meaning S} (secret : List ℕ) (n : Node S) → FitNode m secret n → FitNode m secret (writes n)
unfolding writes
fit-writes secret n is = fit-write_batch secret n (writing n) (writing-fits secret n is) is

pub accepting-fits : {S : Type 0} {m : Meaning S} (secret : List ℕ) (n : Node S) → FitNode m secret n → IfSome (accepting n) (FitsVoted secret (next_place n))
unfolding accepting
accepting-fits secret n is =
    if_cond (FitsVoted secret (next_place n)) _ (written n (votable n (proposed_for n.arrivals (open_slot n))))
    (λ may. written-if (FitsVoted secret (next_place n)) n (votable n (proposed_for n.arrivals (open_slot n))) (voted-fits secret n (open-low n (and_true (is_open n) _ may).0) is))

fit-accept_batch : {S : Type 0} {m : Meaning S} (secret : List ℕ) (n : Node S) (p : Option Proposed) → IfSome p (FitsVoted secret (next_place n)) → FitNode m secret n → FitNode m secret (accept_batch n p)
unfolding accept_batch
fit-accept_batch secret n None fit is = is
fit-accept_batch secret n (Some p) fit is =
    let entry : LogEntry = entries.Accepted (record {
      slot = open_slot n;
      digest = p.head.statement.digest;
      writes = certificate_votes n.arrivals (view_of n) Write (open_slot n) p.head.statement.digest;
      batch = p.batch;
    }) in
    fit-holding secret (recording n entry) targets.View (ballot n Accept p.head.statement.digest) (ballot-good secret n Accept p.head.statement.digest fit.low fit.digest_fits is)
    (fit-recording secret n entry (quiet-accepted _) (record {
      regency_fits = force-low secret n is;
      digest_fits = fit.digest_fits;
      writes_fit = certificate-fits secret n.arrivals (view_of n) Write (open_slot n) p.head.statement.digest is.view is.arrivals;
      batch_fits = fit.batch_fits;
    }) is)

pub fit-accepts : {S : Type 0} {m : Meaning S} (secret : List ℕ) (n : Node S) → FitNode m secret n → FitNode m secret (accepts n)
unfolding accepts
fit-accepts secret n is = fit-accept_batch secret n (accepting n) (accepting-fits secret n is) is

-- ---- decide

-- the batches that a node has for a place
named_in-fits : (secret : List ℕ) (view place regency : ℕ) (message : Message) → FitsArrival secret message → IfSome (named_in view place regency message) (λ (x : Named). FitsKnown secret x.batch)
named_in-fits secret view place regency (Propose p) fit =
    let slot : Slot = p.head.statement.slot in
    if_cond (λ (x : Named). FitsKnown secret x.batch) (((slot.view == view) && (slot.place == place)) && nat_le regency slot.regency) (Some (record { digest = p.head.statement.digest; batch = p.batch })) (λ is. fit.0)
named_in-fits secret view place regency _ fit = tt

known-fits : (secret : List ℕ) (view place regency : ℕ) (arrivals : List Message) (es : List LogEntry) → Each (FitsArrival secret) arrivals → Each (FitsEntry secret) es
    → Each (λ (x : Named). FitsKnown secret x.batch) (known view place regency arrivals es)
known-fits secret view place regency arrivals es came book =
    each_append (λ (x : Named). FitsKnown secret x.batch) (filter_map (named_in view place regency) arrivals) (filter_map (named_by view place) es)
    (each_given (FitsArrival secret) (λ (x : Named). FitsKnown secret x.batch) (named_in view place regency) (named_in-fits secret view place regency) arrivals came)
    (each_given (FitsEntry secret) (λ (x : Named). FitsKnown secret x.batch) (named_by view place) (named_by-fits secret view place) es book)

decision_by-fits : {S : Type 0} {m : Meaning S} (secret : List ℕ) (n : Node S) (regency : ℕ) (found : Option Named) → next_place n < 2 ^ 63 → regency < 2 ^ 32 → FitNode m secret n → IfSome found (λ (x : Named). FitsKnown secret x.batch)
    → IfSome (decision_by (view_of n) (slot_in n regency) n.arrivals found) (FitsDecision secret)
decision_by-fits secret n regency None low small is fit = tt
decision_by-fits secret n regency (Some x) low small is fit = record {
  view_fits = view-low (view_of n) is.view;
  place_fits = (omega arith, low);
  regency_fits = small;
  accepts_fit = certificate-fits secret n.arrivals (view_of n) Accept (slot_in n regency) x.digest is.view is.arrivals;
  voted = certificate-voted secret n.arrivals (view_of n) Accept (slot_in n regency) x.digest is.arrivals;
  batch_fits = fit;
}

decision_in-fits : {S : Type 0} {m : Meaning S} (secret : List ℕ) (n : Node S) (regency : ℕ) → next_place n < 2 ^ 63 → regency < 2 ^ 32 → FitNode m secret n → IfSome (decision_in n regency) (FitsDecision secret)
unfolding decision_in
decision_in-fits secret n regency low small is =
    decision_by-fits secret n regency _ low small is
    (if_find (λ (x : Named). FitsKnown secret x.batch) _ (known (view_of n).number (next_place n) (regency_of n) n.arrivals n.entries)
    (known-fits secret (view_of n).number (next_place n) (regency_of n) n.arrivals n.entries is.arrivals is.book))

-- a decision that others showed
shown_regency : (bs : List (SignedBy Ballot)) → Each (FitsSigned (votes_of Accept) (λ signer. FitsVote Accept)) bs → regency_by bs < 2 ^ 32
shown_regency [] each = omega arith
shown_regency (b ∷ bs) each = each.0.statement_fits.ballot_fits.slot_fits.regency_fits

find_each : {A : Type 0} (P : A → Type 0) (p : A → Bool) (xs : List A) (ms : List ℕ) (f : ℕ → A → Bool) → Each P xs → Each P (filter_map (λ member. find (f member) xs) ms)
find_each P p xs ms f each =
    each_given (λ (member : ℕ). Unit {0}) P (λ member. find (f member) xs) (λ member any. if_find P (f member) xs each) ms (each_any ms)

shown_few : (v : View) (bs : List (SignedBy Ballot)) → is_view v ≡ true → length (first_votes v bs) ≤ 31
shown_few v bs is =
    let members = members-few v is in
    let some = length-filter (has_signed bs) v.members in
    let front = length-take (quorum v) (filter (has_signed bs) v.members) in
    let votes = length-filter_map (λ member. find (λ (b : SignedBy Ballot). b.signer == member) bs) (first_quorum v (has_signed bs)) in
    omega (arith, members, some, front, votes)

decision_shown-fits : {S : Type 0} {m : Meaning S} (secret : List ℕ) (n : Node S) (d : ProvenBatch) → FitNode m secret n → FitsShown secret d → FitsDecision secret (decision_shown n d)
decision_shown-fits secret n d is fit =
    let member_of : ℕ → SignedBy Ballot → Bool = λ member b. b.signer == member in
    let named : List ℕ = first_quorum (view_of n) (has_signed d.accepts) in
    record {
      view_fits = view-low (view_of n) is.view;
      place_fits = fit.place_fits;
      regency_fits = shown_regency d.accepts fit.accepts_fit;
      accepts_fit = record {
        few = shown_few (view_of n) d.accepts is.view;
        all = each_all (FitsSigned (votes_of Accept) (λ signer. FitsVote Accept)) (first_votes (view_of n) d.accepts)
            (find_each (FitsSigned (votes_of Accept) (λ signer. FitsVote Accept)) (λ b. true) d.accepts named member_of fit.accepts_fit);
      };
      voted = find_each (λ b. is_verified ballots secret b ≡ true) (λ b. true) d.accepts named member_of fit.voted;
      batch_fits = fit.batch_fits;
    }

pub deciding-fits : {S : Type 0} {m : Meaning S} (secret : List ℕ) (n : Node S) → FitNode m secret n → IfSome (deciding n) (λ d. FitsDecision secret d × (next_place n < 2 ^ 63))
unfolding deciding
deciding-fits secret n is =
    let P : Decision → Type 0 = FitsDecision secret in
    let own : Option Decision = or_else (decision_in n (regency_of n)) (decision_ahead n) in
    if_cond (λ d. P d × (next_place n < 2 ^ 63)) (is_free n) (or_else (option_map (decision_shown n) (shown_next n)) (or_else (decision_in n (regency_of n)) (decision_ahead n)))
    (λ free. let low = free-low n free in
    if_weaker P (λ d. P d × (next_place n < 2 ^ 63)) (λ d fit. (fit, low)) (or_else (option_map (decision_shown n) (shown_next n)) (or_else (decision_in n (regency_of n)) (decision_ahead n)))
    (if_or P (option_map (decision_shown n) (shown_next n)) own
    (if_map P (decision_shown n) (shown_next n)
    (if_weaker (FitsShown secret) (λ d. P (decision_shown n d)) (λ d fit. decision_shown-fits secret n d is fit) (shown_next n)
    (if_find (FitsShown secret) (λ (d : ProvenBatch). d.place == next_place n) n.decisions is.transfers.shown_fit)))
    (if_or P (decision_in n (regency_of n)) (decision_ahead n) (decision_in-fits secret n (regency_of n) low (force-low secret n is) is)
    (if_cond P (nat_lt (regency_of n + 1) (2 ^ 32)) (decision_in n (regency_of n + 1))
    (λ room. decision_in-fits secret n (regency_of n + 1) low (ltb-true (regency_of n + 1) (2 ^ 32) room) is)))))

-- a batch waits at the next place
waits : {S : Type 0} {m : Meaning S} (secret : List ℕ) (n : Node S) (batch : Batch) → FitsWaiting (next_place n) batch → FitNode m secret n → FitNode m secret (record n { waiting = Some batch })
unfolding regency_of
waits secret n batch fit is =
    record {
      named = is.named;
      shared = is.shared;
      view = is.view;
      views = is.views;
      regency = is.regency;
      lines = is.lines;
      pool = is.pool;
      arrivals = is.arrivals;
      told = is.told;
      begun = is.begun;
      book = is.book;
      waiting = fit;
      held = is.held;
      service = is.service;
      transfers = is.transfers;
    }

fit-decide_batch : {S : Type 0} {m : Meaning S} (secret : List ℕ) (n : Node S) (d : Option Decision) → IfSome d (λ x. FitsDecision secret x × (next_place n < 2 ^ 63)) → FitNode m secret n → FitNode m secret (decide_batch n d)
unfolding decide_batch
fit-decide_batch secret n None fit is = is
fit-decide_batch {S = S} secret n (Some d) fit is =
    waits secret (recording n (entries.Decided d)) d.batch (fit.0.batch_fits.0, fit.1) (fit-recording secret n (entries.Decided d) (quiet-decided d) fit.0 is)

pub fit-decides : {S : Type 0} {m : Meaning S} (secret : List ℕ) (n : Node S) → FitNode m secret n → FitNode m secret (decides n)
unfolding decides
fit-decides secret n is = fit-decide_batch secret n (deciding n) (deciding-fits secret n is) is

-- ---- marks

-- other snapshots of its own
fit-taken : {S : Type 0} {m : Meaning S} (secret : List ℕ) (n : Node S) (taken : List OwnSnapshot) → Each FitsSnapshot taken → FitNode m secret n → FitNode m secret (record n { taken = n.taken ++ taken })
unfolding regency_of
fit-taken secret n taken fit is =
    record {
      named = is.named;
      shared = is.shared;
      view = is.view;
      views = is.views;
      regency = is.regency;
      lines = is.lines;
      pool = is.pool;
      arrivals = is.arrivals;
      told = is.told;
      begun = is.begun;
      book = is.book;
      waiting = is.waiting;
      held = is.held;
      service = is.service;
      transfers = record {
        small = is.transfers.small;
        owned = subst (λ (ss : List OwnSnapshot). Each FitsSnapshot ss) (append_assoc (option_to_list n.checkpoint) n.taken taken)
            (each_append FitsSnapshot (own_snapshots n) taken is.transfers.owned fit);
        shown_fit = is.transfers.shown_fit;
        offers_fit = is.transfers.offers_fit;
        table_fits = is.transfers.table_fits;
        fetch_fits = is.transfers.fetch_fits;
      };
    }

waiting-low : (place : ℕ) (waiting : Option Batch) → is_some waiting ≡ true → ForBatch waiting (FitsWaiting place) → place < 2 ^ 63
waiting-low place None waits fit = absurd (cc)
waiting-low place (Some batch) waits fit = fit.1

-- the mark of a place that was just delivered
pub delivered-mark : {S : Type 0} (secret : List ℕ) (m : Meaning S) (n : Node S) → is_some n.waiting ≡ true → FitNode m secret n → FitsMark (mark_of m (delivers m n))
delivered-mark secret m n waits is =
    let next : (delivers m n).replica.place ≡ n.replica.place + 1 = place-delivers m n waits in
    let low : next_place n < 2 ^ 63 = waiting-low (next_place n) n.waiting waits is.waiting in
    record { place_fits = (omega (arith, next), omega (arith, next, low)); digest_fits = digest-length (snapshot_text m (delivers m n).replica) }

pub fit-mark : {S : Type 0} (secret : List ℕ) (m : Meaning S) → IsBrief m → (n : Node S) → FitsMark (mark_of m n) → FitNode m secret n → FitNode m secret (mark_place m n)
unfolding mark_place
fit-mark {S = S} secret m brief n fit is =
    let entry : LogEntry = entries.Marked (mark_of m n) in
    let good : IsGood secret (changes.Mark (signed marks n.secret n.id (mark_of m n))) =
    subst (λ (s : List ℕ). IsGood secret (changes.Mark (signed marks s n.id (mark_of m n)))) (sym is.shared) (mark-good secret n.id (mark_of m n) is.named fit) in
    let sent : Node S = holding (recording n entry) targets.View (changes.Mark (signed marks n.secret n.id (mark_of m n))) in
    fit-taken secret sent (snapshots_due m sent)
    (either (λ (ss : List OwnSnapshot). Each FitsSnapshot ss) (is_own_turn sent sent.replica.place) (own_snapshot m sent ∷ []) []
    (record { place_fits = fit.place_fits; short = short_small m brief n.replica is.transfers.small }, tt) tt)
    (fit-holding secret (recording n entry) targets.View (changes.Mark (signed marks n.secret n.id (mark_of m n))) good
    (fit-recording secret n entry (quiet-marked (mark_of m n)) fit is))

-- ---- state for others

-- messages that may leave wait to leave
fit-holding_all : {S : Type 0} {m : Meaning S} (secret : List ℕ) (n : Node S) (to : Target) (ms : List Message) → Each (IsGood secret) ms → FitNode m secret n → FitNode m secret (holding_all n to ms)
fit-holding_all secret n to [] each is = is
fit-holding_all secret n to (x ∷ xs) each is = fit-holding_all secret (holding n to x) to xs each.1 (fit-holding secret n to x each.0 is)

last-fits : (ss : List OwnSnapshot) → Each FitsSnapshot ss → IfSome (last_taken ss) FitsSnapshot
last-fits [] each = tt
last-fits (s ∷ ss) each = if_or FitsSnapshot (last_taken ss) (Some s) (last-fits ss each.1) each.0

newest-fits : {S : Type 0} {m : Meaning S} (secret : List ℕ) (n : Node S) → FitNode m secret n → IfSome (newest_firm n) FitsSnapshot
unfolding newest_firm
newest-fits secret n is = last-fits (filter (is_firm_snapshot n) (own_snapshots n)) (each_filter FitsSnapshot (is_firm_snapshot n) (own_snapshots n) is.transfers.owned)

snapshot-place : (o : Option OwnSnapshot) → IfSome o FitsSnapshot → place_of_snapshot o < 2 ^ 63
snapshot-place None fit = omega arith
snapshot-place (Some s) fit = fit.place_fits.1

snapshot-size : (o : Option OwnSnapshot) → IfSome o FitsSnapshot → size_of_snapshot o < 2 ^ 32
snapshot-size None fit = omega arith
snapshot-size (Some s) fit = let short = fit.short in omega (arith, short)

-- the marks of an offer
marked-fits : (secret : List ℕ) (e : LogEntry) → FitsEntry secret e → IfSome (mark_made e) FitsMark
marked-fits secret (entries.Opened o) fit = tt
marked-fits secret (entries.Wrote w) fit = tt
marked-fits secret (entries.Accepted a) fit = tt
marked-fits secret (entries.Promised p) fit = tt
marked-fits secret (entries.Synced s) fit = tt
marked-fits secret (entries.Decided d) fit = tt
marked-fits secret (entries.Installed i) fit = tt
marked-fits secret (entries.Marked k) fit = fit

last_few-short : {A : Type 0} (most : ℕ) (xs : List A) → length (last_few most xs) ≤ most
last_few-short most xs = let long = length-drop (length xs - most) xs in omega (arith, long)

signed_all-fit : (secret : List ℕ) (id : ℕ) (ks : List Mark) → IsSigner 1 id → Each FitsMark ks → AllByRecursion (FitsSigned marks (λ signer. FitsMark)) (map (λ (k : Mark). signed marks secret id k) ks)
signed_all-fit secret id [] named each = tt
signed_all-fit secret id (k ∷ ks) named each =
    (signed-fits marks (λ signer. FitsMark) secret id k named each.0 (mark_small k each.0.digest_fits), signed_all-fit secret id ks named each.1)

signed_all-tagged : (secret : List ℕ) (id : ℕ) (ks : List Mark) → list_all (λ m. is_verified marks secret m) (map (λ (k : Mark). signed marks secret id k) ks) ≡ true
signed_all-tagged secret id [] = refl
signed_all-tagged secret id (k ∷ ks) =
    and_from (is_verified marks secret (signed marks secret id k)) (list_all (λ m. is_verified marks secret m) (map (λ (j : Mark). signed marks secret id j) ks)) (signed-verified marks secret id k)
    (signed_all-tagged secret id ks)

offered-good : (secret : List ℕ) (id place size : ℕ) (ks : List Mark) → IsSigner 1 id → place < 2 ^ 63 → size < 2 ^ 32 → length ks ≤ 64 → Each FitsMark ks
    → IsGood secret (changes.StateOffer (record { member = id; place = place; size = size; marks = map (λ (k : Mark). signed marks secret id k) ks }))
offered-good secret id place size ks named low small few each =
    offer-good secret (record { member = id; place = place; size = size; marks = map (λ (k : Mark). signed marks secret id k) ks }) (member-named id named) low small
    (record { few = (let long = length-map ks (λ (k : Mark). signed marks secret id k) in omega (arith, long, few)); all = signed_all-fit secret id ks named each }) (signed_all-tagged secret id ks)

offer_for-good : {S : Type 0} {m : Meaning S} (secret : List ℕ) (n : Node S) (place : ℕ) → FitNode m secret n → IsGood secret (changes.StateOffer (offer_for n place))
unfolding offer_for
offer_for-good secret n place is =
    let ks : List Mark = last_few 64 (marks_past place n.entries) in
    let newest = newest-fits secret n is in
    subst (λ (s : List ℕ). IsGood secret (changes.StateOffer (record { member = n.id; place = place_of_snapshot (newest_firm n); size = size_of_snapshot (newest_firm n); marks = map (λ (k : Mark). signed marks s n.id k) (last_few 64 (marks_past place n.entries)) })))
    (sym is.shared)
    (offered-good secret n.id (place_of_snapshot (newest_firm n)) (size_of_snapshot (newest_firm n)) ks is.named (snapshot-place (newest_firm n) newest) (snapshot-size (newest_firm n) newest)
    (last_few-short 64 (marks_past place n.entries))
    (each_drop FitsMark (length (marks_past place n.entries) - 64) (marks_past place n.entries)
    (each_filter FitsMark (λ (k : Mark). nat_lt place k.place) (filter_map mark_made n.entries) (each_given (FitsEntry secret) FitsMark mark_made (marked-fits secret) n.entries is.book))))

-- the decisions that are shown
decides_at-fits : (secret : List ℕ) (place : ℕ) (e : LogEntry) → FitsEntry secret e → IfSome (decides_at place e) (FitsDecision secret)
decides_at-fits secret place (entries.Decided d) fit = if_cond (FitsDecision secret) (d.slot.place == place) (Some d) (λ is. fit)
decides_at-fits secret place (entries.Opened o) fit = tt
decides_at-fits secret place (entries.Wrote w) fit = tt
decides_at-fits secret place (entries.Accepted a) fit = tt
decides_at-fits secret place (entries.Promised p) fit = tt
decides_at-fits secret place (entries.Synced s) fit = tt
decides_at-fits secret place (entries.Installed i) fit = tt
decides_at-fits secret place (entries.Marked k) fit = tt

decided_at-fits : (secret : List ℕ) (place : ℕ) (es : List LogEntry) → Each (FitsEntry secret) es → IfSome (decided_at place es) (FitsDecision secret)
decided_at-fits secret place [] each = tt
decided_at-fits secret place (e ∷ es) each = if_or (FitsDecision secret) (decides_at place e) (decided_at place es) (decides_at-fits secret place e each.0) (decided_at-fits secret place es each.1)

shown_at-good : {S : Type 0} {m : Meaning S} (secret : List ℕ) (n : Node S) (k : ℕ) → FitNode m secret n → IfSome (shown_at n k) (IsGood secret)
shown_at-good secret n k is =
    if_cond (IsGood secret) (is_shown_place n k) (option_map (λ (d : Decision). changes.Decision (shown_as d)) (decided_at k n.entries))
    (λ may. if_map (IsGood secret) (λ (d : Decision). changes.Decision (shown_as d)) (decided_at k n.entries)
    (if_weaker (FitsDecision secret) (λ (d : Decision). IsGood secret (changes.Decision (shown_as d)))
    (λ d fit. decision-good secret (shown_as d) fit.place_fits fit.batch_fits.0.0 fit.accepts_fit fit.voted fit.batch_fits.1) (decided_at k n.entries) (decided_at-fits secret k n.entries is.book)))

shown_after-good : {S : Type 0} {m : Meaning S} (secret : List ℕ) (n : Node S) (place : ℕ) → FitNode m secret n → Each (IsGood secret) (shown_after n place)
unfolding shown_after
shown_after-good secret n place is =
    each_given (λ (k : ℕ). Unit {0}) (IsGood secret) (shown_at n) (λ k any. shown_at-good secret n k is) (places_after place 8) (each_any (places_after place 8))

-- the parts of a snapshot
seeds_to-good : (secret : List ℕ) (place : ℕ) (snapshot : List ℕ) (count : ℕ) → IsCount place → length snapshot ≤ 16777216 → count ≤ pieces snapshot
    → Each (IsGood secret) (map (λ (p : StatePart). changes.StatePart p) (seeds_to place snapshot count))
seeds_to-good secret place snapshot zero low short few = tt
seeds_to-good secret place snapshot (suc count) low short few =
    let front = seeds_to place snapshot count in
    subst (λ (ms : List Message). Each (IsGood secret) ms) (sym (map-append (λ (p : StatePart). changes.StatePart p) front (seed place snapshot count ∷ [])))
    (each_append (IsGood secret) (map (λ (p : StatePart). changes.StatePart p) front) (changes.StatePart (seed place snapshot count) ∷ [])
    (seeds_to-good secret place snapshot count low short (omega (arith, few)))
    (part-good secret (seed place snapshot count) low (omega (arith, few, short)) (omega (arith, short)) (piece_short snapshot count), tt))

part_messages-good : (secret : List ℕ) (o : Option OwnSnapshot) → IfSome o FitsSnapshot → Each (IsGood secret) (part_messages o)
unfolding seeds
part_messages-good secret None fit = tt
part_messages-good secret (Some s) fit = seeds_to-good secret s.place s.snapshot (pieces s.snapshot) fit.place_fits fit.short (omega arith)

firm_at-fits : {S : Type 0} {m : Meaning S} (secret : List ℕ) (n : Node S) (place : ℕ) → FitNode m secret n → IfSome (firm_at n place) FitsSnapshot
unfolding firm_at
firm_at-fits secret n place is = if_find FitsSnapshot (λ (s : OwnSnapshot). is_firm_snapshot n s && (s.place == place)) (own_snapshots n) is.transfers.owned

fit-offers_state : {S : Type 0} {m : Meaning S} (secret : List ℕ) (n : Node S) (a : StateAsk) → FitNode m secret n → FitNode m secret (offers_state n a)
unfolding offers_state
fit-offers_state secret n a is =
    fit-holding_all secret n (targets.Node a.member) (changes.StateOffer (offer_for n a.place) ∷ shown_after n a.place)
    (offer_for-good secret n a.place is, shown_after-good secret n a.place is) is

fit-gives_parts : {S : Type 0} {m : Meaning S} (secret : List ℕ) (n : Node S) (a : StateAsk) → FitNode m secret n → FitNode m secret (gives_parts n a)
unfolding gives_parts
fit-gives_parts secret n a is =
    fit-holding_all secret n (targets.Node a.member) (part_messages (firm_at n a.fetch)) (part_messages-good secret (firm_at n a.fetch) (firm_at-fits secret n a.fetch is)) is

pub fit-answers_state : {S : Type 0} {m : Meaning S} (secret : List ℕ) (n : Node S) (a : StateAsk) → FitNode m secret n → FitNode m secret (answers_state n a)
unfolding answers_state
fit-answers_state {S = S} {m = m} secret n a is =
    either (λ (x : Node S). FitNode m secret x) (a.fetch == 0) (offers_state n a) (gives_parts n a) (fit-offers_state secret n a is) (fit-gives_parts secret n a is)

-- ---- state from others

-- a mark states a place and a digest that a plan may be of
first-mark : (place : ℕ) (digest : List ℕ) (ms : List (SignedBy Mark)) → 1 ≤ length ms → Each (λ (k : SignedBy Mark). k.statement ≡ record { place = place; digest = digest }) ms
    → Each (λ (k : SignedBy Mark). FitsSigned marks (λ signer. FitsMark) k) ms → FitsMark (record { place = place; digest = digest })
first-mark place digest [] some stated fit = absurd (omega (arith, some))
first-mark place digest (k ∷ ms) some stated fit = subst (λ (x : Mark). FitsMark x) stated.0 fit.0.statement_fits

planned-fits : (secret : List ℕ) (offers : List StateOffer) (table : List (SignedBy Mark)) (place : ℕ) (v : View) (p : Plan) → is_view v ≡ true → Each (FitsStated secret) (all_marks offers table)
    → planned offers table place v ≡ Ok p → FitsPlan p
planned-fits secret offers table place v p viewed all said =
    let cert = rests_on_marks secret offers table place v p viewed (each-weaken (FitsStated secret) (λ k. is_verified marks secret k ≡ true) (λ k fit. fit.1) (all_marks offers table) all) said in
    let each = plan_each (FitsStated secret) offers table place v p all said in
    let fits : Each (λ (k : SignedBy Mark). FitsSigned marks (λ signer. FitsMark) k) p.marks =
    each-weaken (FitsStated secret) (λ (k : SignedBy Mark). FitsSigned marks (λ signer. FitsMark) k) (λ k fit. fit.0) p.marks each.1 in
    let enough = cert.1 in
    let first = first-mark p.place p.digest p.marks (omega (arith, enough)) cert.0.stated fits in
    let few = plan_few offers table place v p said in
    let members = members-few v viewed in
    let low = view-low v viewed in
    let of_view = each.0 in
    record {
      place_fits = first.place_fits;
      digest_fits = first.digest_fits;
      view_fits = omega (arith, low, of_view);
      marks_fit = record { few = omega (arith, few, members); all = each_all (λ (k : SignedBy Mark). FitsSigned marks (λ signer. FitsMark) k) p.marks fits };
    }

made-fits : (P : Plan → Type 0) (made : Result Plan NotYet) → ((p : Plan) → made ≡ Ok p → P p) → IfSome (made_of made) P
made-fits P (Ok p) by = by p refl
made-fits P (Err why) by = tt

planning-fits : {S : Type 0} {m : Meaning S} (secret : List ℕ) (n : Node S) → FitNode m secret n → IfSome (planning n) FitsPlan
unfolding planning
planning-fits secret n is =
    if_cond FitsPlan (is_none n.fetch) (made_of (planned n.offers n.marks n.replica.place (view_of n)))
    (λ none. made-fits FitsPlan (planned n.offers n.marks n.replica.place (view_of n))
    (λ p said. planned-fits secret n.offers n.marks n.replica.place (view_of n) p is.view
    (all_each_mark (FitsStated secret) n.offers n.marks is.transfers.table_fits is.transfers.offers_fit) said))

fit-follow_plan : {S : Type 0} {m : Meaning S} (secret : List ℕ) (n : Node S) (plan : Option Plan) → IfSome plan FitsPlan → FitNode m secret n → FitNode m secret (follow_plan n plan)
unfolding follow_plan
fit-follow_plan secret n None fit is = is
fit-follow_plan {S = S} secret n (Some p) fit is =
    let x : Node S = record n { fetch = Some (record { plan = p; parts = [] }) } in
    fit-holding secret x (targets.Node p.seeder) (state_ask n p.place) (asked-good secret n p.place fit.place_fits.1 is)
    (fit-known secret n n.offers (Some (record { plan = p; parts = [] })) n.behind is.transfers.offers_fit (record { plan_fits = fit }) is)

pub fit-plans : {S : Type 0} {m : Meaning S} (secret : List ℕ) (n : Node S) → FitNode m secret n → FitNode m secret (plans n)
unfolding plans
fit-plans secret n is = fit-follow_plan secret n (planning n) (planning-fits secret n is) is

-- ---- a replica is taken over

no_bytes : IsBytes []
no_bytes = record { below = λ i. subst (λ (x : ℕ). x < 256) (sym (get_or_past {X = ℕ} [] i 0 (omega arith))) (omega arith) }

bytes-both : (xs ys : List ℕ) → IsBytes xs → IsBytes ys → IsBytes (xs ++ ys)
bytes-both [] ys are others = others
bytes-both (b ∷ bs) ys are others =
    let rest = bytes-both bs ys (record { below = λ j. are.below (suc j) }) others in
    record { below = λ i. at rest i }
  where
    at : IsBytes (bs ++ ys) → (i : ℕ) → get_or (b ∷ (bs ++ ys)) i 0 < 256
    at rest zero = are.below 0
    at rest (suc i) = rest.below i

part_bytes : (o : Option StatePart) → IfSome o (λ (p : StatePart). IsBytes p.bytes) → IsBytes (bytes_in o)
part_bytes None are = no_bytes
part_bytes (Some p) are = are

joined-bytes : (parts : List StatePart) (count : ℕ) → Each (λ (p : StatePart). IsBytes p.bytes) parts → IsBytes (joined parts count)
joined-bytes parts zero each = no_bytes
joined-bytes parts (suc count) each =
    bytes-both (joined parts count) (bytes_in (part_at parts count)) (joined-bytes parts count each)
    (part_bytes (part_at parts count) (if_find (λ (p : StatePart). IsBytes p.bytes) (is_numbered count) parts each))

joined_of-bytes : (f : Fetch) → Each (λ (p : StatePart). IsBytes p.bytes) f.parts → IsBytes (joined_of f)
unfolding joined_of
joined_of-bytes f each = joined-bytes f.parts (pieces_of f.plan.size) each

-- the lines of a replica that was read can be stated
read_line : (place : ℕ) (line : TableLine) → place < 2 ^ 63 → IsSmallLine place line → FitsLine line.last
read_line place line low fit = record {
  view = fit.view_fits;
  place = (let least = fit.some_place in omega (arith, least), (let past = fit.past_place in omega (arith, past, low)));
  index = (let few = fit.index_fits in omega (arith, few));
  client = (let known = fit.client_fits in omega (arith, known));
  seq = fit.seq_fits;
  reply = fit.reply_fits;
}

pub read-lines : {S : Type 0} (m : Meaning S) (r : Replica S) → IsSmall m r → Each FitsLine (kept_in r.table)
read-lines m r small =
    each_kept FitsLine r.table (each-weaken (IsSmallLine r.place) (λ (line : TableLine). FitsLine line.last) (λ line fit. read_line r.place line small.place_fits fit) r.table small.lines_fit)

fit-spoil : {S : Type 0} {m : Meaning S} (secret : List ℕ) (n : Node S) (f : Fetch) → FitNode m secret n → FitNode m secret (spoil n f)
unfolding spoil
fit-spoil secret n f is =
    fit-known secret n (filter (is_other_offer f.plan) n.offers) None n.behind
    (each_filter (λ (o : StateOffer). Each (FitsStated secret) o.marks) (is_other_offer f.plan) n.offers is.transfers.offers_fit) tt is

-- the views of a replica of the group
view-all : (vs : List View) (v : View) → Each (λ w. is_view w ≡ true) (v ∷ vs) → is_view (present (v ∷ vs)) ≡ true
view-all [] v each = each.0
view-all (w ∷ vs) v each = view-all vs w each.1

view-group : (place : ℕ) (views more : List View) → is_view (present views) ≡ true → go_on place views more ≡ true → Each (λ w. is_view w ≡ true) more → is_view (present more) ≡ true
unfolding is_view
view-group place [] more is on each = absurd (cc)
view-group place (v ∷ views) [] is on each = absurd (cc)
view-group place (v ∷ views) (w ∷ more) is on each = view-all more w each

-- with another replica of the group
fit-replaced : {S : Type 0} {m : Meaning S} (secret : List ℕ) (stays : Bool) (n : Node S) (r : Replica S) (owned : List OwnSnapshot) → is_view (present r.views) ≡ true → IsSmall m r → Each FitsSnapshot owned
    → ForBatch n.waiting (FitsWaiting (r.place + 1)) → FitNode m secret n
    → FitNode m secret (record (entered stays (record n { replica = r; pool = settled r.table n.pool; fetch = None })) { taken = n.taken ++ owned })
fit-replaced {S = S} {m = m} secret stays n r owned viewed small fits waiting is =
    let x : Node S = record n { replica = r; pool = settled r.table n.pool; fetch = None; taken = n.taken ++ owned } in
    fit-entered secret stays x (record {
      named = is.named;
      shared = is.shared;
      view = viewed;
      views = small.views_fit;
      regency = is.regency;
      lines = read-lines m r small;
      pool = each_filter (FitsPool secret) (λ q. is_next r.table q.statement) n.pool is.pool;
      arrivals = is.arrivals;
      told = is.told;
      begun = is.begun;
      book = is.book;
      waiting = waiting;
      held = is.held;
      service = small.service_fits;
      transfers = record {
        small = small;
        owned = subst (λ (ss : List OwnSnapshot). Each FitsSnapshot ss) (append_assoc (option_to_list n.checkpoint) n.taken owned)
            (each_append FitsSnapshot (own_snapshots n) owned is.transfers.owned fits);
        shown_fit = is.transfers.shown_fit;
        offers_fit = is.transfers.offers_fit;
        table_fits = is.transfers.table_fits;
        fetch_fits = tt;
      };
    })

none-waits : (place : ℕ) (waiting : Option Batch) → waiting ≡ None → ForBatch waiting (FitsWaiting place)
none-waits place None free = tt
none-waits place (Some batch) free = absurd (cc)

-- what a node takes over: a small replica, whose snapshot its bytes are
pub record Settled {S : Type 0} (m : Meaning S) (f : Fetch) (r : Replica S) : Type 0 where
  pub small : IsSmall m r
  pub text : joined_of f ≡ snapshot_text m r

-- a node of which what it may take over is so
pub record Settles {S : Type 0} (m : Meaning S) (n : Node S) : Type 0 where
  pub each : (f : Fetch) (r : Replica S) → IsReady n f → are_all_there f ≡ true → IsTakenFrom m f r → Settled m f r

-- so it is where all parts are bytes
pub settles-bytes : {S : Type 0} (m : Meaning S) → IsBrief m → (n : Node S) → ArePartsBytes n.fetch → Settles m n
settles-bytes {S = S} m brief n are = record { each = λ f r due all taken. of f r (stands_bytes n.fetch f due.stands are) taken }
  where
    stands_bytes : (fetch : Option Fetch) (f : Fetch) → fetch ≡ Some f → ArePartsBytes fetch → Each (λ (p : StatePart). IsBytes p.bytes) f.parts
    stands_bytes None f at are = absurd (cc)
    stands_bytes (Some x) f at are = subst (λ (y : Fetch). Each (λ (p : StatePart). IsBytes p.bytes) y.parts) (some_equal x f at) are

    of : (f : Fetch) (r : Replica S) → Each (λ (p : StatePart). IsBytes p.bytes) f.parts → IsTakenFrom m f r → Settled m f r
    of f r each taken =
        let bytes = joined_of-bytes f each in
        record { small = small-restored m brief (joined_of f) r bytes taken.read; text = restored_text m brief (joined_of f) r bytes taken.read }

fit-install_replica : {S : Type 0} {m : Meaning S} (secret : List ℕ) → IsBrief m → (n : Node S) (f : Fetch) (r : Replica S) → IsReady n f → Settled m f r → is_of_group n r ≡ true → FitsFetch f → FitNode m secret n
    → FitNode m secret (install_replica n f r)
unfolding install_replica
fit-install_replica {S = S} {m = m} secret brief n f r due takes of fit is =
    let entry : LogEntry = installed_by f.plan in
    let small = takes.small in
    let text = takes.text in
    let short = short_small m brief r small in
    let long : length (joined_of f) ≡ length (snapshot_text m r) = ap (λ (bs : List ℕ). length bs) text in
    let x : Node S = recording n entry in
    let recorded = fit-recording secret n entry (quiet-installed _) (record { place_fits = fit.plan_fits.place_fits; digest_fits = fit.plan_fits.digest_fits; view_fits = fit.plan_fits.view_fits; marks_fit = fit.plan_fits.marks_fit }) is in
    let own : OwnSnapshot = record { place = f.plan.place; snapshot = joined_of f; needs = length x.entries } in
    let viewed = view-group (next_place n) n.replica.views r.views is.view of small.views_fit in
    let z : Node S = record x { replica = r; pool = settled r.table n.pool; fetch = None } in
    let stays = stays_in_view n z in
    let installed = fit-replaced secret stays x r (own ∷ []) viewed small (record { place_fits = fit.plan_fits.place_fits; short = omega (arith, long, short) }, tt) (none-waits (r.place + 1) n.waiting due.free) recorded in
    let y : Node S = record (entered stays z) { taken = n.taken ++ own ∷ [] } in
    fit-holding secret y targets.View (state_ask y 0) (asked-good secret y 0 (omega arith) installed) installed

fit-install_by : {S : Type 0} {m : Meaning S} (secret : List ℕ) → IsBrief m → (n : Node S) (f : Fetch) (made : Result (Replica S) Spoiled) → IsReady n f → are_all_there f ≡ true → Settles m n → finished m f ≡ made → FitsFetch f
    → FitNode m secret n → FitNode m secret (install_by n f made)
fit-install_by {S = S} {m = m} secret brief n f (Ok r) due all settles at fit is =
    either_by (λ (x : Node S). FitNode m secret x) (is_of_group n r) (install_replica n f r) (spoil n f)
    (λ of. fit-install_replica secret brief n f r due (settles.each f r due all (finished_from m f r at)) of fit is) (λ strange. fit-spoil secret n f is)
fit-install_by secret brief n f (Err why) due all settles at fit is = fit-spoil secret n f is

pub fetch_stands : (fetch : Option Fetch) (f : Fetch) → fetch ≡ Some f → IfSome fetch FitsFetch → FitsFetch f
fetch_stands None f at fit = absurd (cc)
fetch_stands (Some x) f at fit = subst (λ (y : Fetch). FitsFetch y) (some_equal x f at) fit

fit-install_fetch : {S : Type 0} (secret : List ℕ) (m : Meaning S) → IsBrief m → (n : Node S) (due : Option Fetch) → installing n ≡ due → Settles m n → FitNode m secret n → FitNode m secret (install_fetch m n due)
unfolding install_fetch
fit-install_fetch secret m brief n None at settles is = is
fit-install_fetch secret m brief n (Some f) at settles is =
    let due = installing_is n f at in
    let ready = and_true (are_all_there f && is_none n.waiting) (nat_lt n.replica.place f.plan.place) (installing_ready n f at) in
    let all = (and_true (are_all_there f) (is_none n.waiting) ready.0).0 in
    fit-install_by secret brief n f (finished m f) due all settles refl (fetch_stands n.fetch f due.stands is.transfers.fetch_fits) is

-- what a node may take over is a small replica, and it takes it over
pub fit-installs : {S : Type 0} (secret : List ℕ) (m : Meaning S) → IsBrief m → (n : Node S) → Settles m n → FitNode m secret n → FitNode m secret (installs m n)
unfolding installs
fit-installs secret m brief n settles is = fit-install_fetch secret m brief n (installing n) refl settles is

-- ---- a step

fit-rules : {S : Type 0} (secret : List ℕ) (m : Meaning S) → KeptByRules {S = S} (λ n. FitNode m secret n)
fit-rules secret m = record {
  by_adopts = λ n is. fit-adopts secret n is;
  by_joins = λ n is. fit-joins secret n is;
  by_promises = λ n is. fit-promises secret n is;
  by_leads = λ n is. fit-leads secret n is;
  by_proposes = λ n is. fit-proposes secret n is;
  by_writes = λ n is. fit-writes secret n is;
  by_accepts = λ n is. fit-accepts secret n is;
  by_decides = λ n is. fit-decides secret n is;
  by_times = λ n is. fit-times secret n is;
  by_answers = λ n asked is. fit-answers_again secret n asked is;
  by_states = λ n a is. fit-answers_state secret n a is;
  by_plans = λ n is. fit-plans secret n is;
}

-- what comes has a spelling
abbrev pub FitsEvent : NodeEvent → Type 0
FitsEvent event = ForEvent Fits event

-- what takes an event in keeps that what a node holds has a spelling
pub fit-takes_in : {S : Type 0} {m : Meaning S} (secret : List ℕ) (n : Node S) (event : NodeEvent) → FitsEvent event → FitNode m secret n → FitNode m secret (takes_in n event).node
fit-takes_in {S = S} {m = m} secret n event fit is =
    takes_in_as (λ (x : Node S). FitNode m secret x) Fits n event (λ message. fit-noted secret n message is)
    (λ message none came. fit-kept secret (noted n message) message (why-noted n message ∙ none) came (fit-noted secret n message is))
    (λ count. fit-as secret n count n.proposed n.stop_made n.sync_made n.impatient n.behind is) fit is

-- so does each event, if what the node may take over is small
pub fit-step : {S : Type 0} (secret : List ℕ) (m : Meaning S) → IsBrief m → (n : Node S) (event : NodeEvent) → FitsEvent event → Settles m (takes_in n event).node → FitNode m secret n
    → FitNode m secret (step_of m n event).node
fit-step {S = S} secret m brief n event fit settles is =
    let t : Node S = (takes_in n event).node in
    let i : Node S = installs m t in
    let taken : FitNode m secret t = fit-takes_in secret n event fit is in
    let installed : FitNode m secret i = fit-installs secret m brief t settles taken in
    let delivered : FitNode m secret (delivers m i) = fit-delivers secret m brief i installed in
    keeps_from m (λ (x : Node S). FitNode m secret x) n event (fit-rules secret m) taken installed
    (by_mark m (λ (x : Node S). FitNode m secret x) (is_some i.waiting) (delivers m i) delivered
    (λ due. fit-mark secret m brief (delivers m i) (delivered-mark secret m i (and_true (is_some i.waiting) _ due).0 installed) delivered))

-- what is firm has left
pub fit-released : {S : Type 0} {m : Meaning S} (secret : List ℕ) (n : Node S) → FitNode m secret n → FitNode m secret (released n)
unfolding regency_of
fit-released secret n is =
    record {
      named = is.named;
      shared = is.shared;
      view = is.view;
      views = is.views;
      regency = is.regency;
      lines = is.lines;
      pool = is.pool;
      arrivals = is.arrivals;
      told = is.told;
      begun = is.begun;
      book = is.book;
      waiting = is.waiting;
      held = each_staying (λ (h : Held). IsGood secret h.message) n.firm n.held is.held;
      service = is.service;
      transfers = is.transfers;
    }

-- a node begins so
pub fit-opened : {S : Type 0} (secret : List ℕ) (m : Meaning S) (id : ℕ) (view : View) (period : ℕ) → IsSigner 1 id → is_view view ≡ true → FitNode m secret (opened (outset m secret id view period))
unfolding regency_of
fit-opened secret m id view period named is =
    record {
      named = named;
      shared = refl;
      view = is;
      views = (is, tt);
      regency = λ view. omega arith;
      lines = tt;
      pool = tt;
      arrivals = tt;
      told = tt;
      begun = tt;
      book = (tt, tt);
      waiting = tt;
      held = tt;
      service = comes_first;
      transfers = record {
        small = record { place_fits = omega arith; views_fit = (is, tt); few_views = omega arith; lines_fit = tt; lines_in_turn = tt; service_fits = comes_first };
        owned = tt;
        shown_fit = tt;
        offers_fit = tt;
        table_fits = tt;
        fetch_fits = tt;
      };
    }

-- ---- whatever comes

-- the last field of a part is of bytes where all are
part-bytes : (m : Message) → IsBytes (spelling m) → IsBytesIn m
unfolding spelling
part-bytes (changes.StatePart p) are =
    let part = u32 (length p.bytes) ++ p.bytes in
    bytes-after (u32 (length p.bytes)) p.bytes
    (bytes-after (u32 p.total) part (bytes-after (u32 p.index) (u32 p.total ++ part) (bytes-after (u64 p.place) (u32 p.index ++ (u32 p.total ++ part)) (bytes-after (u8 (kind (changes.StatePart p))) (part_text p) are))))
part-bytes _ are = tt

-- bytes that are a message are its spelling
bytes-fit : (bytes : List ℕ) (read : Result Message ℕ) → IsBytes bytes → decoded bytes ≡ read → ForRead Fits read × ForRead IsBytesIn read
bytes-fit bytes (Ok m) are is = let read = decoded_is bytes m are is in (read.0, part-bytes m (subst (λ (bs : List ℕ). IsBytes bs) read.1 are))
bytes-fit bytes (Err at) are is = (tt, tt)

pub event-fits : (event : NodeEvent) → IsByteEvent event → FitsEvent event × ForEvent IsBytesIn event
event-fits (Arrive bytes) are = bytes-fit bytes (decoded bytes) are refl
event-fits Tick are = (tt, tt)
event-fits Deliver are = (tt, tt)
event-fits (Firm count) are = (tt, tt)

-- what a node may take over is small, where all that comes is bytes
pub event-settles : {S : Type 0} (m : Meaning S) → IsBrief m → (n : Node S) (event : NodeEvent) → IsByteEvent event → ArePartsBytes n.fetch → Settles m (takes_in n event).node
event-settles m brief n event are parts = settles-bytes m brief (takes_in n event).node (parts-takes_in n event (event-fits event are).1 parts)

pub fit_after : {S : Type 0} (secret : List ℕ) (m : Meaning S) → IsBrief m → (n : Node S) (events : List NodeEvent) → Each IsByteEvent events → ArePartsBytes n.fetch → FitNode m secret n → FitNode m secret (node_after m n events)
fit_after secret m brief n [] each parts is = is
fit_after secret m brief n (e ∷ es) each parts is =
    fit_after secret m brief (step_of m n e).node es each.1 (parts-step m n e (event-fits e each.0).1 parts)
    (fit-step secret m brief n e (event-fits e each.0).0 (event-settles m brief n e each.0 parts) is)

pub holds_genuine : {S : Type 0} (m : Meaning S) → IsBrief m → (secret : List ℕ) (id : ℕ) (view : View) (period : ℕ) (events : List NodeEvent) → IsSigner 1 id → is_view view ≡ true → Each IsByteEvent events
    → HoldsGenuine (node_after m (opened (outset m secret id view period)) events)
holds_genuine {S = S} m brief secret id view period events named viewed each =
    let n : Node S = node_after m (opened (outset m secret id view period)) events in
    let fit : FitNode m secret n = fit_after secret m brief (opened (outset m secret id view period)) events each tt (fit-opened secret m id view period named viewed) in
    each-weaken (λ (h : Held). IsGood secret h.message) (λ (h : Held). IsGenuine n.secret h.message)
    (λ h good. subst (λ (s : List ℕ). IsGenuine s h.message) (sym fit.shared) (good-genuine secret h.message good)) n.held fit.held
