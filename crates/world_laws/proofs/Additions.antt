-- What a step of a node adds: snapshots that it took of its own replica, and entries whose marks are of later places than before.
use Rattle.std.proofs.Common.{◌≡◌, ℕ, ◌+◌, ◌<◌, ◌++◌, ◌∙◌, true, false, List, [], ◌∷◌, refl, ap, sym, subst, arith, Option, Some, None, is_some, nat_lt, append-nil, append_assoc, ◌&&◌, ◌==◌, Bool, Err, Ok, Result, inl, inr, ◌⊎◌}
use Rattle.smart_base.specs.Lists.{Each}
use Rattle.smart_base.proofs.ViewFacts.{each-weaken}
use Rattle.book_laws.proofs.CutAgain.{more_made}
use Rattle.vote_book.specs.Books.{HasMade}
use Rattle.smart_base.proofs.SameLists.{and_true}
use Rattle.smart_statements.specs.Forms.{SignedBy}
use Rattle.smart_statements.specs.Batches.{Batch}
use Rattle.smart_statements.specs.Reports.{marks}
use Rattle.smart_statements.specs.declared.report.Mark.{Mark}
use Rattle.smart_statements.specs.declared.report.Report.{Report}
use Rattle.smart_statements.specs.declared.statement.Request.{Request}
use Rattle.smart_statements.specs.declared.entry.NodeEvent.{NodeEvent}
use Rattle.smart_messages.specs.declared.regency.Sync.{Sync}
use Rattle.smart_messages.specs.declared.message.Message.TheVariants.{Ask, Reply}
use Rattle.smart_messages.specs.declared.message.Message.TheVariants as changes
use Rattle.smart_messages.specs.declared.message.Proposed.{Proposed}
use Rattle.smart_messages.specs.declared.message.Message.{Message}
use Rattle.smart_service.specs.Services.{Meaning}
use Rattle.smart_service.specs.declared.replica.Replica.{Replica}
use Rattle.smart_service.specs.declared.table.Execution.{Execution}
use Rattle.vote_book.specs.declared.entry.Decision.{Decision}
use Rattle.vote_book.specs.declared.entry.LogEntry.{LogEntry}
use Rattle.vote_book.specs.declared.entry.LogEntry.TheVariants.{Opened, Wrote, Accepted, Promised, Synced, Decided, Installed, Marked}
use Rattle.replica_rules.specs.Pools.{offered, settled}
use Rattle.replica_rules.specs.Replicas.{delivered, is_next}
use Rattle.snapshot_form.specs.Snapshots.{snapshot_text}
use Rattle.node_rules.specs.Nodes.{Node, next_place, regency_of, sending, recording, holding, holding_all, enters}
use Rattle.node_rules.specs.Arrivals.{kept, noted}
use Rattle.node_rules.specs.Marks.{is_own_turn, mark_of, own_snapshot, snapshots_due, mark_place, firm_at, marks_place}
use Rattle.node_rules.specs.Rules.{lines_to_answer, replies_with, replying, deliver_batch, delivers, proposing, propose_batch, proposes, writing, write_batch, writes, accepting, accept_batch, accepts, deciding, decide_batch, decides, answering, answer_line, answers_again}
use Rattle.node_rules.specs.Changes.{start_by_sync, promised_for, adopts_by, adoption, adopts, asks_next, joining, joins, promising, promise_next, promises, leading, lead_with, leads, timing, passes_on, presses, times, asks_state, lags}
use Rattle.node_rules.specs.Steps.{takes_in, step_of}
use Rattle.node_rules.specs.declared.node.Asked.{Asked}
use Rattle.node_rules.specs.declared.node.OwnSnapshot.{OwnSnapshot}
use Rattle.node_rules.specs.declared.node.Target.TheVariants as targets
use Rattle.node_rules.proofs.Rulewise.{KeptByRules, by_mark, free-event, keeps_from, takes_in_as, none_installs}
use Rattle.node_rules.proofs.Entries.{delivers_same, takes_in_same}
use Rattle.replica_laws.proofs.Follows.{waits-takes_in}
use Rattle.replica_laws.proofs.Replying.{place-delivers}
use Rattle.agreement_laws.proofs.Lists.{either, each_append}
use Rattle.kept_arrivals.proofs.Transfers.{installing_ready}
use Rattle.node_laws.proofs.Installing.{IsReady, installing_is}
use Rattle.node_laws.proofs.Planning.{IsTakenFrom, finished_from}
use Rattle.node_rules.specs.Transfers.{answers_state, follow_plan, gives_parts, install_by, install_fetch, install_replica, installed_by, installing, installs, is_of_group, offer_for, offers_state, part_messages, planning, plans, shown_after, spoil, taken_over}
use Rattle.node_rules.specs.declared.node.Target.{Target}
use Rattle.replica_laws.proofs.Installs.{takes-installs}
use Rattle.state_transfer.specs.Fetches.{are_all_there, finished, joined_of}
use Rattle.state_transfer.specs.declared.choice.Plan.{Plan}
use Rattle.state_transfer.specs.declared.fetch.Fetch.{Fetch}
use Rattle.state_transfer.specs.declared.fetch.Spoiled.{Spoiled}
use Rattle.std.specs.Prelude.{is_none}
use Rattle.transfer_form.specs.declared.transfer.StateAsk.{StateAsk}

-- a mark is of a place past a given one
abbrev pub IsMarkPast : ℕ → LogEntry → Type 0
IsMarkPast place (Opened o) = Unit {0}
IsMarkPast place (Wrote w) = Unit {0}
IsMarkPast place (Accepted a) = Unit {0}
IsMarkPast place (Promised p) = Unit {0}
IsMarkPast place (Synced s) = Unit {0}
IsMarkPast place (Decided d) = Unit {0}
IsMarkPast place (Installed i) = Unit {0}
IsMarkPast place (Marked m) = place < m.place

-- ---- rules that mark nothing

-- a node with the same replica and snapshots, with more entries, none of which is a mark
pub record Plain {S : Type 0} (n n' : Node S) : Type 0 where
  pub replica_is : n'.replica ≡ n.replica
  pub taken_is : n'.taken ≡ n.taken
  pub more : List LogEntry
  pub book_is : n'.entries ≡ n.entries ++ more
  pub unmarked : (place : ℕ) → Each (IsMarkPast place) more

pub plain-same : {S : Type 0} (n n' : Node S) → n'.replica ≡ n.replica → n'.taken ≡ n.taken → n'.entries ≡ n.entries → Plain n n'
plain-same n n' replica taken book = record { replica_is = replica; taken_is = taken; more = []; book_is = book ∙ sym (append-nil n.entries); unmarked = λ place. tt }

pub plain-adopts_by : {S : Type 0} (n : Node S) (sync : Option (SignedBy Sync)) → Plain n (adopts_by n sync)
unfolding adopts_by
plain-adopts_by n None = plain-same n n refl refl refl
plain-adopts_by n (Some sync) = record {
  replica_is = refl;
  taken_is = refl;
  more = promised_for n sync.statement ++ Synced (start_by_sync sync.statement) ∷ [];
  book_is = append_assoc n.entries (promised_for n sync.statement) (Synced (start_by_sync sync.statement) ∷ []);
  unmarked = λ place.
      each_append (IsMarkPast place) (promised_for n sync.statement) (Synced (start_by_sync sync.statement) ∷ [])
      (either (λ (es : List LogEntry). Each (IsMarkPast place) es) (nat_lt (regency_of n) sync.statement.regency) _ [] (tt, tt) tt) (tt, tt);
}

pub plain-adopts : {S : Type 0} (n : Node S) → Plain n (adopts n)
unfolding adopts
plain-adopts n = plain-adopts_by n (adoption n)

pub plain-joins : {S : Type 0} (n : Node S) → Plain n (joins n)
unfolding joins
plain-joins {S = S} n = either (λ (x : Node S). Plain n x) (joining n) (asks_next n) n (plain-same n (asks_next n) refl refl refl) (plain-same n n refl refl refl)

pub plain-promises : {S : Type 0} (n : Node S) → Plain n (promises n)
unfolding promises promise_next
plain-promises {S = S} n =
    either (λ (x : Node S). Plain n x) (promising n) (promise_next n) n
    (record { replica_is = refl; taken_is = refl; more = _; book_is = refl; unmarked = λ place. (tt, tt) }) (plain-same n n refl refl refl)

pub plain-lead_with : {S : Type 0} (n : Node S) (collect : Option (List (SignedBy Report))) → Plain n (lead_with n collect)
unfolding lead_with
plain-lead_with n None = plain-same n n refl refl refl
plain-lead_with n (Some collect) = plain-same n (lead_with n (Some collect)) refl refl refl

pub plain-leads : {S : Type 0} (n : Node S) → Plain n (leads n)
unfolding leads
plain-leads n = plain-lead_with n (leading n)

pub plain-propose_batch : {S : Type 0} (n : Node S) (batch : Option Batch) → Plain n (propose_batch n batch)
unfolding propose_batch
plain-propose_batch n None = plain-same n n refl refl refl
plain-propose_batch n (Some batch) = plain-same n (propose_batch n (Some batch)) refl refl refl

pub plain-proposes : {S : Type 0} (n : Node S) → Plain n (proposes n)
unfolding proposes
plain-proposes n = plain-propose_batch n (proposing n)

pub plain-write_batch : {S : Type 0} (n : Node S) (p : Option Proposed) → Plain n (write_batch n p)
unfolding write_batch
plain-write_batch n None = plain-same n n refl refl refl
plain-write_batch n (Some p) = record { replica_is = refl; taken_is = refl; more = _; book_is = refl; unmarked = λ place. (tt, tt) }

pub plain-writes : {S : Type 0} (n : Node S) → Plain n (writes n)
unfolding writes
plain-writes n = plain-write_batch n (writing n)

pub plain-accept_batch : {S : Type 0} (n : Node S) (p : Option Proposed) → Plain n (accept_batch n p)
unfolding accept_batch
plain-accept_batch n None = plain-same n n refl refl refl
plain-accept_batch n (Some p) = record { replica_is = refl; taken_is = refl; more = _; book_is = refl; unmarked = λ place. (tt, tt) }

pub plain-accepts : {S : Type 0} (n : Node S) → Plain n (accepts n)
unfolding accepts
plain-accepts n = plain-accept_batch n (accepting n)

pub plain-decide_batch : {S : Type 0} (n : Node S) (d : Option Decision) → Plain n (decide_batch n d)
unfolding decide_batch
plain-decide_batch n None = plain-same n n refl refl refl
plain-decide_batch n (Some d) = record { replica_is = refl; taken_is = refl; more = _; book_is = refl; unmarked = λ place. (tt, tt) }

pub plain-decides : {S : Type 0} (n : Node S) → Plain n (decides n)
unfolding decides
plain-decides n = plain-decide_batch n (deciding n)

pub plain-passes_on : {S : Type 0} (n x : Node S) (pool : List (SignedBy Request)) → Plain n x → Plain n (passes_on x pool)
plain-passes_on n x [] is = is
plain-passes_on n x (q ∷ qs) is = record { replica_is = is.replica_is; taken_is = is.taken_is; more = is.more; book_is = is.book_is; unmarked = is.unmarked }

pub plain-presses : {S : Type 0} (n : Node S) → Plain n (presses n)
unfolding presses
plain-presses {S = S} n =
    either (λ (x : Node S). Plain n x) n.impatient (asks_next n) (passes_on (record n { impatient = true }) n.pool) (plain-same n (asks_next n) refl refl refl)
    (plain-passes_on n (record n { impatient = true }) n.pool (plain-same n (record n { impatient = true }) refl refl refl))

pub plain-asks_state : {S : Type 0} (n : Node S) → Plain n (asks_state n)
unfolding asks_state
plain-asks_state n = plain-same n (asks_state n) refl refl refl

pub plain-times : {S : Type 0} (n : Node S) → Plain n (times n)
unfolding times
plain-times {S = S} n =
    either (λ (x : Node S). Plain n x) (lags n) (asks_state n) _ (plain-asks_state n)
    (either (λ (x : Node S). Plain n x) (timing n) (presses n) n (plain-presses n) (plain-same n n refl refl refl))

pub plain-answer_line : {S : Type 0} (n : Node S) (line : Option Execution) → Plain n (answer_line n line)
unfolding answer_line
plain-answer_line n None = plain-same n n refl refl refl
plain-answer_line n (Some line) = plain-same n (answer_line n (Some line)) refl refl refl

pub plain-answers_again : {S : Type 0} (n : Node S) (asked : Asked) → Plain n (answers_again n asked)
unfolding answers_again
plain-answers_again n asked = plain-answer_line n (answering n asked)

pub plain-then : {S : Type 0} (a b c : Node S) → c.replica ≡ b.replica → c.taken ≡ b.taken → c.entries ≡ b.entries → Plain a b → Plain a c
plain-then a b c replica taken book is = record { replica_is = replica ∙ is.replica_is; taken_is = taken ∙ is.taken_is; more = is.more; book_is = book ∙ is.book_is; unmarked = is.unmarked }

pub plain-holding_all : {S : Type 0} (a n : Node S) (to : Target) (ms : List Message) → Plain a n → Plain a (holding_all n to ms)
plain-holding_all a n to [] is = is
plain-holding_all a n to (m ∷ ms) is = plain-holding_all a (holding n to m) to ms (plain-then a n (holding n to m) refl refl refl is)

pub plain-answers_state : {S : Type 0} (n : Node S) (a : StateAsk) → Plain n (answers_state n a)
unfolding answers_state offers_state gives_parts
plain-answers_state {S = S} n a =
    either (λ (x : Node S). Plain n x) (a.fetch == 0) (offers_state n a) (gives_parts n a)
    (plain-holding_all n n (targets.Node a.member) (changes.StateOffer (offer_for n a.place) ∷ shown_after n a.place) (plain-same n n refl refl refl))
    (plain-holding_all n n (targets.Node a.member) (part_messages (firm_at n a.fetch)) (plain-same n n refl refl refl))

pub plain-follow_plan : {S : Type 0} (n : Node S) (plan : Option Plan) → Plain n (follow_plan n plan)
unfolding follow_plan
plain-follow_plan n None = plain-same n n refl refl refl
plain-follow_plan n (Some p) = plain-same n (follow_plan n (Some p)) refl refl refl

pub plain-plans : {S : Type 0} (n : Node S) → Plain n (plans n)
unfolding plans
plain-plans n = plain-follow_plan n (planning n)

-- ---- what is taken in, and a delivery

taken-noted : {S : Type 0} (n : Node S) (message : Message) → (noted n message).taken ≡ n.taken
unfolding noted
taken-noted n message = refl

taken-kept : {S : Type 0} (n : Node S) (message : Message) → (kept n message).taken ≡ n.taken
unfolding kept
taken-kept {S = S} n (Ask q) = either (λ (x : Node S). x.taken ≡ n.taken) (is_next n.replica.table q.statement) (record n { pool = offered n.pool q }) n refl refl
taken-kept n (Reply a) = refl
taken-kept n _ = refl

taken-takes_in : {S : Type 0} (n : Node S) (event : NodeEvent) → (takes_in n event).node.taken ≡ n.taken
taken-takes_in {S = S} n event =
    takes_in_as (λ (x : Node S). x.taken ≡ n.taken) (λ message. Unit {0}) n event (λ message. taken-noted n message)
    (λ message none may. taken-kept (noted n message) message ∙ taken-noted n message) (λ count. refl) (free-event event) refl

taken-replying : {S : Type 0} (lines : List Execution) (n : Node S) → (replying n lines).taken ≡ n.taken
taken-replying [] n = refl
taken-replying (line ∷ lines) n = taken-replying lines (replies_with n line)

taken-deliver_batch : {S : Type 0} (m : Meaning S) (n : Node S) (batch : Option Batch) → (deliver_batch m n batch).taken ≡ n.taken
unfolding deliver_batch
taken-deliver_batch m n None = refl
taken-deliver_batch m n (Some batch) =
    taken-replying (lines_to_answer m n batch) (enters n (record n { replica = delivered m n.replica batch; waiting = None; pool = settled (delivered m n.replica batch).table n.pool; impatient = false }))

taken-delivers : {S : Type 0} (m : Meaning S) (n : Node S) → (delivers m n).taken ≡ n.taken
unfolding delivers
taken-delivers m n = taken-deliver_batch m n n.waiting

-- ---- snapshots

-- a snapshot of a replica, taken at its place: the next one of an earlier node, at which a batch waited
pub record IsOwnOf {S : Type 0} (m : Meaning S) (a : Node S) (r : Replica S) (own : OwnSnapshot) : Type 0 where
  pub waits : is_some a.waiting ≡ true
  pub next : own.place ≡ next_place a
  pub place : own.place ≡ r.place
  pub snapshot : own.snapshot ≡ snapshot_text m r

-- a snapshot that a node took over, with the replica that it is read as
pub record IsOverOf {S : Type 0} (m : Meaning S) (t : Node S) (r : Replica S) (own : OwnSnapshot) : Type 0 where
  pub fetch : Fetch
  pub due : IsReady t fetch
  pub all : are_all_there fetch ≡ true
  pub taken : IsTakenFrom m fetch r
  pub place : own.place ≡ fetch.plan.place
  pub snapshot : own.snapshot ≡ joined_of fetch

-- a new snapshot of a node's replica: its own one, or one that it took over, whose place new entries make
abbrev pub IsNewOf : {S : Type 0} → Meaning S → Node S → Node S → Replica S → List LogEntry → OwnSnapshot → Type 0
IsNewOf m a t r rest own = IsOwnOf m a r own ⊎ (IsOverOf m t r own × HasMade rest own.place)

-- it stays one where more is written
new_more : {S : Type 0} (m : Meaning S) (a t : Node S) (r : Replica S) (rest more : List LogEntry) (own : OwnSnapshot) → IsNewOf m a t r rest own → IsNewOf m a t r (rest ++ more) own
new_more m a t r rest more own (inl is) = inl is
new_more m a t r rest more own (inr is) = inr (is.0, more_made own.place rest more is.1)

-- What a later node has more than an earlier one: snapshots of its replica, and entries whose marks are of later places. A node in between has taken
-- an event in.
pub record Adds {S : Type 0} (m : Meaning S) (a t n : Node S) : Type 0 where
  pub news : List OwnSnapshot
  pub taken_is : n.taken ≡ a.taken ++ news
  pub rest : List LogEntry
  pub each : Each (IsNewOf m a t n.replica rest) news
  pub book_is : n.entries ≡ a.entries ++ rest
  pub later : Each (IsMarkPast a.replica.place) rest

adds-none : {S : Type 0} (m : Meaning S) (a t n : Node S) → n.taken ≡ a.taken → n.entries ≡ a.entries → Adds m a t n
adds-none m a t n taken book = record { news = []; taken_is = taken ∙ sym (append-nil a.taken); rest = []; each = tt; book_is = book ∙ sym (append-nil a.entries); later = tt }

adds-plain : {S : Type 0} (m : Meaning S) (a t n n' : Node S) → Plain n n' → Adds m a t n → Adds m a t n'
adds-plain {S = S} m a t n n' p is = record {
  news = is.news;
  taken_is = p.taken_is ∙ is.taken_is;
  rest = is.rest ++ p.more;
  each = each-weaken (IsNewOf m a t n'.replica is.rest) (IsNewOf m a t n'.replica (is.rest ++ p.more)) (new_more m a t n'.replica is.rest p.more) is.news
      (subst (λ (r : Replica S). Each (IsNewOf m a t r is.rest) is.news) (sym p.replica_is) is.each);
  book_is = p.book_is ∙ (ap (λ (es : List LogEntry). es ++ p.more) is.book_is ∙ append_assoc a.entries is.rest p.more);
  later = each_append (IsMarkPast a.replica.place) is.rest p.more is.later (p.unmarked a.replica.place);
}

adds-rules : {S : Type 0} (m : Meaning S) (a t : Node S) → KeptByRules (λ n. Adds m a t n)
adds-rules m a t = record {
  by_adopts = λ n is. adds-plain m a t n (adopts n) (plain-adopts n) is;
  by_joins = λ n is. adds-plain m a t n (joins n) (plain-joins n) is;
  by_promises = λ n is. adds-plain m a t n (promises n) (plain-promises n) is;
  by_leads = λ n is. adds-plain m a t n (leads n) (plain-leads n) is;
  by_proposes = λ n is. adds-plain m a t n (proposes n) (plain-proposes n) is;
  by_writes = λ n is. adds-plain m a t n (writes n) (plain-writes n) is;
  by_accepts = λ n is. adds-plain m a t n (accepts n) (plain-accepts n) is;
  by_decides = λ n is. adds-plain m a t n (decides n) (plain-decides n) is;
  by_times = λ n is. adds-plain m a t n (times n) (plain-times n) is;
  by_answers = λ n asked is. adds-plain m a t n (answers_again n asked) (plain-answers_again n asked) is;
  by_states = λ n ask is. adds-plain m a t n (answers_state n ask) (plain-answers_state n ask) is;
  by_plans = λ n is. adds-plain m a t n (plans n) (plain-plans n) is;
}

-- ---- an installation

adds-over : {S : Type 0} (m : Meaning S) (a t : Node S) (f : Fetch) (r : Replica S) → IsReady t f → are_all_there f ≡ true → IsTakenFrom m f r → t.taken ≡ a.taken → t.entries ≡ a.entries → Adds m a t (install_replica t f r)
unfolding install_replica
adds-over {S = S} m a t f r due all taken same book =
    let x : Node S = record (recording t (installed_by f.plan)) { replica = r; pool = settled r.table t.pool; fetch = None } in
    record {
      news = taken_over x f ∷ [];
      taken_is = ap (λ (ss : List OwnSnapshot). ss ++ taken_over x f ∷ []) same;
      rest = installed_by f.plan ∷ [];
      each = (inr (record { fetch = f; due = due; all = all; taken = taken; place = refl; snapshot = refl }, record { entry = installed_by f.plan; there = inl refl; made = refl }), tt);
      book_is = ap (λ (es : List LogEntry). es ++ installed_by f.plan ∷ []) book;
      later = (tt, tt);
    }

adds-install_by : {S : Type 0} (m : Meaning S) (a t : Node S) (f : Fetch) (made : Result (Replica S) Spoiled) → finished m f ≡ made → IsReady t f → are_all_there f ≡ true → t.taken ≡ a.taken → t.entries ≡ a.entries
    → Adds m a t (install_by t f made)
unfolding spoil
adds-install_by m a t f (Err why) at due all same book = adds-none m a t (spoil t f) same book
adds-install_by {S = S} m a t f (Ok r) at due all same book =
    either (λ (x : Node S). Adds m a t x) (is_of_group t r) (install_replica t f r) (spoil t f) (adds-over m a t f r due all (finished_from m f r at) same book) (adds-none m a t (spoil t f) same book)

adds-install_fetch : {S : Type 0} (m : Meaning S) (a t : Node S) (due : Option Fetch) → installing t ≡ due → t.taken ≡ a.taken → t.entries ≡ a.entries → Adds m a t (install_fetch m t due)
unfolding install_fetch
adds-install_fetch m a t None at same book = adds-none m a t t same book
adds-install_fetch m a t (Some f) at same book =
    let ready = and_true (are_all_there f && is_none t.waiting) (nat_lt t.replica.place f.plan.place) (installing_ready t f at) in
    adds-install_by m a t f (finished m f) refl (installing_is t f at) (and_true (are_all_there f) (is_none t.waiting) ready.0).0 same book

adds-installs : {S : Type 0} (m : Meaning S) (a t : Node S) → t.taken ≡ a.taken → t.entries ≡ a.entries → Adds m a t (installs m t)
unfolding installs
adds-installs m a t same book = adds-install_fetch m a t (installing t) refl same book

-- a node whose decided batch waits installs nothing
none_fetched : {S : Type 0} (m : Meaning S) (n : Node S) (due : Option Fetch) → due ≡ None → install_fetch m n due ≡ n
unfolding install_fetch
none_fetched m n None at = refl
none_fetched m n (Some f) at = absurd (cc)

waits-installs : {S : Type 0} (m : Meaning S) (n : Node S) → is_some n.waiting ≡ true → installs m n ≡ n
unfolding installs
waits-installs m n waits = none_fetched m n (installing n) (none_installs m n waits)

-- where no batch waits, a delivery leaves the node
nothing_waits : {S : Type 0} (m : Meaning S) (n : Node S) (w : Option Batch) → is_some w ≡ false → deliver_batch m n w ≡ n
unfolding deliver_batch
nothing_waits m n None is = refl
nothing_waits m n (Some batch) is = absurd (cc)

delivers_none : {S : Type 0} (m : Meaning S) (n : Node S) → is_some n.waiting ≡ false → delivers m n ≡ n
unfolding delivers
delivers_none m n free = nothing_waits m n n.waiting free

-- ---- a step

-- the node that has recorded and sent its mark
abbrev mark_sent : {S : Type 0} → Meaning S → Node S → Node S
mark_sent m n = sending (recording n (Marked (mark_of m n))) targets.View marks (mark_of m n) (λ (s : SignedBy Mark). changes.Mark s)

own_due : {S : Type 0} (m : Meaning S) (a t x : Node S) (rest : List LogEntry) → IsOwnOf m a x.replica (own_snapshot m x) → Each (IsNewOf m a t x.replica rest) (snapshots_due m x)
own_due m a t x rest own = either (λ (ss : List OwnSnapshot). Each (IsNewOf m a t x.replica rest) ss) (is_own_turn x x.replica.place) (own_snapshot m x ∷ []) [] (inl own, tt) tt

adds-mark : {S : Type 0} (m : Meaning S) (a t d : Node S) → d.taken ≡ a.taken → d.entries ≡ a.entries → is_some a.waiting ≡ true → d.replica.place ≡ next_place a → Adds m a t (mark_place m d)
unfolding mark_place
adds-mark m a t d taken book waits next = record {
  news = snapshots_due m (mark_sent m d);
  taken_is = ap (λ (ss : List OwnSnapshot). ss ++ snapshots_due m (mark_sent m d)) taken;
  rest = Marked (mark_of m d) ∷ [];
  each = own_due m a t (mark_sent m d) (Marked (mark_of m d) ∷ []) (record { waits = waits; next = next; place = refl; snapshot = refl });
  book_is = ap (λ (es : List LogEntry). es ++ Marked (mark_of m d) ∷ []) book;
  later = (omega (arith, next), tt);
}

-- behind an installation, a delivery and its mark
adds-behind : {S : Type 0} (m : Meaning S) (a t : Node S) (w : Bool) → is_some (installs m t).waiting ≡ w → (installs m t).waiting ≡ t.waiting → t.waiting ≡ a.waiting → t.replica ≡ a.replica → t.taken ≡ a.taken
    → t.entries ≡ a.entries → Adds m a t (marks_place m w (delivers m (installs m t)))
adds-behind {S = S} m a t false free kept waits replica taken book =
    subst (λ (x : Node S). Adds m a t x) (sym (delivers_none m (installs m t) free)) (adds-installs m a t taken book)
adds-behind {S = S} m a t true some kept waits replica taken book =
    let here : is_some t.waiting ≡ true = ap (λ (o : Option Batch). is_some o) (sym kept) ∙ some in
    let same : installs m t ≡ t = waits-installs m t here in
    let d : Node S = delivers m t in
    let none : Adds m a t d = adds-none m a t d (taken-delivers m t ∙ taken) (delivers_same m t ∙ book) in
    subst (λ (x : Node S). Adds m a t (marks_place m true (delivers m x))) (sym same)
    (by_mark m (λ (x : Node S). Adds m a t x) true d none
    (λ due. adds-mark m a t d (taken-delivers m t ∙ taken) (delivers_same m t ∙ book) (ap (λ (o : Option Batch). is_some o) (sym waits) ∙ here)
    (place-delivers m t here ∙ ap (λ (r : Replica S). r.place + 1) replica)))

-- what a step adds
pub adds-step : {S : Type 0} (m : Meaning S) (n : Node S) (event : NodeEvent) → Adds m n (takes_in n event).node (step_of m n event).node
adds-step {S = S} m n event =
    let t : Node S = (takes_in n event).node in
    let taken : t.taken ≡ n.taken = taken-takes_in n event in
    let book : t.entries ≡ n.entries = takes_in_same n event in
    let same = waits-takes_in n event in
    keeps_from m (λ (x : Node S). Adds m n t x) n event (adds-rules m n t) (adds-none m n t t taken book) (adds-installs m n t taken book)
    (adds-behind m n t (is_some (installs m t).waiting) refl (takes-installs m t).waits same.waits same.replica_is taken book)
