-- A step of a node: one event is taken in, and then the rules pass, each once, in their order. Also the messages that leave.
use Rattle.std.specs.Prelude.{ℕ, ◌+◌, ◌-◌, ◌^◌, min, nat_le, List, [], ◌∷◌, ◌++◌, if◌then◌else◌, Option, Some, None, is_some, Result, Ok, Err, false}
use Rattle.smart_base.specs.Views.{View, present}
use Rattle.smart_messages.specs.Messages.{decoded}
use Rattle.smart_messages.specs.declared.message.Message.{Message}
use Rattle.smart_statements.specs.declared.entry.NodeEvent.{NodeEvent}
use Rattle.smart_statements.specs.declared.entry.NodeEvent.TheVariants.{Arrive, Tick, Deliver, Firm}
use Rattle.smart_service.specs.Services.{Meaning}
use Rattle.smart_service.specs.declared.replica.Replica.{Replica}
use Rattle.vote_book.specs.declared.entry.LogEntry.TheVariants.{Opened}
use Rattle.replica_rules.specs.Replicas.{empty}
use Rattle.node_rules.specs.Nodes.{Node, next_place}
use Rattle.node_rules.specs.Arrivals.{why_dropped, noted, kept}
use Rattle.node_rules.specs.Rules.{fired_if, delivers, delivery, proposing, proposes, writing, writes, accepting, accepts, deciding, decides, called_by}
use Rattle.node_rules.specs.Changes.{fired_when, fired_adopt, adoption, adopts, joining, joins, next_promise, promising, promises, leading, leads, timing, times}
use Rattle.node_rules.specs.Marks.{marks_place, marked}
use Rattle.node_rules.specs.Transfers.{installing, installs, install_told, answers_call, answered_call}
use Rattle.node_rules.specs.declared.node.Called.TheVariants as calls
use Rattle.node_rules.specs.declared.node.OwnSnapshot.{OwnSnapshot}
use Rattle.node_rules.specs.declared.node.Cause.{Cause}
use Rattle.node_rules.specs.declared.node.Cause.TheVariants.{Came, Ticked, Delivering, Firmed}
use Rattle.node_rules.specs.declared.node.Why.{Why}
use Rattle.node_rules.specs.declared.node.Why.TheVariants.{Unread}
use Rattle.node_rules.specs.declared.node.Held.{Held}
use Rattle.node_rules.specs.declared.node.Fired.{Fired}
use Rattle.node_rules.specs.declared.node.Fired.TheVariants as fires

-- the outcome of a step: the node after it, and what the step reports
pub record Outcome (S : Type 0) : Type 0 where
  pub node : Node S
  -- the rules that fired, in order
  pub fired : List Fired
  -- the reason for which the arrival was dropped, if it was
  pub dropped : Option Why

-- an event that was taken in: the node behind it, what calls for the rules, and the reason for which it was dropped, if it was
pub record Taken (S : Type 0) : Type 0 where
  pub node : Node S
  pub cause : Cause
  pub dropped : Option Why

-- the node of which the restored entries and so many later ones are firm; the number stays within 64 bits
abbrev pub made_firm : {S : Type 0} → Node S → ℕ → Node S
made_firm n count = record n { firm = min (n.restored + count) (2 ^ 64 - 1) }

-- what a message makes of a node before any rule, by the reason that drops it. A dropped message is kept nowhere; it can only show that the node lags.
abbrev pub judged : {S : Type 0} → Node S → Message → Option Why → Taken S
judged n message None = record { node = kept (noted n message) message; cause = Came (called_by message); dropped = None }
judged n message (Some why) = record { node = noted n message; cause = Came calls.Nobody; dropped = Some why }

-- what bytes make of a node before any rule, after they are read. Bytes that are no message are dropped.
abbrev pub reads : {S : Type 0} → Node S → Result Message ℕ → Taken S
reads n (Ok message) = judged n message (why_dropped n message)
reads n (Err at) = record { node = n; cause = Came calls.Nobody; dropped = Some Unread }

-- what an event makes of a node before any rule
unfoldable pub takes_in : {S : Type 0} → Node S → NodeEvent → Taken S
takes_in n (Arrive bytes) = reads n (decoded bytes)
takes_in n Tick = record { node = n; cause = Ticked; dropped = None }
takes_in n Deliver = record { node = n; cause = Delivering; dropped = None }
takes_in n (Firm count) = record { node = made_firm n count; cause = Firmed; dropped = None }

-- A row: one rule. From the node, what calls for the rules and what fired before, it gives the node behind the rule and what has fired by then.
abbrev pub Row : Type 0 → Type 0
Row S = Node S → Cause → List Fired → Node S × List Fired

-- the row of a rule that looks at the node alone, with the events that the rule reports
abbrev pub row : {S : Type 0} → (Node S → Node S) → (Node S → List Fired) → Row S
row rule tells n cause fired = (rule n, fired ++ tells n)

-- the row of the rule that installs
abbrev pub install_row : {S : Type 0} → Meaning S → Row S
install_row m = row (installs m) (λ n. install_told m n (installing n))

-- the row of the rules that deliver and mark, where the service is to execute what waits
abbrev pub deliver_row : {S : Type 0} → Meaning S → Row S
deliver_row m n Delivering fired =
    (marks_place m (is_some n.waiting) (delivers m n), (fired ++ delivery m n n.waiting) ++ marked m (is_some n.waiting) (delivers m n))
deliver_row m n _ fired = (n, fired)

-- the row of the rule that adopts
abbrev pub adopt_row : {S : Type 0} → Row S
adopt_row = row adopts (λ n. fired_adopt (adoption n))

-- the row of the rule that joins
abbrev pub join_row : {S : Type 0} → Row S
join_row = row joins (λ n. fired_when fires.Joined (joining n))

-- the row of the rule that promises
abbrev pub promise_row : {S : Type 0} → Row S
promise_row = row promises (λ n. fired_when (fires.Promised (next_promise n)) (promising n))

-- the row of the rule that leads, with the reports that it collects
abbrev pub lead_row : {S : Type 0} → Row S
lead_row = row leads (λ n. fired_if fires.Led (leading n))

-- the row of the rule that proposes
abbrev pub propose_row : {S : Type 0} → Row S
propose_row = row proposes (λ n. fired_if fires.Proposed (proposing n))

-- the row of the rule that writes
abbrev pub write_row : {S : Type 0} → Row S
write_row = row writes (λ n. fired_if fires.Wrote (writing n))

-- the row of the rule that accepts
abbrev pub accept_row : {S : Type 0} → Row S
accept_row = row accepts (λ n. fired_if fires.Accepted (accepting n))

-- the row of the rule that decides
abbrev pub decide_row : {S : Type 0} → Row S
decide_row = row decides (λ n. fired_if (fires.Decided (next_place n)) (deciding n))

-- the row of the rule that acts on time, where time passed
abbrev pub time_row : {S : Type 0} → Row S
time_row n Ticked fired = (times n, fired ++ fired_when fires.Timed (timing n))
time_row n _ fired = (n, fired)

-- the row of the rules that answer what came
abbrev pub answer_row : {S : Type 0} → Row S
answer_row n (Came called) fired = (answers_call n called, fired ++ answered_call n called)
answer_row n _ fired = (n, fired)

-- the rules of a leader change
unfoldable pub turn_rows : {S : Type 0} → List (Row S)
turn_rows = adopt_row ∷ (join_row ∷ (promise_row ∷ (lead_row ∷ [])))

-- the rules that vote
unfoldable pub vote_rows : {S : Type 0} → List (Row S)
vote_rows = propose_row ∷ (write_row ∷ (accept_row ∷ []))

-- the rules behind the votes: decide, act on time, and answer again
unfoldable pub end_rows : {S : Type 0} → List (Row S)
end_rows = decide_row ∷ (time_row ∷ (answer_row ∷ []))

-- the rules of a node, in their order
unfoldable pub rules : {S : Type 0} → Meaning S → List (Row S)
rules m = install_row m ∷ (deliver_row m ∷ (turn_rows ++ (vote_rows ++ end_rows)))

-- one pass of rules: each once, on what the one before it left
unfoldable pub pass : {S : Type 0} → List (Row S) → Node S → Cause → List Fired → Node S × List Fired
pass [] n cause fired = (n, fired)
pass (r ∷ rows) n cause fired = pass rows (r n cause fired).0 cause (r n cause fired).1

-- the outcome of what was taken in: one pass of the rules. What was dropped fires none.
abbrev pub passed : {S : Type 0} → Meaning S → Taken S → Option Why → Outcome S
passed m t None = record { node = (pass (rules m) t.node t.cause []).0; fired = (pass (rules m) t.node t.cause []).1; dropped = None }
passed m t (Some why) = record { node = t.node; fired = []; dropped = Some why }

-- the step of a node: what one event makes of it, and what it reports
unfoldable pub step_of : {S : Type 0} → Meaning S → Node S → NodeEvent → Outcome S
step_of m n event = passed m (takes_in n event) (takes_in n event).dropped

-- release: held messages leave in order, each after its entries are firm (replies: Dura-SMaRt, USENIX ATC 2013; votes and reports: this
-- project's own)

-- the first held message, if its entries are firm
abbrev pub first_leaving : ℕ → List Held → Option Held
first_leaving firm [] = None
first_leaving firm (h ∷ hs) = if nat_le h.needs firm then Some h else None

-- the held messages without the first, if that one leaves
abbrev pub after_first : ℕ → List Held → List Held
after_first firm [] = []
after_first firm (h ∷ hs) = if nat_le h.needs firm then hs else h ∷ hs

-- the held messages that leave: all before the first whose entries are not firm
abbrev pub leaving : ℕ → List Held → List Held
leaving firm [] = []
leaving firm (h ∷ hs) = if nat_le h.needs firm then h ∷ leaving firm hs else []

-- the held messages that stay: from the first whose entries are not firm
abbrev pub staying : ℕ → List Held → List Held
staying firm [] = []
staying firm (h ∷ hs) = if nat_le h.needs firm then staying firm hs else h ∷ hs

-- the node after its messages left
abbrev pub released : {S : Type 0} → Node S → Node S
released n = record n { held = staying n.firm n.held }

-- ---- what a node begins from

-- an outset: what a node begins from, whether it opens its book or goes on from entries. It has the node's member, the secret of the group,
-- the period, and the replica. That is the empty one, or the one of a checkpoint.
pub record Outset (S : Type 0) : Type 0 where
  pub member : ℕ
  pub secret : List ℕ
  pub period : ℕ
  pub replica : Replica S
  -- the snapshot of the checkpoint, if there is one
  pub checkpoint : Option OwnSnapshot

-- the outset of a member in a new group: its replica is empty
abbrev pub outset : {S : Type 0} → Meaning S → List ℕ → ℕ → View → ℕ → Outset S
outset m secret id view period = record { member = id; secret = secret; period = period; replica = empty m view; checkpoint = None }

-- a new node of a group: its book has the opening alone, which states the member, the period and the view
abbrev pub opened : {S : Type 0} → Outset S → Node S
opened o =
    record {
      id = o.member;
      secret = o.secret;
      period = o.period;
      replica = o.replica;
      opening = o.replica.place;
      waiting = None;
      pool = [];
      arrivals = [];
      decisions = [];
      stops = [];
      reports = [];
      syncs = [];
      marks = [];
      offers = [];
      fetch = None;
      entries = Opened (record { member = o.member; period = o.period; view = present o.replica.views }) ∷ [];
      checkpoint = o.checkpoint;
      taken = [];
      restored = 0;
      firm = 0;
      held = [];
      proposed = [];
      stop_made = false;
      sync_made = false;
      impatient = false;
      behind = false;
    }
