-- A node keeps its name and its secret, and its book only grows.
use Rattle.std.proofs.Common.{◌≡◌, ◌++◌, false, List, [], ◌∷◌, refl, ap, ◌∙◌, sym, Option, Some, None, is_some, append-nil, append_assoc}
use Rattle.smart_statements.specs.Batches.{Batch}
use Rattle.smart_messages.specs.Messages.{decoded}
use Rattle.smart_messages.specs.declared.message.Proposed.{Proposed}
use Rattle.smart_messages.specs.declared.message.Message.{Message}
use Rattle.smart_statements.specs.declared.entry.NodeEvent.{NodeEvent}
use Rattle.smart_statements.specs.declared.entry.NodeEvent.TheVariants.{Arrive, Tick, Deliver, Firm}
use Rattle.smart_service.specs.Services.{Meaning}
use Rattle.smart_service.specs.declared.table.Execution.{Execution}
use Rattle.vote_book.specs.declared.entry.Decision.{Decision}
use Rattle.vote_book.specs.declared.entry.LogEntry.{LogEntry}
use Rattle.vote_book.specs.declared.entry.LogEntry.TheVariants.{Installed}
use Rattle.node_rules.specs.Transfers.{installs, answers_state, plans}
use Rattle.replica_laws.proofs.Installs.{takes-installs, book-installs}
use Rattle.replica_rules.specs.Pools.{settled}
use Rattle.replica_rules.specs.Replicas.{delivered}
use Rattle.node_rules.specs.Rules.{reply_of, replying, lines_to_answer, deliver_batch, delivers, proposes, writing, write_batch, writes, accepting, accept_batch, accepts, deciding, decide_batch, decides, answers_again}
use Rattle.node_rules.specs.Marks.{mark_place}
use Rattle.node_rules.specs.Nodes.{Node, holding, enters}
use Rattle.node_rules.specs.Arrivals.{noted, kept}
use Rattle.node_rules.specs.Changes.{adoption, adopts, joins, promising, promise_next, promises, leads, times}
use Rattle.node_rules.specs.Steps.{made_firm, rules, pass, takes_in, step_of}
use Rattle.node_rules.specs.declared.node.Cause.{Cause}
use Rattle.node_rules.specs.declared.node.Fired.{Fired}
use Rattle.node_rules.specs.declared.node.Target.TheVariants as targets
use Rattle.agreement_laws.specs.Fronts.{IsFront}
use Rattle.replica_laws.proofs.Once.{entries_adopted}
use Rattle.replica_laws.proofs.Leaves.{Leaves, leaves-adopts, leaves-joins, leaves-promises, leaves-leads, leaves-proposes, leaves-writes, leaves-accepts, leaves-times, leaves-answers_again, leaves-answers_state, leaves-plans, leaves-noted, leaves-kept, leaves-mark}
use Rattle.node_rules.proofs.Rulewise.{told_installed, KeptByRules, by_delivery, by_mark, free-read, keeps_rules, reads_as, keeps_from}
use Rattle.agreement_laws.proofs.Lists.{either}
use Rattle.node_rules.proofs.Entries.{noted_same, answers_again_same, answers_state_same, plans_same, kept_same, joins_same, leads_same, proposes_same, times_same}

-- fronts

pub front_same : {A : Type 0} (xs : List A) → IsFront xs xs
front_same xs = record { rest = []; is = sym (append-nil xs) }

front_end : {A : Type 0} (front xs : List A) (x : A) → IsFront front xs → IsFront front (xs ++ x ∷ [])
front_end {A} front xs x f = record { rest = f.rest ++ x ∷ []; is = ap (λ (ys : List A). ys ++ x ∷ []) f.is ∙ append_assoc front f.rest (x ∷ []) }

front_as : {A : Type 0} (front xs ys : List A) → ys ≡ xs → IsFront front xs → IsFront front ys
front_as {A} front xs ys same f = record { rest = f.rest; is = same ∙ f.is }

-- a node of the same name, secret and opening, of which as much was restored and is firm, with a longer book
pub record Longer {S : Type 0} (n n' : Node S) : Type 0 where
  pub named : n'.id ≡ n.id
  pub shared : n'.secret ≡ n.secret
  pub opening_is : n'.opening ≡ n.opening
  pub restored_is : n'.restored ≡ n.restored
  pub firm_is : n'.firm ≡ n.firm
  pub book : IsFront n.entries n'.entries

longer-same : {S : Type 0} (n : Node S) → Longer n n
longer-same n = record { named = refl; shared = refl; opening_is = refl; restored_is = refl; firm_is = refl; book = front_same n.entries }

-- a rule that leaves all but the book
longer-leaves : {S : Type 0} (a n n' : Node S) → Leaves n n' → IsFront a.entries n'.entries → Longer a n → Longer a n'
longer-leaves a n n' l book is = record { named = l.named ∙ is.named; shared = l.shared ∙ is.shared; opening_is = l.opening_is ∙ is.opening_is; restored_is = l.restored_is ∙ is.restored_is; firm_is = l.firm_is ∙ is.firm_is; book = book }

longer-as : {S : Type 0} (a n n' : Node S) → Leaves n n' → n'.entries ≡ n.entries → Longer a n → Longer a n'
longer-as a n n' l same is = longer-leaves a n n' l (front_as a.entries n.entries n'.entries same is.book) is

-- a regency begins
front-adopts : {S : Type 0} (front : List LogEntry) (n : Node S) → IsFront front n.entries → IsFront front (adopts n).entries
unfolding adopts
front-adopts front n f = entries_adopted (λ (es : List LogEntry). IsFront front es) (λ es p is. front_end front es _ is) (λ es s is. front_end front es _ is) n (adoption n) f

-- the next one is promised
front-promises : {S : Type 0} (front : List LogEntry) (n : Node S) → IsFront front n.entries → IsFront front (promises n).entries
unfolding promises promise_next
front-promises {S = S} front n f = either (λ (x : Node S). IsFront front x.entries) (promising n) (promise_next n) n (front_end front n.entries _ f) f

-- votes
front-write_batch : {S : Type 0} (front : List LogEntry) (n : Node S) (p : Option Proposed) → IsFront front n.entries → IsFront front (write_batch n p).entries
unfolding write_batch
front-write_batch front n None f = f
front-write_batch front n (Some p) f = front_end front n.entries _ f

front-writes : {S : Type 0} (front : List LogEntry) (n : Node S) → IsFront front n.entries → IsFront front (writes n).entries
unfolding writes
front-writes front n f = front-write_batch front n (writing n) f

front-mark : {S : Type 0} (front : List LogEntry) (m : Meaning S) (n : Node S) → IsFront front n.entries → IsFront front (mark_place m n).entries
unfolding mark_place
front-mark front m n f = front_end front n.entries _ f

front-accept_batch : {S : Type 0} (front : List LogEntry) (n : Node S) (p : Option Proposed) → IsFront front n.entries → IsFront front (accept_batch n p).entries
unfolding accept_batch
front-accept_batch front n None f = f
front-accept_batch front n (Some p) f = front_end front n.entries _ f

front-accepts : {S : Type 0} (front : List LogEntry) (n : Node S) → IsFront front n.entries → IsFront front (accepts n).entries
unfolding accepts
front-accepts front n f = front-accept_batch front n (accepting n) f

-- a decision
longer-decide_batch : {S : Type 0} (a n : Node S) (d : Option Decision) → Longer a n → Longer a (decide_batch n d)
unfolding decide_batch
longer-decide_batch a n None is = is
longer-decide_batch a n (Some d) is = record { named = is.named; shared = is.shared; opening_is = is.opening_is; restored_is = is.restored_is; firm_is = is.firm_is; book = front_end a.entries n.entries _ is.book }

longer-decides : {S : Type 0} (a n : Node S) → Longer a n → Longer a (decides n)
unfolding decides
longer-decides a n is = longer-decide_batch a n (deciding n) is

-- a delivery
longer-replying : {S : Type 0} (a n : Node S) (lines : List Execution) → Longer a n → Longer a (replying n lines)
longer-replying a n [] is = is
longer-replying a n (l ∷ ls) is =
    longer-replying a (holding n (targets.Client l.client) (reply_of n.secret n.id l)) ls
    (record { named = is.named; shared = is.shared; opening_is = is.opening_is; restored_is = is.restored_is; firm_is = is.firm_is; book = is.book })

longer-deliver_batch : {S : Type 0} (m : Meaning S) (a n : Node S) (batch : Option Batch) → Longer a n → Longer a (deliver_batch m n batch)
unfolding deliver_batch
longer-deliver_batch m a n None is = is
longer-deliver_batch m a n (Some batch) is =
    let x =
    longer-replying a (enters n (record n { replica = delivered m n.replica batch; waiting = None; pool = settled (delivered m n.replica batch).table n.pool; impatient = false })) (lines_to_answer m n batch)
    (record { named = is.named; shared = is.shared; opening_is = is.opening_is; restored_is = is.restored_is; firm_is = is.firm_is; book = is.book }) in
    record { named = x.named; shared = x.shared; opening_is = x.opening_is; restored_is = x.restored_is; firm_is = x.firm_is; book = x.book }

longer-delivers : {S : Type 0} (m : Meaning S) (a n : Node S) → Longer a n → Longer a (delivers m n)
unfolding delivers
longer-delivers m a n is = longer-deliver_batch m a n n.waiting is

-- an installation
longer-installs : {S : Type 0} (m : Meaning S) (a n : Node S) → Longer a n → Longer a (installs m n)
longer-installs m a n is =
    let t = takes-installs m n in
    record {
      named = t.named ∙ is.named;
      shared = t.shared ∙ is.shared;
      opening_is = t.opening_is ∙ is.opening_is;
      restored_is = t.restored_is ∙ is.restored_is;
      firm_is = t.firm_is ∙ is.firm_is;
      book = book-installs m n (λ (es : List LogEntry). IsFront a.entries es) (λ es i f. front_end a.entries es (Installed i) f) is.book;
    }

-- all rules
longer-rules : {S : Type 0} (a : Node S) → KeptByRules (λ n. Longer a n)
longer-rules a = record {
  by_adopts = λ n is. longer-leaves a n (adopts n) (leaves-adopts n) (front-adopts a.entries n is.book) is;
  by_joins = λ n is. longer-as a n (joins n) (leaves-joins n) (joins_same n) is;
  by_promises = λ n is. longer-leaves a n (promises n) (leaves-promises n) (front-promises a.entries n is.book) is;
  by_leads = λ n is. longer-as a n (leads n) (leaves-leads n) (leads_same n) is;
  by_proposes = λ n is. longer-as a n (proposes n) (leaves-proposes n) (proposes_same n) is;
  by_writes = λ n is. longer-leaves a n (writes n) (leaves-writes n) (front-writes a.entries n is.book) is;
  by_accepts = λ n is. longer-leaves a n (accepts n) (leaves-accepts n) (front-accepts a.entries n is.book) is;
  by_decides = λ n is. longer-decides a n is;
  by_times = λ n is. longer-as a n (times n) (leaves-times n) (times_same n) is;
  by_answers = λ n asked is. longer-as a n (answers_again n asked) (leaves-answers_again n asked) (answers_again_same n asked) is;
  by_states = λ n ask is. longer-as a n (answers_state n ask) (leaves-answers_state n ask) (answers_state_same n ask) is;
  by_plans = λ n is. longer-as a n (plans n) (leaves-plans n) (plans_same n) is;
}

-- a pass, behind its installation
pub longer-pass : {S : Type 0} (m : Meaning S) (n : Node S) (cause : Cause) → Longer (installs m n) (pass (rules m) n cause []).0
longer-pass {S = S} m n cause =
    let a : Node S = installs m n in
    let d : Longer a (delivers m a) = longer-delivers m a a (longer-same a) in
    keeps_rules m (λ (x : Node S). Longer a x) n cause [] (longer-rules a)
    (by_delivery m (λ (x : Node S) (told : List Fired). Longer a x) a cause (told_installed m n []) (longer-same a)
    (by_mark m (λ (x : Node S). Longer a x) (is_some a.waiting) (delivers m a) d
    (λ due. longer-leaves a (delivers m a) (mark_place m (delivers m a)) (leaves-mark m (delivers m a)) (front-mark a.entries m (delivers m a) d.book) d)))

-- what has been told of firmness
abbrev pub told_firm : {S : Type 0} → Node S → NodeEvent → Node S
told_firm n (Arrive bytes) = n
told_firm n Tick = n
told_firm n Deliver = n
told_firm n (Firm count) = made_firm n count

-- what takes an event in
longer-noted : {S : Type 0} (n : Node S) (message : Message) → Longer n (noted n message)
longer-noted n message = longer-as n n (noted n message) (leaves-noted n message) (noted_same n message) (longer-same n)

longer-takes_in : {S : Type 0} (n : Node S) (event : NodeEvent) → Longer (told_firm n event) (takes_in n event).node
unfolding takes_in
longer-takes_in {S = S} n (Arrive bytes) =
    reads_as (λ (x : Node S). Longer n x) (λ message. Unit {0}) n (decoded bytes) (λ message. longer-noted n message)
    (λ message none may.
    let told : Node S = noted n message in
    longer-as n told (kept told message) (leaves-kept told message) (kept_same told message) (longer-noted n message)) (free-read (decoded bytes)) (longer-same n)
longer-takes_in n Tick = longer-same n
longer-takes_in n Deliver = longer-same n
longer-takes_in n (Firm count) = longer-same (made_firm n count)

-- a step
pub longer-step : {S : Type 0} (m : Meaning S) (n : Node S) (event : NodeEvent) → Longer (told_firm n event) (step_of m n event).node
longer-step {S = S} m n event =
    let a : Node S = told_firm n event in
    let taken : Longer a (takes_in n event).node = longer-takes_in n event in
    let t : Node S = installs m (takes_in n event).node in
    let installed : Longer a t = longer-installs m a (takes_in n event).node taken in
    let d : Longer a (delivers m t) = longer-delivers m a t installed in
    keeps_from m (λ (x : Node S). Longer a x) n event (longer-rules a) taken installed
    (by_mark m (λ (x : Node S). Longer a x) (is_some t.waiting) (delivers m t) d
    (λ due. longer-leaves a (delivers m t) (mark_place m (delivers m t)) (leaves-mark m (delivers m t)) (front-mark a.entries m (delivers m t) d.book) d))

-- so each step keeps the secret
pub secret-step : {S : Type 0} (m : Meaning S) (n : Node S) (event : NodeEvent) → (step_of m n event).node.secret ≡ n.secret
secret-step {S} m n event = (longer-step m n event).shared ∙ told n event
  where
    told : (x : Node S) (e : NodeEvent) → (told_firm x e).secret ≡ x.secret
    told x (Arrive bytes) = refl
    told x Tick = refl
    told x Deliver = refl
    told x (Firm count) = refl

-- and the place of the replica with which the node began
pub opening-step : {S : Type 0} (m : Meaning S) (n : Node S) (event : NodeEvent) → (step_of m n event).node.opening ≡ n.opening
opening-step {S} m n event = (longer-step m n event).opening_is ∙ told n event
  where
    told : (x : Node S) (e : NodeEvent) → (told_firm x e).opening ≡ x.opening
    told x (Arrive bytes) = refl
    told x Tick = refl
    told x Deliver = refl
    told x (Firm count) = refl
