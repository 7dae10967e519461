-- A node keeps its name, and decides one batch at a time.
use Rattle.std.proofs.Common.{◌≡◌, ℕ, ◌+◌, ◌≤◌, ◌++◌, Bool, true, false, List, [], ◌∷◌, length, refl, sym, subst, ap, ◌∙◌, arith, Option, Some, None, is_some, nat_lt, length-append, append-nil}
use Rattle.std.specs.List.{cons_option, flat_map}
use Rattle.agreement_laws.proofs.Lists.{either}
use Rattle.std.proofs.lemmas.Grind.{flat_map-append}
use Rattle.smart_base.specs.Lists.{Each}
use Rattle.smart_statements.specs.Forms.{SignedBy}
use Rattle.smart_statements.specs.Batches.{Batch}
use Rattle.smart_messages.specs.declared.regency.Sync.{Sync}
use Rattle.smart_statements.specs.declared.entry.NodeEvent.{NodeEvent}
use Rattle.smart_service.specs.Services.{Meaning}
use Rattle.smart_service.specs.declared.table.Execution.{Execution}
use Rattle.vote_book.specs.declared.entry.Decision.{Decision}
use Rattle.vote_book.specs.declared.entry.LogEntry.TheVariants.{Decided}
use Rattle.replica_rules.specs.Replicas.{delivered, executed_lines}
use Rattle.replica_rules.specs.Pools.{settled}
use Rattle.node_rules.specs.Rules.{reply_of, replying, lines_to_answer, deliver_batch, delivers, delivery, proposing, proposes, writing, writes, accepting, accepts, deciding, decide_batch, decides, fired_if, answering, answers_again}
use Rattle.node_rules.specs.declared.node.Delivery.{Delivery}
use Rattle.snapshot_form.specs.Snapshots.{snapshot_text}
use Rattle.node_rules.specs.Marks.{mark_place, marking}
use Rattle.node_rules.specs.Nodes.{Node, next_place, holding, enters}
use Rattle.node_rules.specs.Arrivals.{noted}
use Rattle.node_rules.specs.Changes.{fired_when, fired_adopt, adoption, adopts, joining, joins, next_promise, promising, promises, leading, leads, timing, times}
use Rattle.node_rules.specs.Steps.{Taken, row, deliver_row, rules, pass, takes_in, step_of}
use Rattle.node_rules.specs.Kept.{node_after}
use Rattle.node_rules.specs.declared.node.Cause.{Cause}
use Rattle.node_rules.specs.declared.node.Cause.TheVariants.{Ticked, Came}
use Rattle.node_rules.specs.declared.node.Target.TheVariants as targets
use Rattle.node_rules.specs.declared.node.Fired.{Fired}
use Rattle.node_rules.specs.declared.node.Fired.TheVariants as fires
use Rattle.node_rules.specs.Deliveries.{delivery_in}
use Rattle.node_rules.specs.Reopening.{decided_of}
use Rattle.node_laws.proofs.Restored.{decided_append}
use Rattle.replica_laws.proofs.InOrder.{decided-adopts, decided-promises, decided-writes, decided-accepts, decided-mark}
use Rattle.replica_laws.proofs.Leaves.{leaves-adopts, leaves-joins, leaves-promises, leaves-leads, leaves-proposes, leaves-writes, leaves-accepts, leaves-times, leaves-answers_again, leaves-answers_state, leaves-plans, leaves-noted, leaves-kept, leaves-mark}
use Rattle.replica_laws.proofs.Installs.{takes-installs, decided-installs, installs-none, one-delivery, quiet-installs}
use Rattle.node_rules.specs.Transfers.{installs, answers_state, planning, plans, answers_call, answered_call}
use Rattle.node_rules.specs.declared.node.Called.{Called}
use Rattle.node_rules.specs.declared.node.Called.TheVariants as calls
use Rattle.node_rules.proofs.Rulewise.{told_installed, RowKeeps, KeptByRules, KeptInSteps, free-event, by_mark, by_delivery, by_time, by_answer, later_rows, for_later, keeps_behind, by_step, takes_in_as, keeps_from, keeps_step}
use Rattle.smart_base.proofs.ViewFacts.{each-weaken}
use Rattle.kept_arrivals.proofs.Rules.{decides_free}
use Rattle.node_rules.proofs.Entries.{answers_again_same, answers_state_same, plans_same, delivers_same, joins_same, leads_same, proposes_same, takes_in_same, times_same}

-- the same member's node
abbrev pub Follows : {S : Type 0} → Node S → Node S → Type 0
Follows n n' = n'.id ≡ n.id

-- a node follows itself
follows-same : {S : Type 0} (n : Node S) → Follows n n
follows-same n = refl

-- held replies keep its name
follows-replying : {S : Type 0} (n : Node S) (lines : List Execution) → Follows n (replying n lines)
follows-replying n [] = follows-same n
follows-replying n (l ∷ ls) = follows-replying (holding n (targets.Client l.client) (reply_of n.secret n.id l)) ls

-- so does a delivery
follows-deliver_batch : {S : Type 0} (m : Meaning S) (n : Node S) (batch : Option Batch) → Follows n (deliver_batch m n batch)
unfolding deliver_batch
follows-deliver_batch m n None = follows-same n
follows-deliver_batch m n (Some batch) =
    follows-replying
    (enters n (record n { replica = delivered m n.replica batch; waiting = None; pool = settled (delivered m n.replica batch).table n.pool; impatient = false }))
    (lines_to_answer m n batch)

-- and the rule that delivers
follows-delivers : {S : Type 0} (m : Meaning S) (n : Node S) → Follows n (delivers m n)
unfolding delivers
follows-delivers m n = follows-deliver_batch m n n.waiting

-- and a batch that is decided
follows-decide_batch : {S : Type 0} (n : Node S) (decision : Option Decision) → Follows n (decide_batch n decision)
unfolding decide_batch
follows-decide_batch n None = follows-same n
follows-decide_batch n (Some d) = refl

follows-decides : {S : Type 0} (n : Node S) → Follows n (decides n)
unfolding decides
follows-decides n = follows-decide_batch n (deciding n)

follows-rules : {S : Type 0} (a : Node S) → KeptByRules (λ n. Follows a n)
follows-rules a = record {
  by_adopts = λ n is. (leaves-adopts n).named ∙ is;
  by_joins = λ n is. (leaves-joins n).named ∙ is;
  by_promises = λ n is. (leaves-promises n).named ∙ is;
  by_leads = λ n is. (leaves-leads n).named ∙ is;
  by_proposes = λ n is. (leaves-proposes n).named ∙ is;
  by_writes = λ n is. (leaves-writes n).named ∙ is;
  by_accepts = λ n is. (leaves-accepts n).named ∙ is;
  by_decides = λ n is. follows-decides n ∙ is;
  by_times = λ n is. (leaves-times n).named ∙ is;
  by_answers = λ n asked is. (leaves-answers_again n asked).named ∙ is;
  by_states = λ n a is. (leaves-answers_state n a).named ∙ is;
  by_plans = λ n is. (leaves-plans n).named ∙ is;
}

follows-in_steps : {S : Type 0} (m : Meaning S) (a : Node S) → KeptInSteps m (λ n. Follows a n) (λ message. Unit {0})
follows-in_steps m a = record {
  by_rules = follows-rules a;
  by_noted = λ n message is. (leaves-noted n message).named ∙ is;
  by_kept = λ n message fine may is. (leaves-kept n message).named ∙ is;
  by_installs = λ n is. (takes-installs m n).named ∙ is;
  by_delivers = λ n is. follows-delivers m n ∙ is;
  by_marks = λ n waits is delivered. (leaves-mark m (delivers m n)).named ∙ delivered;
  by_firm = λ x count is. is;
}

-- a step
pub follows-step : {S : Type 0} (m : Meaning S) (n : Node S) (event : NodeEvent) → Follows n (step_of m n event).node
follows-step m n event = keeps_step m (λ x. Follows n x) (λ message. Unit {0}) n event (follows-in_steps m n) (free-event event) refl

-- whatever comes
pub follows_after : {S : Type 0} (m : Meaning S) (n : Node S) (events : List NodeEvent) → Follows n (node_after m n events)
follows_after m n [] = refl
follows_after m n (e ∷ es) = follows_after m (step_of m n e).node es ∙ follows-step m n e

-- at most one batch more is decided, and then it waits
pub record DecidesNext {S : Type 0} (past : ℕ) (n n' : Node S) : Type 0 where
  pub most : length (decided_of past n'.entries) ≤ length (decided_of past n.entries) + 1
  pub rest : n'.waiting ≡ None → length (decided_of past n'.entries) ≤ length (decided_of past n.entries)

-- a node that decides nothing
next-same : {S : Type 0} (past : ℕ) (n n' : Node S) → decided_of past n'.entries ≡ decided_of past n.entries → DecidesNext past n n'
next-same past n n' same = let e = ap (λ (bs : List Batch). length bs) same in record { most = omega (arith, e); rest = λ is. omega (arith, e) }

-- a rule that decides nothing and leaves the batch that waits
next-as : {S : Type 0} (past : ℕ) (a n n' : Node S) → decided_of past n'.entries ≡ decided_of past n.entries → n'.waiting ≡ n.waiting → DecidesNext past a n → DecidesNext past a n'
next-as past a n n' same waits next =
    let e = ap (λ (bs : List Batch). length bs) same in
    record { most = omega (arith, e, next.most); rest = λ is. omega (arith, e, next.rest (rw waits at is)) }

-- a node that decides had none that waited, and has its batch wait
next-decide_batch : {S : Type 0} (past : ℕ) (a n : Node S) (decision : Option Decision) → (is_some decision ≡ true → n.waiting ≡ None) → DecidesNext past a n → DecidesNext past a (decide_batch n decision)
unfolding decide_batch
next-decide_batch past a n None free next = next
next-decide_batch past a n (Some d) free next =
    let more = decided_append past n.entries (Decided d ∷ []) in
    let e = ap (λ (bs : List Batch). length bs) more ∙ length-append (decided_of past n.entries) (decided_of past (Decided d ∷ [])) in
    let one : length (decided_of past (Decided d ∷ [])) ≤ 1 =
    either (λ (o : Option Batch). length (cons_option o []) ≤ 1) (nat_lt past d.slot.place) (Some d.batch) None (omega arith) (omega arith) in
    record { most = omega (arith, e, one, next.rest (free refl)); rest = λ is. absurd (cc) }

next-decides : {S : Type 0} (past : ℕ) (a n : Node S) → DecidesNext past a n → DecidesNext past a (decides n)
unfolding decides
next-decides past a n next = next-decide_batch past a n (deciding n) (decides_free n) next

-- the rules behind a delivery decide one batch at most
next-rules : {S : Type 0} (past : ℕ) (a : Node S) → KeptByRules (λ n. DecidesNext past a n)
next-rules past a = record {
  by_adopts = λ n is. next-as past a n (adopts n) (decided-adopts past n) (leaves-adopts n).waits is;
  by_joins = λ n is. next-as past a n (joins n) (ap (decided_of past) (joins_same n)) (leaves-joins n).waits is;
  by_promises = λ n is. next-as past a n (promises n) (decided-promises past n) (leaves-promises n).waits is;
  by_leads = λ n is. next-as past a n (leads n) (ap (decided_of past) (leads_same n)) (leaves-leads n).waits is;
  by_proposes = λ n is. next-as past a n (proposes n) (ap (decided_of past) (proposes_same n)) (leaves-proposes n).waits is;
  by_writes = λ n is. next-as past a n (writes n) (decided-writes past n) (leaves-writes n).waits is;
  by_accepts = λ n is. next-as past a n (accepts n) (decided-accepts past n) (leaves-accepts n).waits is;
  by_decides = λ n is. next-decides past a n is;
  by_times = λ n is. next-as past a n (times n) (ap (decided_of past) (times_same n)) (leaves-times n).waits is;
  by_answers = λ n asked is. next-as past a n (answers_again n asked) (ap (decided_of past) (answers_again_same n asked)) (leaves-answers_again n asked).waits is;
  by_states = λ n ask is. next-as past a n (answers_state n ask) (ap (decided_of past) (answers_state_same n ask)) (leaves-answers_state n ask).waits is;
  by_plans = λ n is. next-as past a n (plans n) (ap (decided_of past) (plans_same n)) (leaves-plans n).waits is;
}

-- so does a step
pub next-step : {S : Type 0} (m : Meaning S) (past : ℕ) (n : Node S) (event : NodeEvent) → DecidesNext past n (step_of m n event).node
next-step {S = S} m past n event =
    let t : Node S = (takes_in n event).node in
    let i : Node S = installs m t in
    let taken : decided_of past t.entries ≡ decided_of past n.entries = ap (decided_of past) (takes_in_same n event) in
    let installed : decided_of past i.entries ≡ decided_of past n.entries = decided-installs past m t ∙ taken in
    let delivered_is : decided_of past (delivers m i).entries ≡ decided_of past n.entries = ap (decided_of past) (delivers_same m i) ∙ installed in
    keeps_from m (λ (x : Node S). DecidesNext past n x) n event (next-rules past n) (next-same past n t taken) (next-same past n i installed)
    (by_mark m (λ (x : Node S). DecidesNext past n x) (is_some i.waiting) (delivers m i) (next-same past n (delivers m i) delivered_is)
    (λ due. next-same past n (mark_place m (delivers m i)) (decided-mark past m (delivers m i) ∙ delivered_is)))

-- what a step delivers is the batch that waited, at the next place

-- a delivery of the batch that waited at a node, with the number of its requests that are executed
pub record WasDue {S : Type 0} (m : Meaning S) (n : Node S) (d : Delivery) : Type 0 where
  pub batch : n.waiting ≡ Some d.batch
  pub place : d.place ≡ next_place n
  pub executed : d.executed ≡ length (executed_lines m n.replica d.batch)

-- rules that fire behind others and deliver nothing
pub quiet-behind : (fired more : List Fired) → flat_map delivery_in more ≡ [] → flat_map delivery_in (fired ++ more) ≡ flat_map delivery_in fired
quiet-behind fired more none =
    flat_map-append delivery_in fired more ∙ (ap (λ (ds : List Delivery). flat_map delivery_in fired ++ ds) none ∙ append-nil (flat_map delivery_in fired))

quiet-if : {A : Type 0} (rule : Fired) (x : Option A) → delivery_in rule ≡ [] → flat_map delivery_in (fired_if rule x) ≡ []
quiet-if rule None none = refl
quiet-if rule (Some x) none = rw none refl

quiet-when : (rule : Fired) (b : Bool) → delivery_in rule ≡ [] → flat_map delivery_in (fired_when rule b) ≡ []
quiet-when rule true none = rw none refl
quiet-when rule false none = refl

quiet-adopt : (sync : Option (SignedBy Sync)) → flat_map delivery_in (fired_adopt sync) ≡ []
quiet-adopt None = refl
quiet-adopt (Some sync) = refl

quiet-called : {S : Type 0} (n : Node S) (called : Called) → flat_map delivery_in (answered_call n called) ≡ []
quiet-called n calls.Nobody = refl
quiet-called n (calls.Request asked) = quiet-if fires.Answered (answering n asked) refl
quiet-called n (calls.State a) = refl
quiet-called n calls.Offered = quiet-if fires.Answered (planning n) refl

-- what has been delivered
abbrev Told : {S : Type 0} → List Delivery → Node S → List Fired → Type 0
Told ds n fired = flat_map delivery_in fired ≡ ds

-- a rule that delivers nothing
quiet-row : {S : Type 0} (ds : List Delivery) (rule : Node S → Node S) (tells : Node S → List Fired) → ((n : Node S) → flat_map delivery_in (tells n) ≡ []) → RowKeeps (Told ds) (row rule tells)
quiet-row ds rule tells none n cause fired is = quiet-behind fired (tells n) (none n) ∙ is

-- the rules behind a delivery deliver nothing
quiet-later : (S : Type 0) (ds : List Delivery) → Each (RowKeeps {S = S} (Told ds)) later_rows
quiet-later S ds =
    for_later (RowKeeps {S = S} (Told ds))
    (record {
      adopt = quiet-row ds adopts _ (λ n. quiet-adopt (adoption n));
      join = quiet-row ds joins _ (λ n. quiet-when fires.Joined (joining n) refl);
      promise = quiet-row ds promises _ (λ n. quiet-when (fires.Promised (next_promise n)) (promising n) refl);
      lead = quiet-row ds leads _ (λ n. quiet-if fires.Led (leading n) refl);
      propose = quiet-row ds proposes _ (λ n. quiet-if fires.Proposed (proposing n) refl);
      write = quiet-row ds writes _ (λ n. quiet-if fires.Wrote (writing n) refl);
      accept = quiet-row ds accepts _ (λ n. quiet-if fires.Accepted (accepting n) refl);
      decide = quiet-row ds decides _ (λ n. quiet-if (fires.Decided (next_place n)) (deciding n) refl);
      time = λ n cause fired is.
          by_time (Told ds) n cause fired is (quiet-row ds times (λ x. fired_when fires.Timed (timing x)) (λ x. quiet-when fires.Timed (timing x) refl) n Ticked fired is);
      answer = λ n cause fired is.
          by_answer (Told ds) n cause fired is
          (λ called. quiet-row ds (λ x. answers_call x called) (λ x. answered_call x called) (λ x. quiet-called x called) n (Came called) fired is);
    })

-- so a pass delivers what its second row delivers
pub told-passed : {S : Type 0} (m : Meaning S) (n : Node S) (cause : Cause) (fired : List Fired)
    → flat_map delivery_in (pass (rules m) n cause fired).1 ≡ flat_map delivery_in (deliver_row m (installs m n) cause (told_installed m n fired)).1
told-passed {S = S} m n cause fired =
    let ds : List Delivery = flat_map delivery_in (deliver_row m (installs m n) cause (told_installed m n fired)).1 in
    keeps_behind m (Told ds) n cause fired (quiet-later S ds) refl

-- what takes an event in leaves the replica, and the batch that waits
pub record Waits {S : Type 0} (n n' : Node S) : Type 0 where
  pub replica_is : n'.replica ≡ n.replica
  pub waits : n'.waiting ≡ n.waiting

pub waits-takes_in : {S : Type 0} (n : Node S) (event : NodeEvent) → Waits n (takes_in n event).node
waits-takes_in {S = S} n event =
    takes_in_as (λ (x : Node S). Waits n x) (λ message. Unit {0}) n event
    (λ message. record { replica_is = (leaves-noted n message).replica_is; waits = (leaves-noted n message).waits })
    (λ message none may.
    let l = leaves-kept (noted n message) message in
    record { replica_is = l.replica_is ∙ (leaves-noted n message).replica_is; waits = l.waits ∙ (leaves-noted n message).waits })
    (λ count. record { replica_is = refl; waits = refl }) (free-event event) (record { replica_is = refl; waits = refl })

-- what is due at a node is due at one with the same replica and the same batch that waits
due-as : {S : Type 0} (m : Meaning S) (n n' : Node S) (d : Delivery) → Waits n n' → WasDue m n' d → WasDue m n d
due-as m n n' d same due = record { batch = rw (← same.waits) due.batch; place = rw (← same.replica_is) due.place; executed = rw (← same.replica_is) due.executed }

-- a delivery delivers what waited
due-delivery : {S : Type 0} (m : Meaning S) (n : Node S) (batch : Option Batch) → n.waiting ≡ batch → Each (WasDue m n) (flat_map delivery_in (delivery m n batch))
unfolding delivery
due-delivery m n None at = tt
due-delivery m n (Some batch) at = subst (λ (ds : List Delivery). Each (WasDue m n) ds) (sym (one-delivery m n batch)) (record { batch = at; place = refl; executed = refl }, tt)

-- and a mark delivers nothing
pub told-marked : (snapshot : List ℕ) (told : List Fired) (t : Bool) → flat_map delivery_in (told ++ fired_when (fires.Marked snapshot) t) ≡ flat_map delivery_in told
told-marked snapshot told t = quiet-behind told (fired_when (fires.Marked snapshot) t) (quiet-when (fires.Marked snapshot) t refl)

due-marked : {S : Type 0} (m : Meaning S) (n : Node S) (snapshot : List ℕ) (told : List Fired) (t : Bool) → Each (WasDue m n) (flat_map delivery_in told)
    → Each (WasDue m n) (flat_map delivery_in (told ++ fired_when (fires.Marked snapshot) t))
due-marked m n snapshot told t each =
    subst (λ (ds : List Delivery). Each (WasDue m n) ds) (sym (told-marked snapshot told t)) each

-- what is due behind an installation is due before it, as nothing is installed where a batch waits
due-installed : {S : Type 0} (m : Meaning S) (n : Node S) (d : Delivery) → WasDue m (installs m n) d → WasDue m n d
due-installed {S = S} m n d due =
    let waits : is_some n.waiting ≡ true = ap is_some (sym (takes-installs m n).waits ∙ due.batch) in
    subst (λ (x : Node S). WasDue m x d) (installs-none m n waits) due

-- and what was told of an installation is no delivery
installed-quiet : {S : Type 0} (m : Meaning S) (n : Node S) (told : List Fired) → flat_map delivery_in (told_installed m n [] ++ told) ≡ flat_map delivery_in told
installed-quiet m n told =
    flat_map-append delivery_in (told_installed m n []) told ∙ ap (λ (ds : List Delivery). ds ++ flat_map delivery_in told) (quiet-installs m n)

-- a pass delivers what waits behind its installation
pub due-passed : {S : Type 0} (m : Meaning S) (n : Node S) (cause : Cause) → Each (WasDue m (installs m n)) (flat_map delivery_in (pass (rules m) n cause []).1)
due-passed {S = S} m n cause =
    let i : Node S = installs m n in
    rw (told-passed m n cause [])
    (by_delivery m (λ (x : Node S) (told : List Fired). Each (WasDue m i) (flat_map delivery_in told)) i cause (told_installed m n [])
    (subst (λ (ds : List Delivery). Each (WasDue m i) ds) (sym (quiet-installs m n)) tt)
    (due-marked m i (snapshot_text m (delivers m i).replica) (told_installed m n [] ++ delivery m i i.waiting) (marking (is_some i.waiting) (delivers m i))
    (subst (λ (ds : List Delivery). Each (WasDue m i) ds) (sym (installed-quiet m n (delivery m i i.waiting))) (due-delivery m i i.waiting refl))))

-- a step delivers what waited at most
pub due-step : {S : Type 0} (m : Meaning S) (n : Node S) (event : NodeEvent) → Each (WasDue m n) (flat_map delivery_in (step_of m n event).fired)
due-step {S = S} m n event =
    let t : Taken S = takes_in n event in
    let i : Node S = installs m t.node in
    let all : Each (WasDue m n) (flat_map delivery_in (delivery m i i.waiting)) =
    each-weaken (WasDue m i) (WasDue m n) (λ d due. due-as m n t.node d (waits-takes_in n event) (due-installed m t.node d due)) _ (due-delivery m i i.waiting refl) in
    by_step m n event (λ (x : Node S) (told : List Fired). Each (WasDue m n) (flat_map delivery_in told)) tt
    (rw (told-passed m t.node t.cause [])
    (by_delivery m (λ (x : Node S) (told : List Fired). Each (WasDue m n) (flat_map delivery_in told)) i t.cause (told_installed m t.node [])
    (subst (λ (ds : List Delivery). Each (WasDue m n) ds) (sym (quiet-installs m t.node)) tt)
    (due-marked m n (snapshot_text m (delivers m i).replica) (told_installed m t.node [] ++ delivery m i i.waiting) (marking (is_some i.waiting) (delivers m i))
    (subst (λ (ds : List Delivery). Each (WasDue m n) ds) (sym (installed-quiet m t.node (delivery m i i.waiting))) all))))
