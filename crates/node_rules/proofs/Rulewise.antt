-- What each rule of a node keeps, a pass of the rules and a step keep.
use Rattle.std.proofs.Common.{◌≡◌, ℕ, ◌++◌, Bool, true, false, cond, List, [], ◌∷◌, Option, Some, None, is_some, is_none, nat_lt, ◌&&◌, Result, Ok, Err, refl, ap, ◌∙◌}
use Rattle.smart_base.specs.Lists.{Each}
use Rattle.smart_base.proofs.SameLists.{and_true}
use Rattle.smart_messages.specs.Messages.{decoded}
use Rattle.smart_messages.specs.declared.message.Message.{Message}
use Rattle.smart_messages.specs.declared.message.Message.TheVariants.{Ask}
use Rattle.smart_statements.specs.Batches.{Batch}
use Rattle.smart_statements.specs.declared.entry.NodeEvent.{NodeEvent}
use Rattle.smart_statements.specs.declared.entry.NodeEvent.TheVariants.{Arrive, Tick, Deliver, Firm}
use Rattle.smart_service.specs.Services.{Meaning}
use Rattle.node_rules.specs.Nodes.{Node, regency_of, start_of}
use Rattle.node_rules.specs.Arrivals.{signer_why, slot_why, why_ask, why_propose, why_vote, why_unasked, why_stop, is_proven, why_report, is_collect, why_sync, why_mark, is_proven_batch, why_decision, why_state_ask, why_offer, why_part, why_dropped, kept, noted}
use Rattle.node_rules.specs.Rules.{delivers, delivery, proposes, writes, accepts, decides, answers_again}
use Rattle.node_rules.specs.Changes.{adopts, joins, promises, leads, times}
use Rattle.node_rules.specs.Marks.{mark_place, marking, marks_place, marked, firm_at}
use Rattle.node_rules.specs.Transfers.{installing, ready, install_told, installs, answers_state, plans, answers_call}
use Rattle.node_rules.specs.Steps.{made_firm, Taken, judged, reads, takes_in, Row, install_row, deliver_row, adopt_row, join_row, promise_row, lead_row, propose_row, write_row, accept_row, decide_row, time_row, answer_row, turn_rows, vote_rows, end_rows, rules, pass, passed, step_of}
use Rattle.node_rules.specs.declared.node.Why.{Why}
use Rattle.node_rules.specs.declared.node.Asked.{Asked}
use Rattle.node_rules.specs.declared.node.Called.{Called}
use Rattle.node_rules.specs.declared.node.Called.TheVariants as calls
use Rattle.transfer_form.specs.declared.transfer.StateAsk.{StateAsk}
use Rattle.state_transfer.specs.Fetches.{are_all_there}
use Rattle.state_transfer.specs.declared.fetch.Fetch.{Fetch}
use Rattle.node_rules.specs.declared.node.Cause.{Cause}
use Rattle.node_rules.specs.declared.node.Cause.TheVariants.{Came, Ticked, Delivering, Firmed}
use Rattle.node_rules.specs.declared.node.Fired.{Fired}

-- ---- rows

-- what a row keeps of the node and of what has fired
abbrev pub RowKeeps : {S : Type 0} → (Node S → List Fired → Type 0) → Row S → Type 0
RowKeeps {S} P r = (n : Node S) (cause : Cause) (fired : List Fired) → P n fired → P (r n cause fired).0 (r n cause fired).1

-- what each row keeps, a pass of them keeps
pub keeps_pass : {S : Type 0} (P : Node S → List Fired → Type 0) (rows : List (Row S)) (n : Node S) (cause : Cause) (fired : List Fired) → Each (RowKeeps P) rows → P n fired
    → P (pass rows n cause fired).0 (pass rows n cause fired).1
unfolding pass
keeps_pass P [] n cause fired each is = is
keeps_pass P (r ∷ rows) n cause fired each is = keeps_pass P rows (r n cause fired).0 cause (r n cause fired).1 each.1 (each.0 n cause fired is)

-- rows behind others
pub pass_append : {S : Type 0} (some others : List (Row S)) (n next : Node S) (cause : Cause) (fired told : List Fired) (out : Node S × List Fired) → pass some n cause fired ≡ (next, told)
    → pass others next cause told ≡ out → pass (some ++ others) n cause fired ≡ out
unfolding pass
pass_append {S = S} [] others n next cause fired told out first then = rw (ap (λ (x : Node S × List Fired). x.0) first, ap (λ (x : Node S × List Fired). x.1) first) then
pass_append (r ∷ some) others n next cause fired told out first then = pass_append some others (r n cause fired).0 next cause (r n cause fired).1 told out first then

-- a row, and those behind it
pub pass_first : {S : Type 0} (r : Row S) (rows : List (Row S)) (n next : Node S) (cause : Cause) (fired told : List Fired) (out : Node S × List Fired) → r n cause fired ≡ (next, told)
    → pass rows next cause told ≡ out → pass (r ∷ rows) n cause fired ≡ out
unfolding pass
pass_first {S = S} r rows n next cause fired told out first then = rw (ap (λ (x : Node S × List Fired). x.0) first, ap (λ (x : Node S × List Fired). x.1) first) then

-- what holds behind a delivery holds behind its mark, if a mark keeps it
pub by_mark : {S : Type 0} (m : Meaning S) (P : Node S → Type 0) (delivered : Bool) (n : Node S) → P n → (marking delivered n ≡ true → P (mark_place m n)) → P (marks_place m delivered n)
by_mark {S = S} m P delivered n is marks_it = by (marking delivered n) refl
  where
    by : (t : Bool) → marking delivered n ≡ t → P (cond t (mark_place m n) n)
    by true due = marks_it due
    by false due = is

-- the row that delivers keeps what holds of both of its ends
pub by_delivery : {S : Type 0} (m : Meaning S) (P : Node S → List Fired → Type 0) (n : Node S) (cause : Cause) (fired : List Fired) → P n fired
    → P (marks_place m (is_some n.waiting) (delivers m n)) ((fired ++ delivery m n n.waiting) ++ marked m (is_some n.waiting) (delivers m n))
    → P (deliver_row m n cause fired).0 (deliver_row m n cause fired).1
by_delivery m P n Delivering fired is delivered = delivered
by_delivery m P n (Came called) fired is delivered = is
by_delivery m P n Ticked fired is delivered = is
by_delivery m P n Firmed fired is delivered = is

-- so do those of time and of answers
pub by_time : {S : Type 0} (P : Node S → List Fired → Type 0) (n : Node S) (cause : Cause) (fired : List Fired) → P n fired → P (time_row n Ticked fired).0 (time_row n Ticked fired).1
    → P (time_row n cause fired).0 (time_row n cause fired).1
by_time P n Ticked fired is timed = timed
by_time P n (Came called) fired is timed = is
by_time P n Delivering fired is timed = is
by_time P n Firmed fired is timed = is

pub by_answer : {S : Type 0} (P : Node S → List Fired → Type 0) (n : Node S) (cause : Cause) (fired : List Fired) → P n fired
    → ((called : Called) → P (answer_row n (Came called) fired).0 (answer_row n (Came called) fired).1) → P (answer_row n cause fired).0 (answer_row n cause fired).1
by_answer P n (Came called) fired is answered = answered called
by_answer P n Ticked fired is answered = is
by_answer P n Delivering fired is answered = is
by_answer P n Firmed fired is answered = is

-- ---- rules

-- the rules behind a delivery
abbrev pub later_rows : {S : Type 0} → List (Row S)
later_rows = turn_rows ++ (vote_rows ++ end_rows)

-- what holds of the row of each of them
pub record ForRows {S : Type 0} (P : Row S → Type 0) : Type 0 where
  pub adopt : P adopt_row
  pub join : P join_row
  pub promise : P promise_row
  pub lead : P lead_row
  pub propose : P propose_row
  pub write : P write_row
  pub accept : P accept_row
  pub decide : P decide_row
  pub time : P time_row
  pub answer : P answer_row

pub for_later : {S : Type 0} (P : Row S → Type 0) → ForRows P → Each P later_rows
unfolding turn_rows vote_rows end_rows
for_later P is = (is.adopt, (is.join, (is.promise, (is.lead, (is.propose, (is.write, (is.accept, (is.decide, (is.time, (is.answer, tt))))))))))

pub for_rules : {S : Type 0} (m : Meaning S) (P : Row S → Type 0) → P (install_row m) → P (deliver_row m) → ForRows P → Each P (rules m)
unfolding rules
for_rules m P installs_is delivers_is is = (installs_is, (delivers_is, for_later P is))

-- what they keep
pub record KeptByRules {S : Type 0} (P : Node S → Type 0) : Type 0 where
  pub by_adopts : (n : Node S) → P n → P (adopts n)
  pub by_joins : (n : Node S) → P n → P (joins n)
  pub by_promises : (n : Node S) → P n → P (promises n)
  pub by_leads : (n : Node S) → P n → P (leads n)
  pub by_proposes : (n : Node S) → P n → P (proposes n)
  pub by_writes : (n : Node S) → P n → P (writes n)
  pub by_accepts : (n : Node S) → P n → P (accepts n)
  pub by_decides : (n : Node S) → P n → P (decides n)
  pub by_times : (n : Node S) → P n → P (times n)
  pub by_answers : (n : Node S) (asked : Asked) → P n → P (answers_again n asked)
  pub by_states : (n : Node S) (a : StateAsk) → P n → P (answers_state n a)
  pub by_plans : (n : Node S) → P n → P (plans n)

-- so they keep it whatever is answered
pub by_called : {S : Type 0} (P : Node S → Type 0) → KeptByRules P → (n : Node S) (called : Called) → P n → P (answers_call n called)
by_called P by n calls.Nobody is = is
by_called P by n (calls.Request asked) is = by.by_answers n asked is
by_called P by n (calls.State a) is = by.by_states n a is
by_called P by n calls.Offered is = by.by_plans n is

-- and the rules that install and deliver, and what takes an event in
pub record KeptInSteps {S : Type 0} (m : Meaning S) (P : Node S → Type 0) (A : Message → Type 0) : Type 0 where
  pub by_rules : KeptByRules P
  pub by_noted : (n : Node S) (message : Message) → P n → P (noted n message)
  pub by_kept : (n : Node S) (message : Message) → why_dropped n message ≡ None → A message → P n → P (kept n message)
  pub by_installs : (n : Node S) → P n → P (installs m n)
  pub by_delivers : (n : Node S) → P n → P (delivers m n)
  pub by_marks : (n : Node S) → is_some n.waiting ≡ true → P n → P (delivers m n) → P (mark_place m (delivers m n))
  pub by_firm : (n : Node S) (count : ℕ) → P n → P (record n { firm = count })

keeps_later : {S : Type 0} (P : Node S → Type 0) → KeptByRules P → Each (RowKeeps (λ n fired. P n)) later_rows
keeps_later {S = S} P by =
    for_later (RowKeeps (λ (n : Node S) (fired : List Fired). P n))
    (record {
      adopt = λ n cause fired is. by.by_adopts n is;
      join = λ n cause fired is. by.by_joins n is;
      promise = λ n cause fired is. by.by_promises n is;
      lead = λ n cause fired is. by.by_leads n is;
      propose = λ n cause fired is. by.by_proposes n is;
      write = λ n cause fired is. by.by_writes n is;
      accept = λ n cause fired is. by.by_accepts n is;
      decide = λ n cause fired is. by.by_decides n is;
      time = λ n cause fired is. by_time (λ (x : Node S) (told : List Fired). P x) n cause fired is (by.by_times n is);
      answer = λ n cause fired is. by_answer (λ (x : Node S) (told : List Fired). P x) n cause fired is (λ called. by_called P by n called is);
    })

-- what has fired behind the rule that installs
abbrev pub told_installed : {S : Type 0} → Meaning S → Node S → List Fired → List Fired
told_installed m n fired = fired ++ install_told m n (installing n)

-- a pass of the rules keeps what the later ones keep and holds behind the installation and the delivery
pub keeps_behind : {S : Type 0} (m : Meaning S) (P : Node S → List Fired → Type 0) (n : Node S) (cause : Cause) (fired : List Fired) → Each (RowKeeps P) later_rows
    → P (deliver_row m (installs m n) cause (told_installed m n fired)).0 (deliver_row m (installs m n) cause (told_installed m n fired)).1
    → P (pass (rules m) n cause fired).0 (pass (rules m) n cause fired).1
unfolding rules pass
keeps_behind m P n cause fired each is =
    keeps_pass P later_rows (deliver_row m (installs m n) cause (told_installed m n fired)).0 cause (deliver_row m (installs m n) cause (told_installed m n fired)).1 each is

pub keeps_rules : {S : Type 0} (m : Meaning S) (P : Node S → Type 0) (n : Node S) (cause : Cause) (fired : List Fired) → KeptByRules P
    → P (deliver_row m (installs m n) cause (told_installed m n fired)).0 → P (pass (rules m) n cause fired).0
keeps_rules {S = S} m P n cause fired by is = keeps_behind m (λ (x : Node S) (told : List Fired). P x) n cause fired (keeps_later P by) is

-- a node whose decided batch waits installs nothing
pub none_installs : {S : Type 0} (m : Meaning S) (n : Node S) → is_some n.waiting ≡ true → installing n ≡ None
unfolding installing
none_installs m n waits = no_fetch n.fetch
  where
    waiting_is : (w : Option Batch) → is_some w ≡ true → is_none w ≡ false
    waiting_is None is = absurd (cc)
    waiting_is (Some b) is = refl

    no_fetch : (f : Option Fetch) → ready n f ≡ None
    no_fetch None = refl
    no_fetch (Some f) = ap (λ (t : Bool). cond (are_all_there f && t && nat_lt n.replica.place f.plan.place) (Some f) None) (waiting_is n.waiting waits) ∙ never (are_all_there f)
      where
        never : (t : Bool) → cond (t && false && nat_lt n.replica.place f.plan.place) (Some f) None ≡ None
        never true = refl
        never false = refl

-- that a node is behind gives no reason
pub why_noted : {S : Type 0} (n : Node S) (behind : Bool) (message : Message) → why_dropped (record n { behind = behind }) message ≡ why_dropped n message
unfolding why_ask why_propose why_vote why_unasked why_stop why_report why_sync why_mark why_decision why_state_ask why_offer why_part is_proven_batch firm_at is_proven is_collect signer_why slot_why regency_of start_of
why_noted n behind (Ask q) = refl
why_noted n behind _ = refl

pub why-noted : {S : Type 0} (n : Node S) (message : Message) → why_dropped (noted n message) message ≡ why_dropped n message
unfolding noted
why-noted n message = why_noted n _ message

-- ---- what comes

-- what holds of a message that was read
abbrev pub ForRead : (Message → Type 0) → Result Message ℕ → Type 0
ForRead A (Ok message) = A message
ForRead A (Err at) = Unit {0}

-- and of one that an event brings
abbrev pub ForEvent : (Message → Type 0) → NodeEvent → Type 0
ForEvent A (Arrive bytes) = ForRead A (decoded bytes)
ForEvent A Tick = Unit {0}
ForEvent A Deliver = Unit {0}
ForEvent A (Firm count) = Unit {0}

-- of which nothing is asked
pub free-read : (read : Result Message ℕ) → ForRead (λ message. Unit {0}) read
free-read (Ok message) = tt
free-read (Err at) = tt

pub free-event : (event : NodeEvent) → ForEvent (λ message. Unit {0}) event
free-event (Arrive bytes) = free-read (decoded bytes)
free-event Tick = tt
free-event Deliver = tt
free-event (Firm count) = tt

-- what holds of a node, of one that notes what it lags behind, and of one that keeps a message, holds of what was taken in

judged_as : {S : Type 0} (P : Node S → Type 0) (n : Node S) (message : Message) (why : Option Why) → P (noted n message) → (why_dropped n message ≡ why → why ≡ None → P (kept (noted n message) message))
    → why_dropped n message ≡ why → P (judged n message why).node
judged_as P n message None noted_is kept_is at = kept_is at refl
judged_as P n message (Some why) noted_is kept_is at = noted_is

pub reads_as : {S : Type 0} (P : Node S → Type 0) (A : Message → Type 0) (n : Node S) (read : Result Message ℕ) → ((message : Message) → P (noted n message))
    → ((message : Message) → why_dropped n message ≡ None → A message → P (kept (noted n message) message)) → ForRead A read → P n → P (reads n read).node
reads_as P A n (Ok message) noted_is kept_is may is =
    judged_as P n message (why_dropped n message) (noted_is message) (λ at none. kept_is message (at ∙ none) may) refl
reads_as P A n (Err at) noted_is kept_is may is = is

pub takes_in_as : {S : Type 0} (P : Node S → Type 0) (A : Message → Type 0) (n : Node S) (event : NodeEvent) → ((message : Message) → P (noted n message))
    → ((message : Message) → why_dropped n message ≡ None → A message → P (kept (noted n message) message)) → ((count : ℕ) → P (record n { firm = count })) → ForEvent A event → P n
    → P (takes_in n event).node
unfolding takes_in
takes_in_as P A n (Arrive bytes) noted_is kept_is firm_is may is = reads_as P A n (decoded bytes) noted_is kept_is may is
takes_in_as P A n Tick noted_is kept_is firm_is may is = is
takes_in_as P A n Deliver noted_is kept_is firm_is may is = is
takes_in_as P A n (Firm count) noted_is kept_is firm_is may is = firm_is (made_firm n count).firm

-- ---- steps

-- a step is a pass of the rules on what was taken in, or nothing where that was dropped
by_passed : {S : Type 0} (m : Meaning S) (t : Taken S) (why : Option Why) (P : Node S → List Fired → Type 0) → P t.node [] → P (pass (rules m) t.node t.cause []).0 (pass (rules m) t.node t.cause []).1
    → P (passed m t why).node (passed m t why).fired
by_passed m t None P is passes = passes
by_passed m t (Some why) P is passes = is

pub by_step : {S : Type 0} (m : Meaning S) (n : Node S) (event : NodeEvent) (P : Node S → List Fired → Type 0) → P (takes_in n event).node []
    → P (pass (rules m) (takes_in n event).node (takes_in n event).cause []).0 (pass (rules m) (takes_in n event).node (takes_in n event).cause []).1
    → P (step_of m n event).node (step_of m n event).fired
unfolding step_of
by_step m n event P is passes = by_passed m (takes_in n event) (takes_in n event).dropped P is passes

-- what the later rules keep, a step keeps where it holds of what was taken in, and of that behind an installation, a delivery and its mark
pub keeps_from : {S : Type 0} (m : Meaning S) (P : Node S → Type 0) (n : Node S) (event : NodeEvent) → KeptByRules P → P (takes_in n event).node
    → P (installs m (takes_in n event).node)
    → P (marks_place m (is_some (installs m (takes_in n event).node).waiting) (delivers m (installs m (takes_in n event).node)))
    → P (step_of m n event).node
keeps_from {S = S} m P n event by is installed delivered =
    let t : Taken S = takes_in n event in
    by_step m n event (λ (x : Node S) (told : List Fired). P x) is
    (keeps_rules m P t.node t.cause [] by (by_delivery m (λ (x : Node S) (told : List Fired). P x) (installs m t.node) t.cause (told_installed m t.node []) installed delivered))

pub keeps_step : {S : Type 0} (m : Meaning S) (P : Node S → Type 0) (A : Message → Type 0) (n : Node S) (event : NodeEvent) → KeptInSteps m P A → ForEvent A event → P n
    → P (step_of m n event).node
keeps_step {S = S} m P A n event by may is =
    let noted_is : (message : Message) → P (noted n message) = λ message. by.by_noted n message is in
    let taken : P (takes_in n event).node =
    takes_in_as P A n event noted_is (λ message none came. by.by_kept (noted n message) message (why-noted n message ∙ none) came (noted_is message)) (λ count. by.by_firm n count is) may is in
    let installed : P (installs m (takes_in n event).node) = by.by_installs (takes_in n event).node taken in
    let t : Node S = installs m (takes_in n event).node in
    let delivered : P (delivers m t) = by.by_delivers t installed in
    keeps_from m P n event by.by_rules taken installed (by_mark m P (is_some t.waiting) (delivers m t) delivered (λ due. by.by_marks t (and_true (is_some t.waiting) _ due).0 installed delivered))
