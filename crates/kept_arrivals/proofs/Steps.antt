-- A step on what is needed, and a core's steps.
use Rattle.std.proofs.Common.{◌≡◌, ℕ, ◌++◌, List, [], ◌∷◌, refl, ap, sym, ◌∙◌, Option, Some, None, Result, Ok, Err, append_assoc}
use Rattle.smart_base.specs.Lists.{Each}
use Rattle.smart_messages.specs.Messages.{decoded}
use Rattle.smart_messages.specs.declared.message.Message.{Message}
use Rattle.smart_statements.specs.declared.entry.NodeEvent.{NodeEvent}
use Rattle.smart_statements.specs.declared.entry.NodeEvent.TheVariants.{Arrive, Tick, Deliver, Firm}
use Rattle.smart_service.specs.Services.{Meaning}
use Rattle.node_rules.specs.Nodes.{Node, regency_of, next_place}
use Rattle.node_rules.specs.Arrivals.{why_dropped, noted, kept}
use Rattle.node_rules.specs.Rules.{fired_if, proposes, writes, accepts, deciding, decides}
use Rattle.node_rules.specs.Changes.{fired_when, fired_adopt, adopts, joins, next_promise, promising, promises, leads, timing, times}
use Rattle.node_rules.specs.Steps.{made_firm, Outcome, Taken, judged, reads, takes_in, Row, row, deliver_row, time_row, answer_row, rules, pass, passed, step_of, Outset, opened}
use Rattle.node_rules.specs.declared.node.Cause.{Cause}
use Rattle.node_rules.specs.declared.node.Cause.TheVariants.{Came, Ticked, Delivering, Firmed}
use Rattle.node_rules.specs.declared.node.Why.{Why}
use Rattle.node_rules.specs.declared.node.Fired.{Fired}
use Rattle.node_rules.specs.declared.node.Fired.TheVariants as fires
use Rattle.node_rules.specs.Kept.{trimmed, Stands, core_step, StepStands, core_after, node_after}
use Rattle.kept_arrivals.proofs.Needed.{trimmed_twice}
use Rattle.kept_arrivals.proofs.Rules.{Keeps, proposing_same, proposes_same, writing_same, writes_same, accepting_same, accepts_same, deciding_same, decides_same, delivers_marked, delivery_marked, delivers_marked_same, delivery_marked_same}
use Rattle.kept_arrivals.proofs.Changes.{adoption_same, adopts_same, joining_same, joins_same, next_promise_same, promising_same, promises_same, leading_same, leads_same, timing_same, times_same}
use Rattle.kept_arrivals.proofs.Arrivals.{why_same, noted_same, kept_same}
use Rattle.kept_arrivals.proofs.Transfers.{calls_same, called_same, installs_same, install_told_same}
use Rattle.node_rules.specs.Transfers.{installing, install_told, installs, answers_call, answered_call}
use Rattle.node_rules.proofs.Rulewise.{for_rules, why_noted}

-- Two nodes need the same. A rule of a pass may raise the regency and a decision the place, so what goes on behind it is what two nodes that
-- need the same do, and neither of them has to be the trimmed of the other.
abbrev pub Agree : {S : Type 0} → Node S → Node S → Type 0
Agree few all = trimmed few ≡ trimmed all

-- they need the same behind a rule
pub goes_on : {S : Type 0} (rule : Node S → Node S) → Keeps rule → (few all : Node S) → Agree few all → Agree (rule few) (rule all)
goes_on rule same few all agree = sym (same few) ∙ (ap (λ x. trimmed (rule x)) agree ∙ same all)

-- and tell the same, where it is told by what is needed
pub told : {S A : Type 0} (tell : Node S → A) → ((n : Node S) → tell (trimmed n) ≡ tell n) → (few all : Node S) → Agree few all → tell few ≡ tell all
told tell same few all agree = sym (same few) ∙ (ap tell agree ∙ same all)

-- ---- rows

-- A row of two nodes that need the same, after the same has fired: behind it they need the same, and the same has fired.
abbrev pub RowAgrees : {S : Type 0} → Row S → Type 0
RowAgrees {S} r = (few all : Node S) (cause : Cause) (f g : List Fired) → Agree few all → f ≡ g → Agree (r few cause f).0 (r all cause g).0 × ((r few cause f).1 ≡ (r all cause g).1)

both_told : {a b c d : List Fired} → a ≡ b → c ≡ d → a ++ c ≡ b ++ d
both_told first second = rw (first, second) refl

-- a rule by which what is needed stays needed, and that tells it
rule_agrees : {S : Type 0} (rule : Node S → Node S) (tells : Node S → List Fired) → Keeps rule → ((n : Node S) → tells (trimmed n) ≡ tells n) → RowAgrees (row rule tells)
rule_agrees rule tells same tells_same few all cause f g agree fired = (goes_on rule same few all agree, both_told fired (told tells tells_same few all agree))

deliver_agrees : {S : Type 0} (m : Meaning S) → RowAgrees (deliver_row m)
deliver_agrees m few all Delivering f g agree fired =
    let one = rule_agrees (λ x. delivers_marked m x) (λ x. delivery_marked m x) (λ n. delivers_marked_same m n) (λ n. delivery_marked_same m n) few all Delivering f g agree fired in
    (one.0, append_assoc f _ _ ∙ (one.1 ∙ sym (append_assoc g _ _)))
deliver_agrees m few all (Came called) f g agree fired = (agree, fired)
deliver_agrees m few all Ticked f g agree fired = (agree, fired)
deliver_agrees m few all Firmed f g agree fired = (agree, fired)

time_agrees : (S : Type 0) → RowAgrees {S = S} time_row
time_agrees S few all Ticked f g agree fired =
    rule_agrees times (λ x. fired_when fires.Timed (timing x)) times_same (λ n. ap (λ due. fired_when fires.Timed due) (timing_same n)) few all Ticked f g agree fired
time_agrees S few all (Came called) f g agree fired = (agree, fired)
time_agrees S few all Delivering f g agree fired = (agree, fired)
time_agrees S few all Firmed f g agree fired = (agree, fired)

answer_agrees : (S : Type 0) → RowAgrees {S = S} answer_row
answer_agrees S few all (Came called) f g agree fired =
    rule_agrees (λ x. answers_call x called) (λ x. answered_call x called) (calls_same called) (called_same called) few all (Came called) f g agree fired
answer_agrees S few all Ticked f g agree fired = (agree, fired)
answer_agrees S few all Delivering f g agree fired = (agree, fired)
answer_agrees S few all Firmed f g agree fired = (agree, fired)

promise_told : {S : Type 0} (n : Node S) → fired_when (fires.Promised (next_promise (trimmed n))) (promising (trimmed n)) ≡ fired_when (fires.Promised (next_promise n)) (promising n)
promise_told n = rw (next_promise_same n, promising_same n) refl

next_same : {S : Type 0} (n : Node S) → next_place (trimmed n) ≡ next_place n
unfolding trimmed
next_same n = refl

decide_told : {S : Type 0} (n : Node S) → fired_if (fires.Decided (next_place (trimmed n))) (deciding (trimmed n)) ≡ fired_if (fires.Decided (next_place n)) (deciding n)
decide_told n = rw (next_same n, deciding_same n) refl

-- each rule, once
rules_agree : {S : Type 0} (m : Meaning S) → Each RowAgrees (rules m)
rules_agree {S} m =
    for_rules m RowAgrees (rule_agrees (installs m) (λ n. install_told m n (installing n)) (installs_same m) (install_told_same m)) (deliver_agrees m)
    (record {
      adopt = rule_agrees adopts _ adopts_same (λ n. ap (λ sync. fired_adopt sync) (adoption_same n));
      join = rule_agrees joins _ joins_same (λ n. ap (λ due. fired_when fires.Joined due) (joining_same n));
      promise = rule_agrees promises _ promises_same promise_told;
      lead = rule_agrees leads _ leads_same (λ n. ap (λ due. fired_if fires.Led due) (leading_same n));
      propose = rule_agrees proposes _ proposes_same (λ n. ap (λ due. fired_if fires.Proposed due) (proposing_same n));
      write = rule_agrees writes _ writes_same (λ n. ap (λ due. fired_if fires.Wrote due) (writing_same n));
      accept = rule_agrees accepts _ accepts_same (λ n. ap (λ due. fired_if fires.Accepted due) (accepting_same n));
      decide = rule_agrees decides _ decides_same decide_told;
      time = time_agrees S;
      answer = answer_agrees S;
    })

-- so do passes
pass_agrees : {S : Type 0} (rows : List (Row S)) (few all : Node S) (cause : Cause) (f g : List Fired) → Each RowAgrees rows → Agree few all → f ≡ g
    → Agree (pass rows few cause f).0 (pass rows all cause g).0 × ((pass rows few cause f).1 ≡ (pass rows all cause g).1)
unfolding pass
pass_agrees [] few all cause f g each agree fired = (agree, fired)
pass_agrees (r ∷ rows) few all cause f g each agree fired =
    let next = each.0 few all cause f g agree fired in
    pass_agrees rows (r few cause f).0 (r all cause g).0 cause (r few cause f).1 (r all cause g).1 each.1 next.0 next.1

-- ---- a step

-- Two outcomes tell the same and leave the same needed.
pub record Alike {S : Type 0} (few all : Outcome S) : Type 0 where
  pub node : Agree few.node all.node
  pub fired : few.fired ≡ all.fired
  pub dropped : few.dropped ≡ all.dropped

-- what needs the same as another's trimmed needs the same as that one
agree_with : {S : Type 0} (few all : Node S) → few ≡ trimmed all → Agree few all
agree_with few all same = ap (λ x. trimmed x) same ∙ trimmed_twice all

kept_noted : {S : Type 0} (n : Node S) (message : Message) → why_dropped n message ≡ None → kept (noted (trimmed n) message) message ≡ trimmed (kept (noted n message) message)
unfolding noted
kept_noted n message is = ap (λ x. kept x message) (noted_same n message) ∙ kept_same (noted n message) message (why_noted n (noted n message).behind message ∙ is)

-- what was taken in, alike
record AlikeTaken {S : Type 0} (few all : Taken S) : Type 0 where
  pub node : Agree few.node all.node
  pub cause : few.cause ≡ all.cause
  pub dropped : few.dropped ≡ all.dropped

alike_judged : {S : Type 0} (n : Node S) (message : Message) (why : Option Why) → why_dropped n message ≡ why → AlikeTaken (judged (trimmed n) message why) (judged n message why)
alike_judged n message None is =
    record { node = agree_with (kept (noted (trimmed n) message) message) (kept (noted n message) message) (kept_noted n message is); cause = refl; dropped = refl }
alike_judged n message (Some why) is = record { node = agree_with (noted (trimmed n) message) (noted n message) (noted_same n message); cause = refl; dropped = refl }

alike_reads : {S : Type 0} (n : Node S) (read : Result Message ℕ) → AlikeTaken (reads (trimmed n) read) (reads n read)
alike_reads n (Ok message) = rw (why_same n message) (alike_judged n message (why_dropped n message) refl)
alike_reads n (Err at) = record { node = trimmed_twice n; cause = refl; dropped = refl }

firm_same : {S : Type 0} (n : Node S) (count : ℕ) → made_firm (trimmed n) count ≡ trimmed (made_firm n count)
unfolding trimmed regency_of
firm_same n count = refl

alike_taken : {S : Type 0} (n : Node S) (event : NodeEvent) → AlikeTaken (takes_in (trimmed n) event) (takes_in n event)
unfolding takes_in
alike_taken n (Arrive bytes) = alike_reads n (decoded bytes)
alike_taken n Tick = record { node = trimmed_twice n; cause = refl; dropped = refl }
alike_taken n Deliver = record { node = trimmed_twice n; cause = refl; dropped = refl }
alike_taken n (Firm count) = record { node = agree_with (made_firm (trimmed n) count) (made_firm n count) (firm_same n count); cause = refl; dropped = refl }

alike_passed : {S : Type 0} (m : Meaning S) (few all : Taken S) (why : Option Why) → Agree few.node all.node → few.cause ≡ all.cause → Alike (passed m few why) (passed m all why)
alike_passed m few all None agree cause =
    let passes = pass_agrees (rules m) few.node all.node all.cause [] [] (rules_agree m) agree refl in
    rw cause (record { node = passes.0; fired = passes.1; dropped = refl })
alike_passed m few all (Some why) agree cause = record { node = agree; fired = refl; dropped = refl }

-- a step from what is needed and a step from all
pub steps_alike : {S : Type 0} (m : Meaning S) (n : Node S) (event : NodeEvent) → Alike (step_of m (trimmed n) event) (step_of m n event)
unfolding step_of
steps_alike {S = S} m n event =
    let few : Taken S = takes_in (trimmed n) event in
    let all : Taken S = takes_in n event in
    let taken : AlikeTaken few all = alike_taken n event in
    rw taken.dropped (alike_passed m few all all.dropped taken.node taken.cause)

-- ---- the core's step

-- from the trimmed node, a core's step is the node's step, trimmed
pub core_step_trimmed : {S : Type 0} (m : Meaning S) (n : Node S) (event : NodeEvent) → StepStands m (trimmed n) n event
unfolding core_step
core_step_trimmed m n event =
    let alike = steps_alike m n event in
    record { node = record { same = alike.node }; fired = alike.fired; dropped = alike.dropped }

-- a core's step is a step of each node that it stands for
pub core_step_stands : {S : Type 0} (m : Meaning S) (core n : Node S) (event : NodeEvent) → Stands core n → StepStands m core n event
core_step_stands m core n event stands = rw stands.same (core_step_trimmed m n event)

opened_same : {S : Type 0} (o : Outset S) → opened o ≡ trimmed (opened o)
unfolding trimmed
opened_same o = refl

pub opened_stands : {S : Type 0} (o : Outset S) → Stands (opened o) (opened o)
opened_stands o = record { same = opened_same o }

pub after_stands : {S : Type 0} (m : Meaning S) (core n : Node S) (events : List NodeEvent) → Stands core n → Stands (core_after m core events) (node_after m n events)
after_stands m core n [] stands = stands
after_stands m core n (e ∷ es) stands = after_stands m (core_step m core e).node (step_of m n e).node es (core_step_stands m core n e stands).node
