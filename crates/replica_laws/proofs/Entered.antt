-- Entries that are no promise and no beginning leave a node's regency, and where it began. And what of a node no rule reads that writes an entry.
use Rattle.std.proofs.Common.{◌≡◌, ℕ, ◌==◌, Bool, true, false, List, [], ◌∷◌, length, refl, ap, ◌∙◌, arith, Option, Some, None}
use Rattle.smart_base.specs.Lists.{Each}
use Rattle.smart_statements.specs.Forms.{SignedBy}
use Rattle.smart_statements.specs.Batches.{Batch}
use Rattle.smart_statements.specs.declared.statement.Request.{Request}
use Rattle.smart_statements.specs.declared.statement.Slot.{Slot}
use Rattle.smart_statements.specs.declared.report.Mark.{Mark}
use Rattle.smart_statements.specs.declared.report.Report.{Report}
use Rattle.smart_messages.specs.declared.message.Message.{Message}
use Rattle.smart_service.specs.declared.table.Execution.{Execution}
use Rattle.vote_book.specs.Standing.{start_by}
use Rattle.vote_book.specs.declared.entry.Accept.{Accept}
use Rattle.vote_book.specs.declared.entry.Decision.{Decision}
use Rattle.vote_book.specs.declared.entry.Installation.{Installation}
use Rattle.vote_book.specs.declared.entry.Write.{Write}
use Rattle.vote_book.specs.declared.entry.LogEntry.{LogEntry}
use Rattle.vote_book.specs.declared.entry.LogEntry.TheVariants.{Wrote, Accepted, Decided, Installed, Marked}
use Rattle.node_rules.specs.Nodes.{Node, view_of, view_told, telling, regency_of, regency_in, holding, holding_all, recording}
use Rattle.node_rules.specs.Arrivals.{noted}
use Rattle.node_rules.specs.Rules.{proposing, propose_batch, proposes, answering, answer_line, answers_again}
use Rattle.node_rules.specs.Changes.{asks_next, joining, joins, leading, lead_with, leads, passes_on, presses}
use Rattle.node_rules.specs.declared.node.Held.{Held}
use Rattle.node_laws.proofs.Books.{greatest_push}
use Rattle.agreement_laws.proofs.Lists.{either, each_end}
use Rattle.node_rules.specs.declared.node.Asked.{Asked}
use Rattle.node_rules.specs.declared.node.Target.{Target}
use Rattle.node_rules.specs.declared.node.Target.TheVariants as targets
use Rattle.node_rules.specs.Marks.{firm_at}
use Rattle.node_rules.specs.Transfers.{answers_state, gives_parts, offer_for, offers_state, part_messages, shown_after}
use Rattle.smart_messages.specs.declared.message.Message.TheVariants as changes
use Rattle.transfer_form.specs.declared.transfer.StateAsk.{StateAsk}

-- an entry that is no promise and no beginning
pub record IsQuiet (e : LogEntry) : Type 0 where
  pub no_promise : (view : ℕ) → regency_in view e ≡ 0
  pub no_start : (view regency : ℕ) → start_by view regency e ≡ None

pub quiet-wrote : (w : Write) → IsQuiet (Wrote w)
quiet-wrote w = record { no_promise = λ view. refl; no_start = λ view regency. refl }

pub quiet-accepted : (a : Accept) → IsQuiet (Accepted a)
quiet-accepted a = record { no_promise = λ view. refl; no_start = λ view regency. refl }

pub quiet-decided : (d : Decision) → IsQuiet (Decided d)
quiet-decided d = record { no_promise = λ view. refl; no_start = λ view regency. refl }

pub quiet-marked : (m : Mark) → IsQuiet (Marked m)
quiet-marked m = record { no_promise = λ view. refl; no_start = λ view regency. refl }

pub quiet-installed : (i : Installation) → IsQuiet (Installed i)
quiet-installed i = record { no_promise = λ view. refl; no_start = λ view regency. refl }

pub regency-quiet : {S : Type 0} (n : Node S) (e : LogEntry) → IsQuiet e → regency_of (recording n e) ≡ regency_of n
unfolding regency_of
regency-quiet n e quiet =
    let grown = greatest_push (view_of n).number n.entries e in
    let none = quiet.no_promise (view_of n).number in
    omega (arith, grown, none)

-- what no rule reads that writes an entry

-- a node that differs in what it holds, in the slots that it proposed for, and in what this life has done, at most
pub record Aside {S : Type 0} (n n' : Node S) : Type 0 where
  pub holds : List Held
  pub slots : List Slot
  pub stopped : Bool
  pub led : Bool
  pub pressed : Bool
  pub told : Bool
  pub same : n' ≡ record n { held = holds; proposed = slots; stop_made = stopped; sync_made = led; impatient = pressed; behind = told }

pub aside-same : {S : Type 0} (n : Node S) → Aside n n
aside-same n = record { holds = n.held; slots = n.proposed; stopped = n.stop_made; led = n.sync_made; pressed = n.impatient; told = n.behind; same = refl }

pub aside-then : {S : Type 0} (a b c : Node S) → Aside a b → Aside b c → Aside a c
aside-then {S = S} a b c f g = record {
  holds = g.holds;
  slots = g.slots;
  stopped = g.stopped;
  led = g.led;
  pressed = g.pressed;
  told = g.told;
  same = g.same ∙ ap (λ (x : Node S). record x { held = g.holds; proposed = g.slots; stop_made = g.stopped; sync_made = g.led; impatient = g.pressed; behind = g.told }) f.same;
}

pub aside-asks_next : {S : Type 0} (n : Node S) → Aside n (asks_next n)
aside-asks_next {S = S} n =
    let x : Node S = asks_next n in
    record { holds = x.held; slots = n.proposed; stopped = true; led = n.sync_made; pressed = n.impatient; told = n.behind; same = refl }

pub aside-joins : {S : Type 0} (n : Node S) → Aside n (joins n)
unfolding joins
aside-joins {S = S} n = either (λ (x : Node S). Aside n x) (joining n) (asks_next n) n (aside-asks_next n) (aside-same n)

aside-lead_with : {S : Type 0} (n : Node S) (collect : Option (List (SignedBy Report))) → Aside n (lead_with n collect)
unfolding lead_with
aside-lead_with n None = aside-same n
aside-lead_with {S = S} n (Some collect) =
    let x : Node S = lead_with n (Some collect) in
    record { holds = x.held; slots = n.proposed; stopped = n.stop_made; led = true; pressed = n.impatient; told = n.behind; same = refl }

pub aside-leads : {S : Type 0} (n : Node S) → Aside n (leads n)
unfolding leads
aside-leads n = aside-lead_with n (leading n)

aside-propose_batch : {S : Type 0} (n : Node S) (batch : Option Batch) → Aside n (propose_batch n batch)
unfolding propose_batch
aside-propose_batch n None = aside-same n
aside-propose_batch {S = S} n (Some batch) =
    let x : Node S = propose_batch n (Some batch) in
    record { holds = x.held; slots = x.proposed; stopped = n.stop_made; led = n.sync_made; pressed = n.impatient; told = n.behind; same = refl }

pub aside-proposes : {S : Type 0} (n : Node S) → Aside n (proposes n)
unfolding proposes
aside-proposes n = aside-propose_batch n (proposing n)

aside-passes_on : {S : Type 0} (n : Node S) (pool : List (SignedBy Request)) → Aside n (passes_on n pool)
aside-passes_on n [] = aside-same n
aside-passes_on {S = S} n (q ∷ qs) =
    let x : Node S = passes_on n (q ∷ qs) in
    record { holds = x.held; slots = n.proposed; stopped = n.stop_made; led = n.sync_made; pressed = n.impatient; told = n.behind; same = refl }

pub aside-presses : {S : Type 0} (n : Node S) → Aside n (presses n)
unfolding presses
aside-presses {S = S} n =
    let x : Node S = record n { impatient = true } in
    either (λ (y : Node S). Aside n y) n.impatient (asks_next n) (passes_on x n.pool) (aside-asks_next n)
    (aside-then n x (passes_on x n.pool)
    (record { holds = n.held; slots = n.proposed; stopped = n.stop_made; led = n.sync_made; pressed = true; told = n.behind; same = refl }) (aside-passes_on x n.pool))

-- messages put into the outbox

pub aside-holding : {S : Type 0} (n : Node S) (to : Target) (m : Message) → Aside n (holding n to m)
aside-holding {S = S} n to m =
    let x : Node S = holding n to m in
    record { holds = x.held; slots = n.proposed; stopped = n.stop_made; led = n.sync_made; pressed = n.impatient; told = n.behind; same = refl }

pub aside-holding_all : {S : Type 0} (n : Node S) (to : Target) (ms : List Message) → Aside n (holding_all n to ms)
aside-holding_all n to [] = aside-same n
aside-holding_all n to (m ∷ ms) = aside-then n (holding n to m) (holding_all (holding n to m) to ms) (aside-holding n to m) (aside-holding_all (holding n to m) to ms)

aside-offers_state : {S : Type 0} (n : Node S) (a : StateAsk) → Aside n (offers_state n a)
unfolding offers_state
aside-offers_state n a = aside-holding_all n (targets.Node a.member) (changes.StateOffer (offer_for n a.place) ∷ shown_after n a.place)

aside-gives_parts : {S : Type 0} (n : Node S) (a : StateAsk) → Aside n (gives_parts n a)
unfolding gives_parts
aside-gives_parts n a = aside-holding_all n (targets.Node a.member) (part_messages (firm_at n a.fetch))

pub aside-answers_state : {S : Type 0} (n : Node S) (a : StateAsk) → Aside n (answers_state n a)
unfolding answers_state
aside-answers_state {S = S} n a = either (λ (x : Node S). Aside n x) (a.fetch == 0) (offers_state n a) (gives_parts n a) (aside-offers_state n a) (aside-gives_parts n a)

-- a view that is told, or not
pub aside-telling : {S : Type 0} (known : Bool) (to : Target) (n : Node S) → Aside n (telling known to n)
aside-telling {S = S} known to n =
    let x : Node S = telling known to n in
    record { holds = x.held; slots = n.proposed; stopped = n.stop_made; led = n.sync_made; pressed = n.impatient; told = n.behind; same = refl }

-- it is the only message more that is held
pub each-telling : {S : Type 0} (P : Held → Type 0) (n : Node S) (known : Bool) (to : Target) → Each P n.held
    → (known ≡ false → P (record { to = to; message = view_told n; needs = length n.entries })) → Each P (telling known to n).held
each-telling P n true to is told = is
each-telling P n false to is told = each_end P n.held _ is (told refl)

aside-answer_line : {S : Type 0} (n : Node S) (line : Option Execution) → Aside n (answer_line n line)
unfolding answer_line
aside-answer_line n None = aside-same n
aside-answer_line {S = S} n (Some line) =
    let x : Node S = answer_line n (Some line) in
    record { holds = x.held; slots = n.proposed; stopped = n.stop_made; led = n.sync_made; pressed = n.impatient; told = n.behind; same = refl }

pub aside-answers_again : {S : Type 0} (n : Node S) (asked : Asked) → Aside n (answers_again n asked)
unfolding answers_again
aside-answers_again n asked = aside-answer_line n (answering n asked)

pub aside-noted : {S : Type 0} (n : Node S) (message : Message) → Aside n (noted n message)
unfolding noted
aside-noted {S = S} n message =
    let x : Node S = noted n message in
    record { holds = n.held; slots = n.proposed; stopped = n.stop_made; led = n.sync_made; pressed = n.impatient; told = x.behind; same = refl }
