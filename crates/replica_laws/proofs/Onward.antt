-- Each message that a node holds is its own and rests on entries that it waits for; and a node's book only grows.
use Rattle.std.proofs.Common.{◌≡◌, ℕ, zero, suc, ◌+◌, ◌≤◌, ◌++◌, ◌==◌, nat_le, nat_lt, Bool, true, false, cond, List, [], ◌∷◌, length, refl, ap, ◌∙◌, sym, arith, Option, Some, None, Result, Ok, Err, is_some, subst, append-nil, append_assoc, length-append, take}
use Rattle.std.proofs.lemmas.List.{take_all}
use Rattle.std.specs.Prelude.{IfSome, map, option_map}
use Rattle.smart_base.specs.Lists.{Each}
use Rattle.smart_base.specs.Views.{View, is_member, leader}
use Rattle.smart_statements.specs.Forms.{SignedBy}
use Rattle.smart_statements.specs.Batches.{Batch}
use Rattle.smart_messages.specs.Messages.{decoded}
use Rattle.smart_statements.specs.Kinds.{proposals}
use Rattle.smart_statements.specs.Reports.{marks}
use Rattle.smart_messages.specs.Regencies.{syncs}
use Rattle.smart_statements.specs.declared.statement.Request.{Request}
use Rattle.smart_statements.specs.declared.statement.VoteKind.TheVariants.{Write, Accept}
use Rattle.smart_statements.specs.declared.report.Report.{Report}
use Rattle.smart_messages.specs.declared.regency.Sync.{Sync}
use Rattle.smart_messages.specs.declared.message.Message.TheVariants as changes
use Rattle.smart_messages.specs.declared.message.Message.TheVariants.{Ask, Propose, Reply}
use Rattle.smart_messages.specs.declared.message.Message.{Message}
use Rattle.smart_messages.specs.declared.message.Proposed.{Proposed}
use Rattle.smart_statements.specs.declared.entry.NodeEvent.{NodeEvent}
use Rattle.smart_statements.specs.declared.entry.NodeEvent.TheVariants.{Arrive, Tick, Deliver, Firm}
use Rattle.smart_service.specs.Services.{Meaning}
use Rattle.smart_service.specs.Tables.{kept_in}
use Rattle.smart_service.specs.declared.table.Execution.{Execution}
use Rattle.vote_book.specs.Books.{Among, last_made}
use Rattle.vote_book.proofs.Tested.{made_within}
use Rattle.vote_book.specs.declared.entry.Decision.{Decision}
use Rattle.vote_book.specs.declared.entry.LogEntry.{LogEntry}
use Rattle.vote_book.specs.declared.entry.LogEntry.TheVariants as entries
use Rattle.agreement_laws.specs.Diaries.{HasReached, HasReported, IsShown}
use Rattle.replica_rules.specs.Replicas.{is_next, delivered, executed_lines, at_next}
use Rattle.replica_rules.specs.Seals.{signed, digest_of}
use Rattle.replica_rules.specs.Pools.{offered, settled}
use Rattle.node_rules.specs.Rules.{reply_of, replying, lines_to_answer, deliver_batch, delivers, proposing, propose_batch, proposes, ballot, writing, write_batch, writes, accepting, accept_batch, accepts, deciding, decide_batch, decides, replies_with, answering, answer_line, answers_again}
use Rattle.node_rules.specs.Nodes.{Node, view_of, view_told, regency_of, next_place, open_slot, holding, holding_all, recording, signs, enters, informs, stays_in_view, telling}
use Rattle.node_rules.specs.Votes.{certificate_votes}
use Rattle.node_rules.specs.Arrivals.{kept, noted}
use Rattle.node_rules.specs.Changes.{start_by_sync, promised_for, adopts_by, adoption, adopts, stop_for, asks_next, joining, joins, report_of, reported_by, next_promise, promising, promise_next, promises, leading, lead_with, leads, lags, state_ask, asks_state, timing, passes_on, presses, times}
use Rattle.node_rules.specs.Steps.{made_firm, takes_in, step_of, released, opened, outset}
use Rattle.node_rules.specs.Marks.{mark_of, mark_place, firm_at}
use Rattle.node_rules.specs.Transfers.{installing, installed_by, install_replica, is_of_group, spoil, install_by, install_fetch, installs, marks_past, last_few, offer_for, decided_at, shown_as, is_shown_place, places_after, shown_at, shown_after, offers_state, part_messages, gives_parts, answers_state, planning, follow_plan, plans}
use Rattle.node_rules.specs.declared.node.OwnSnapshot.{OwnSnapshot}
use Rattle.state_transfer.specs.Fetches.{finished, joined_of}
use Rattle.state_transfer.specs.Seeds.{seeds}
use Rattle.state_transfer.specs.declared.choice.Plan.{Plan}
use Rattle.state_transfer.specs.declared.fetch.Fetch.{Fetch}
use Rattle.state_transfer.specs.declared.fetch.Spoiled.{Spoiled}
use Rattle.transfer_form.specs.declared.transfer.StateAsk.{StateAsk}
use Rattle.transfer_form.specs.declared.transfer.StatePart.{StatePart}
use Rattle.smart_base.specs.declared.limits.TheConstants.{MARKS}
use Rattle.smart_service.specs.declared.replica.Replica.{Replica}
use Rattle.smart_statements.specs.declared.report.Mark.{Mark}
use Rattle.vote_book.proofs.Last.{last_push}
use Rattle.node_laws.proofs.Deciding.{due_is}
use Rattle.node_laws.proofs.Installing.{IsReady, installing_is, marks_stand}
use Rattle.node_laws.proofs.Lists.{each_filter_map_in}
use Rattle.node_laws.proofs.Planning.{IsTakenFrom, finished_from, restored_follow, restored_low}
use Rattle.node_rules.specs.declared.node.Held.{Held}
use Rattle.node_rules.specs.declared.node.Target.{Target}
use Rattle.node_rules.specs.declared.node.Target.TheVariants as targets
use Rattle.node_laws.proofs.MovedViews.{GrownAt, grown-delivered, moved-start}
use Rattle.replica_laws.specs.Sending.{IsOwn, IsToClient, RestsOn}
use Rattle.replica_laws.proofs.Replying.{replica-replying}
use Rattle.replica_laws.proofs.StartBy.{StartBy, start-followed, start-grown, start-more, start-told}
use Rattle.replica_laws.proofs.Executions.{OfRequest, of_delivered}
use Rattle.replica_laws.proofs.Again.{ForLine, answering-each, each-delivered}
use Rattle.node_rules.proofs.Rulewise.{KeptByRules, by_mark, free-read, reads_as, keeps_from}
use Rattle.agreement_laws.proofs.Lists.{among_left, either, each_end, some_equal}
use Rattle.node_laws.proofs.Lists.{among_last}
use Rattle.agreement_laws.specs.Statements.{Statement}
use Rattle.agreement_laws.specs.Statements as says
use Rattle.agreement_laws.proofs.Growing.{HasReached-more, IsShown-more}
use Rattle.smart_base.proofs.ViewFacts.{each-weaken}
use Rattle.node_laws.proofs.Passes.{each_staying}
use Rattle.node_rules.specs.declared.node.Asked.{Asked}
use Rattle.std.specs.List.{filter_map}

-- ---- longer books

pub record Longer (xs ys : List LogEntry) : Type 0 where
  pub more : List LogEntry
  pub split : ys ≡ xs ++ more

pub longer-append : (xs ys : List LogEntry) → Longer xs (xs ++ ys)
longer-append xs ys = record { more = ys; split = refl }

-- fronts of the same length
pub longer-take : (k : ℕ) (xs ys : List LogEntry) → Longer (take k xs) (take k (xs ++ ys))
longer-take zero xs ys = record { more = []; split = refl }
longer-take (suc k) [] ys = record { more = take (suc k) ys; split = refl }
longer-take (suc k) (x ∷ xs) ys = let rest = longer-take k xs ys in record { more = rest.more; split = ap (λ zs. x ∷ zs) rest.split }

-- a longer front
pub longer-front : (k j : ℕ) (xs : List LogEntry) → k ≤ j → Longer (take k xs) (take j xs)
longer-front zero j xs le = record { more = take j xs; split = refl }
longer-front (suc k) zero xs le = absurd (omega (arith, le))
longer-front (suc k) (suc j) [] le = record { more = []; split = refl }
longer-front (suc k) (suc j) (x ∷ xs) le = let rest = longer-front k j xs (omega (arith, le)) in record { more = rest.more; split = ap (λ zs. x ∷ zs) rest.split }

-- what a message rests on stands in a longer book too
pub rests-more : (xs ys : List LogEntry) → Longer xs ys → (message : Message) → RestsOn xs message → RestsOn ys message
rests-more xs ys longer message rests = subst (λ (es : List LogEntry). RestsOn es message) (sym longer.split)
    (each-weaken (IsShown digest_of xs) (IsShown digest_of (xs ++ longer.more)) (λ s shown. IsShown-more digest_of xs longer.more s shown) (says.own message) rests)

-- ---- nodes

-- a held message is its node's own, and rests on the entries that it waits for
pub record HoldsRight (id : ℕ) (es : List LogEntry) (h : Held) : Type 0 where
  pub own : IsOwn id h.to h.message
  pub needs_are : h.needs ≤ length es
  pub rests : RestsOn (take h.needs es) h.message

-- a book has decided a batch at a place
pub record HasDecided (es : List LogEntry) (place : ℕ) (batch : Batch) : Type 0 where
  pub decision : Decision
  pub there : Among (entries.Decided decision) es
  pub place_is : decision.slot.place ≡ place
  pub batch_is : decision.batch ≡ batch

-- a book has decided the batch that waits, if one does, at a place
abbrev pub IsDecided : ℕ → List LogEntry → Option Batch → Type 0
IsDecided place es waiting = IfSome waiting (HasDecided es place)

-- a reply made of a table line rests on a book
abbrev pub LineRests : List LogEntry → Execution → Type 0
LineRests es line = HasReached es line.place

-- all held messages are right, the batch that waits is decided, and the book has reached the place of each line of the table, and the place before
-- each view behind the first
pub record NodeRests {S : Type 0} (n : Node S) : Type 0 where
  pub held : Each (HoldsRight n.id n.entries) n.held
  pub waits : IsDecided (next_place n) n.entries n.waiting
  pub lines : Each (LineRests n.entries) (kept_in n.replica.table)
  pub views : StartBy (last_made n.entries) n.replica.views

-- a node whose book has grown, and is right
pub record Onward {S : Type 0} (n n' : Node S) : Type 0 where
  pub id : n'.id ≡ n.id
  pub firm : n'.firm ≡ n.firm
  pub more : List LogEntry
  pub book : n'.entries ≡ n.entries ++ more
  pub rests : NodeRests n'

pub onward-same : {S : Type 0} (n : Node S) → NodeRests n → Onward n n
onward-same n is = record { id = refl; firm = refl; more = []; book = sym (append-nil n.entries); rests = is }

pub onward-then : {S : Type 0} (a b c : Node S) → Onward a b → Onward b c → Onward a c
onward-then a b c f g =
    record {
      id = g.id ∙ f.id;
      firm = g.firm ∙ f.firm;
      more = f.more ++ g.more;
      book = g.book ∙ (ap (λ es. es ++ g.more) f.book ∙ append_assoc a.entries f.more g.more);
      rests = g.rests;
    }

-- a batch that is decided is so in a longer book
decided-more : (place : ℕ) (es more : List LogEntry) (waiting : Option Batch) → IsDecided place es waiting → IsDecided place (es ++ more) waiting
decided-more place es more None is = tt
decided-more place es more (Some batch) is =
    record { decision = is.decision; there = among_left (entries.Decided is.decision) es more is.there; place_is = is.place_is; batch_is = is.batch_is }

-- messages that wait, of a longer book
holds-more : (id : ℕ) (es more : List LogEntry) (held : List Held) → Each (HoldsRight id es) held → Each (HoldsRight id (es ++ more)) held
holds-more id es more held each =
    each-weaken (HoldsRight id es) (HoldsRight id (es ++ more))
    (λ h right. let needs = right.needs_are in
    record {
      own = right.own;
      needs_are = omega (arith, needs, length-append es more);
      rests = rests-more (take h.needs es) (take h.needs (es ++ more)) (longer-take h.needs es more) h.message right.rests;
    }) held each

-- a message is held that rests on the book
holds-one : {S : Type 0} (n : Node S) (to : Target) (message : Message) → IsOwn n.id to message → RestsOn n.entries message
    → HoldsRight n.id n.entries (record { to = to; message = message; needs = length n.entries })
holds-one n to message own rests = record {
  own = own;
  needs_are = omega arith;
  rests = subst (λ (es : List LogEntry). RestsOn es message) (sym (take_all (length n.entries) n.entries (omega arith))) rests;
}

pub rests-holding : {S : Type 0} (n : Node S) (to : Target) (message : Message) → IsOwn n.id to message → RestsOn n.entries message → NodeRests n → NodeRests (holding n to message)
rests-holding n to message own rests is =
    record { held = each_end (HoldsRight n.id n.entries) n.held _ is.held (holds-one n to message own rests); waits = is.waits; lines = is.lines; views = is.views }

-- lines of a table, of a longer book
lines-more : (es more : List LogEntry) (lines : List Execution) → Each (LineRests es) lines → Each (LineRests (es ++ more)) lines
lines-more es more lines each = each-weaken (LineRests es) (LineRests (es ++ more)) (λ l rests. HasReached-more es more l.place rests) lines each

-- an entry is recorded
pub rests-recording : {S : Type 0} (n : Node S) (e : LogEntry) → NodeRests n → NodeRests (recording n e)
rests-recording n e is =
    record {
      held = holds-more n.id n.entries (e ∷ []) n.held is.held;
      waits = decided-more (next_place n) n.entries (e ∷ []) n.waiting is.waits;
      lines = lines-more n.entries (e ∷ []) (kept_in n.replica.table) is.lines;
      views = start-more (last_made n.entries) (last_made (n.entries ++ e ∷ [])) n.replica.views (let pushed = last_push n.entries e in omega (arith, pushed)) is.views;
    }

-- a place that is decided is reached
reached-decided : (es : List LogEntry) (place : ℕ) (batch : Batch) → HasDecided es place batch → HasReached es place
reached-decided es place batch decided =
    let made = made_within (entries.Decided decided.decision) es decided.decision.slot.place decided.there refl in
    let same = decided.place_is in
    omega (arith, made, same)

-- a reply rests where its place is decided
rests-reply : (es : List LogEntry) (place : ℕ) (batch : Batch) (l : Execution) → HasDecided es place batch → l.place ≡ place → LineRests es l
rests-reply es place batch l decided at =
    let reached = reached-decided es place batch decided in omega (arith, reached, at)

-- a message is held, and else nothing of the book changes
onward-holding : {S : Type 0} (n : Node S) (to : Target) (message : Message) → IsOwn n.id to message → RestsOn n.entries message → NodeRests n → Onward n (holding n to message)
onward-holding n to message own rests is =
    let r = rests-holding n to message own rests is in
    record { id = refl; firm = refl; more = []; book = sym (append-nil n.entries); rests = record { held = r.held; waits = r.waits; lines = r.lines; views = r.views } }

-- a view is told, where the book has reached the place before it
onward-telling : {S : Type 0} (n : Node S) (known : Bool) (to : Target) → IsToClient to → (known ≡ false → (view_of n).start ≤ last_made n.entries + 1) → NodeRests n
    → Onward n (telling known to n)
onward-telling n true to client reached is = onward-same n is
onward-telling n false to client reached is = onward-holding n to (view_told n) (refl, client) (reached refl, tt) is

-- replies are held
onward-replying : {S : Type 0} (n : Node S) (lines : List Execution) → Each (LineRests n.entries) lines → NodeRests n → Onward n (replying n lines)
onward-replying n [] each is = onward-same n is
onward-replying n (l ∷ ls) each is =
    let f = onward-replying (holding n (targets.Client l.client) (reply_of n.secret n.id l)) ls each.1
    (rests-holding n (targets.Client l.client) (reply_of n.secret n.id l) (refl, refl) (each.0, tt) is) in
    record { id = f.id; firm = f.firm; more = f.more; book = f.book; rests = f.rests }

-- the replies to a batch that is decided rest on its decision
lines_rest : {S : Type 0} (m : Meaning S) (n : Node S) (batch : Batch) → HasDecided n.entries (next_place n) batch → Each (LineRests n.entries) (executed_lines m n.replica batch)
lines_rest m n batch decided =
    each-weaken (OfRequest (at_next n.replica) 0 batch) (LineRests n.entries) (λ l of. rests-reply n.entries (next_place n) batch l decided of.at_place)
    (executed_lines m n.replica batch) (of_delivered m n.replica batch)

replies_rest : {S : Type 0} (m : Meaning S) (n : Node S) (batch : Batch) → HasDecided n.entries (next_place n) batch → Each (LineRests n.entries) (lines_to_answer m n batch)
replies_rest m n batch decided =
    either (λ (ls : List Execution). Each (LineRests n.entries) ls) (is_member (view_of n) n.id) (executed_lines m n.replica batch) [] (lines_rest m n batch decided) tt

-- the batch that waits is delivered
onward-deliver_batch : {S : Type 0} (m : Meaning S) (n : Node S) (batch : Option Batch) → n.waiting ≡ batch → NodeRests n → Onward n (deliver_batch m n batch)
unfolding deliver_batch
onward-deliver_batch m n None at is = onward-same n is
onward-deliver_batch {S = S} m n (Some batch) at is =
    let decided : HasDecided n.entries (next_place n) batch = subst (IsDecided (next_place n) n.entries) at is.waits in
    let reached : HasReached n.entries (next_place n) = reached-decided n.entries (next_place n) batch decided in
    let r : Replica S = delivered m n.replica batch in
    let grown : GrownAt (next_place n) n.replica.views r.views = grown-delivered m n.replica batch in
    let x : Node S = enters n (record n { replica = r; waiting = None; pool = settled r.table n.pool; impatient = false }) in
    let y : Node S = replying x (lines_to_answer m n batch) in
    let f : Onward x y =
    onward-replying x (lines_to_answer m n batch) (replies_rest m n batch decided)
    (record {
      held = is.held;
      waits = tt;
      lines = each-delivered (LineRests n.entries) m n.replica batch is.lines (lines_rest m n batch decided);
      views = start-grown (last_made n.entries) (next_place n) n.replica.views r.views reached grown is.views;
    }) in
    let begun : stays_in_view n y ≡ false → (view_of y).start ≤ last_made y.entries + 1 =
    (λ moved.
    let start = moved-start (next_place n) n.replica.views y.replica.views
    (subst (λ (z : Replica S). GrownAt (next_place n) n.replica.views z.views) (sym (replica-replying x (lines_to_answer m n batch))) grown) moved in
    let there : HasReached y.entries (next_place n) = subst (λ (es : List LogEntry). HasReached es (next_place n)) (sym f.book) (HasReached-more n.entries f.more (next_place n) reached) in
    omega (arith, start, there)) in
    let both : Onward x (informs n y) = onward-then x y (informs n y) f (onward-telling y (stays_in_view n y) targets.Clients tt begun f.rests) in
    record { id = both.id; firm = both.firm; more = both.more; book = both.book; rests = both.rests }

pub onward-delivers : {S : Type 0} (m : Meaning S) (n : Node S) → NodeRests n → Onward n (delivers m n)
unfolding delivers
onward-delivers m n is = onward-deliver_batch m n n.waiting refl is

-- an arrival is kept
onward-kept : {S : Type 0} (n : Node S) (message : Message) → NodeRests n → Onward n (kept n message)
unfolding kept
onward-kept {S = S} n (Ask q) is =
    either (λ (x : Node S). Onward n x) (is_next n.replica.table q.statement) (record n { pool = offered n.pool q }) n
    (record { id = refl; firm = refl; more = []; book = sym (append-nil n.entries); rests = record { held = is.held; waits = is.waits; lines = is.lines; views = is.views } })
    (onward-same n is)
onward-kept n (Reply a) is = onward-same n is
onward-kept n (changes.StateAsk a) is = onward-same n is
onward-kept n (changes.ViewTold i) is = onward-same n is
onward-kept n _ is = record { id = refl; firm = refl; more = []; book = sym (append-nil n.entries); rests = record { held = is.held; waits = is.waits; lines = is.lines; views = is.views } }

-- a node is told that it is behind
onward-noted : {S : Type 0} (n : Node S) (message : Message) → NodeRests n → Onward n (noted n message)
unfolding noted
onward-noted n message is = record { id = refl; firm = refl; more = []; book = sym (append-nil n.entries); rests = record { held = is.held; waits = is.waits; lines = is.lines; views = is.views } }

-- a node answers again
onward-answer_line : {S : Type 0} (n : Node S) (line : Option Execution) → ForLine line (LineRests n.entries) → NodeRests n → Onward n (answer_line n line)
unfolding answer_line
onward-answer_line n None rests is = onward-same n is
onward-answer_line {S = S} n (Some line) rests is =
    let x : Node S = replies_with n line in
    let f : Onward n x = onward-holding n (targets.Client line.client) (reply_of n.secret n.id line) (refl, refl) (rests, tt) is in
    onward-then n x (answer_line n (Some line)) f
    (onward-telling x (nat_le (length n.replica.views) 1) (targets.Client line.client) tt (start-told (last_made n.entries) n.replica.views is.views) f.rests)

onward-answers_again : {S : Type 0} (n : Node S) (asked : Asked) → NodeRests n → Onward n (answers_again n asked)
unfolding answers_again
onward-answers_again n asked is = onward-answer_line n (answering n asked) (answering-each (LineRests n.entries) n asked is.lines) is

-- the next regency is asked for
onward-asks_next : {S : Type 0} (n : Node S) → NodeRests n → Onward n (asks_next n)
onward-asks_next {S = S} n is =
    let f = onward-holding (record n { stop_made = true }) targets.View (stop_for n) refl (tt, tt) (record { held = is.held; waits = is.waits; lines = is.lines; views = is.views }) in
    record { id = f.id; firm = f.firm; more = f.more; book = f.book; rests = f.rests }

onward-joins : {S : Type 0} (n : Node S) → NodeRests n → Onward n (joins n)
unfolding joins
onward-joins {S = S} n is = either (λ (x : Node S). Onward n x) (joining n) (asks_next n) n (onward-asks_next n is) (onward-same n is)

-- a regency begins by its leader
onward-lead_with : {S : Type 0} (n : Node S) (collect : Option (List (SignedBy Report))) → NodeRests n → Onward n (lead_with n collect)
unfolding lead_with
onward-lead_with n None is = onward-same n is
onward-lead_with n (Some collect) is =
    let f = onward-holding (record n { sync_made = true }) targets.View
    (changes.Sync (signed syncs n.secret n.id (record { view = (view_of n).number; regency = regency_of n; collect = collect }))) refl (tt, tt)
    (record { held = is.held; waits = is.waits; lines = is.lines; views = is.views }) in
    record { id = f.id; firm = f.firm; more = f.more; book = f.book; rests = f.rests }

onward-leads : {S : Type 0} (n : Node S) → NodeRests n → Onward n (leads n)
unfolding leads
onward-leads n is = onward-lead_with n (leading n) is

-- time passes
onward-passes_on : {S : Type 0} (n : Node S) (pool : List (SignedBy Request)) → NodeRests n → Onward n (passes_on n pool)
onward-passes_on n [] is = onward-same n is
onward-passes_on n (q ∷ qs) is = onward-holding n (targets.Node (leader (view_of n) (regency_of n))) (Ask q) tt (tt, tt) is

onward-presses : {S : Type 0} (n : Node S) → NodeRests n → Onward n (presses n)
unfolding presses
onward-presses {S = S} n is =
    let x : Node S = record n { impatient = true } in
    let f = onward-passes_on x n.pool (record { held = is.held; waits = is.waits; lines = is.lines; views = is.views }) in
    either (λ (y : Node S). Onward n y) n.impatient (asks_next n) (passes_on x n.pool) (onward-asks_next n is) (record { id = f.id; firm = f.firm; more = f.more; book = f.book; rests = f.rests })

-- state is asked for
onward-asks_state : {S : Type 0} (n : Node S) → NodeRests n → Onward n (asks_state n)
unfolding asks_state
onward-asks_state {S = S} n is =
    let x : Node S = record n { offers = []; fetch = None; behind = false } in
    let f = onward-holding x targets.View (state_ask n 0) refl tt (record { held = is.held; waits = is.waits; lines = is.lines; views = is.views }) in
    record { id = f.id; firm = f.firm; more = f.more; book = f.book; rests = f.rests }

onward-times : {S : Type 0} (n : Node S) → NodeRests n → Onward n (times n)
unfolding times
onward-times {S = S} n is =
    either (λ (x : Node S). Onward n x) (lags n) (asks_state n) _ (onward-asks_state n is)
    (either (λ (x : Node S). Onward n x) (timing n) (presses n) n (onward-presses n is) (onward-same n is))

-- entries are recorded
onward-recording : {S : Type 0} (n : Node S) (e : LogEntry) → NodeRests n → Onward n (recording n e)
onward-recording n e is = record { id = refl; firm = refl; more = e ∷ []; book = refl; rests = rests-recording n e is }

-- a beginning is adopted
onward-promised_for : {S : Type 0} (n : Node S) (sync : Sync) → NodeRests n → Onward n (record n { entries = n.entries ++ promised_for n sync })
onward-promised_for {S = S} n sync is =
    either (λ (more : List LogEntry). Onward n (record n { entries = n.entries ++ more })) (nat_lt (regency_of n) sync.regency) _ []
    (onward-recording n (entries.Promised (record { view = sync.view; regency = sync.regency })) is)
    (record {
      id = refl;
      firm = refl;
      more = [];
      book = refl;
      rests = record {
        held = holds-more n.id n.entries [] n.held is.held;
        waits = decided-more (next_place n) n.entries [] n.waiting is.waits;
        lines = lines-more n.entries [] (kept_in n.replica.table) is.lines;
        views = subst (λ (es : List LogEntry). StartBy (last_made es) n.replica.views) (sym (append-nil n.entries)) is.views;
      };
    })

onward-adopts_by : {S : Type 0} (n : Node S) (sync : Option (SignedBy Sync)) → NodeRests n → Onward n (adopts_by n sync)
unfolding adopts_by
onward-adopts_by n None is = onward-same n is
onward-adopts_by {S = S} n (Some sync) is =
    let x : Node S = record n { entries = n.entries ++ promised_for n sync.statement } in
    let f : Onward n x = onward-promised_for n sync.statement is in
    let e : LogEntry = entries.Synced (start_by_sync sync.statement) in
    let g : Onward x (recording x e) = onward-recording x e f.rests in
    let both = onward-then n x (recording x e) f g in
    record { id = refl; firm = refl; more = both.more; book = both.book; rests = record { held = g.rests.held; waits = g.rests.waits; lines = g.rests.lines; views = g.rests.views } }

onward-adopts : {S : Type 0} (n : Node S) → NodeRests n → Onward n (adopts n)
unfolding adopts
onward-adopts n is = onward-adopts_by n (adoption n) is

-- the next regency is promised, and its leader told what stood in the book before
promise-reports : {S : Type 0} (n : Node S) → HasReported digest_of (n.entries ++ entries.Promised (next_promise n) ∷ []) (report_of n (regency_of n + 1))
unfolding report_of
promise-reports n = record { before = n.entries; after = []; split = refl; reports = record { last = refl; evidence = refl; lock = refl } }

onward-promise_next : {S : Type 0} (n : Node S) → NodeRests n → Onward n (promise_next n)
unfolding promise_next reported_by
onward-promise_next {S = S} n is =
    let e : LogEntry = entries.Promised (next_promise n) in
    let x : Node S = record (recording n e) { stop_made = false; sync_made = false; impatient = true } in
    let r = rests-recording n e is in
    let f = onward-holding x (targets.Node (leader (view_of n) (regency_of n + 1))) (changes.StopData (reported_by n (regency_of n + 1))) (refl, tt) (promise-reports n, tt)
    (record { held = r.held; waits = r.waits; lines = r.lines; views = r.views }) in
    record { id = refl; firm = refl; more = e ∷ []; book = refl; rests = record { held = f.rests.held; waits = f.rests.waits; lines = f.rests.lines; views = f.rests.views } }

onward-promises : {S : Type 0} (n : Node S) → NodeRests n → Onward n (promises n)
unfolding promises
onward-promises {S = S} n is = either (λ (x : Node S). Onward n x) (promising n) (promise_next n) n (onward-promise_next n is) (onward-same n is)

-- a batch is proposed
onward-propose_batch : {S : Type 0} (n : Node S) (batch : Option Batch) → NodeRests n → Onward n (propose_batch n batch)
unfolding propose_batch
onward-propose_batch n None is = onward-same n is
onward-propose_batch n (Some batch) is =
    let f = onward-holding (record n { proposed = n.proposed ++ open_slot n ∷ [] }) targets.View
    (Propose (record { head = signed proposals n.secret n.id (record { slot = open_slot n; digest = digest_of batch }); batch = batch })) refl (tt, tt)
    (record { held = is.held; waits = is.waits; lines = is.lines; views = is.views }) in
    record { id = f.id; firm = f.firm; more = f.more; book = f.book; rests = f.rests }

onward-proposes : {S : Type 0} (n : Node S) → NodeRests n → Onward n (proposes n)
unfolding proposes
onward-proposes n is = onward-propose_batch n (proposing n) is

-- a batch is written, and the vote rests on the entry
onward-write_batch : {S : Type 0} (n : Node S) (p : Option Proposed) → NodeRests n → Onward n (write_batch n p)
unfolding write_batch
onward-write_batch n None is = onward-same n is
onward-write_batch n (Some p) is =
    let entry : LogEntry = entries.Wrote (record { slot = open_slot n; digest = p.head.statement.digest }) in
    let r = rests-holding (recording n entry) targets.View (ballot n Write p.head.statement.digest) refl (among_last entry n.entries, tt) (rests-recording n entry is) in
    record { id = refl; firm = refl; more = entry ∷ []; book = refl; rests = record { held = r.held; waits = r.waits; lines = r.lines; views = r.views } }

onward-writes : {S : Type 0} (n : Node S) → NodeRests n → Onward n (writes n)
unfolding writes
onward-writes n is = onward-write_batch n (writing n) is

-- so is one that is accepted
onward-accept_batch : {S : Type 0} (n : Node S) (p : Option Proposed) → NodeRests n → Onward n (accept_batch n p)
unfolding accept_batch
onward-accept_batch n None is = onward-same n is
onward-accept_batch n (Some p) is =
    let entry : LogEntry = entries.Accepted (record {
      slot = open_slot n;
      digest = p.head.statement.digest;
      writes = certificate_votes n.arrivals (view_of n) Write (open_slot n) p.head.statement.digest;
      batch = p.batch;
    }) in
    let r = rests-holding (recording n entry) targets.View (ballot n Accept p.head.statement.digest) refl
    (record { entry = _; there = among_last entry n.entries; slot_is = refl; digest_is = refl }, tt) (rests-recording n entry is) in
    record { id = refl; firm = refl; more = entry ∷ []; book = refl; rests = record { held = r.held; waits = r.waits; lines = r.lines; views = r.views } }

onward-accepts : {S : Type 0} (n : Node S) → NodeRests n → Onward n (accepts n)
unfolding accepts
onward-accepts n is = onward-accept_batch n (accepting n) is

-- a batch is decided at the next place, and waits

pub deciding-place : {S : Type 0} (n : Node S) → IfSome (deciding n) (λ (d : Decision). d.slot.place ≡ next_place n)
deciding-place n = by (deciding n) refl
  where
    by : (o : Option Decision) → deciding n ≡ o → IfSome o (λ (d : Decision). d.slot.place ≡ next_place n)
    by None at = tt
    by (Some d) at = (due_is n d at).place_is

onward-decide_batch : {S : Type 0} (n : Node S) (d : Option Decision) → IfSome d (λ (x : Decision). x.slot.place ≡ next_place n) → NodeRests n → Onward n (decide_batch n d)
unfolding decide_batch
onward-decide_batch n None at is = onward-same n is
onward-decide_batch n (Some d) at is =
    let r = rests-recording n (entries.Decided d) is in
    record {
      id = refl;
      firm = refl;
      more = entries.Decided d ∷ [];
      book = refl;
      rests = record { held = r.held; waits = record { decision = d; there = among_last (entries.Decided d) n.entries; place_is = at; batch_is = refl }; lines = r.lines; views = r.views };
    }

onward-decides : {S : Type 0} (n : Node S) → NodeRests n → Onward n (decides n)
unfolding decides
onward-decides n is = onward-decide_batch n (deciding n) (deciding-place n) is

-- a place is marked, and the mark rests on the entry
onward-mark : {S : Type 0} (m : Meaning S) (n : Node S) → NodeRests n → Onward n (mark_place m n)
unfolding mark_place
onward-mark m n is =
    let entry : LogEntry = entries.Marked (mark_of m n) in
    let r = rests-holding (recording n entry) targets.View (changes.Mark (signed marks n.secret n.id (mark_of m n))) refl (among_last entry n.entries, tt) (rests-recording n entry is) in
    record { id = refl; firm = refl; more = entry ∷ []; book = refl; rests = record { held = r.held; waits = r.waits; lines = r.lines; views = r.views } }

-- ---- a replica is taken over, or given

-- a message that a node may hold, and that rests on its book
abbrev MayHold : {S : Type 0} → Node S → Target → Message → Type 0
MayHold n to message = IsOwn n.id to message × RestsOn n.entries message

onward-holding_all : {S : Type 0} (n : Node S) (to : Target) (messages : List Message) → Each (MayHold n to) messages → NodeRests n → Onward n (holding_all n to messages)
onward-holding_all n to [] each is = onward-same n is
onward-holding_all {S = S} n to (m ∷ ms) each is =
    let x : Node S = holding n to m in
    let f : Onward n x = onward-holding n to m each.0.0 each.0.1 is in
    onward-then n x (holding_all x to ms) f (onward-holding_all x to ms each.1 f.rests)

-- the marks of an offer are the node's own, and stand in its book
marks_own : {S : Type 0} (n : Node S) (ks : List Mark) → Each (λ m. m.signer ≡ n.id) (map (λ (k : Mark). signs n marks k) ks)
marks_own n [] = tt
marks_own n (k ∷ ks) = (refl, marks_own n ks)

marks_rest : {S : Type 0} (n : Node S) (ks : List Mark) → Each (λ (k : Mark). Among (entries.Marked k) n.entries) ks
    → Each (IsShown digest_of n.entries) (map says.Marked (map (λ (k : Mark). signs n marks k) ks))
marks_rest n [] each = tt
marks_rest n (k ∷ ks) each = (each.0, marks_rest n ks each.1)

shown_held : {S : Type 0} (n : Node S) (member k : ℕ) (message : Message) → shown_at n k ≡ Some message → MayHold n (targets.Node member) message
shown_held {S = S} n member k message at = by (is_shown_place n k) at
  where
    decided : (o : Option Decision) → option_map (λ (d : Decision). changes.Decision (shown_as d)) o ≡ Some message → MayHold n (targets.Node member) message
    decided None said = absurd cc
    decided (Some d) said = subst (λ (x : Message). MayHold n (targets.Node member) x) (some_equal (changes.Decision (shown_as d)) message said) (tt, tt)

    by : (t : Bool) → cond t (option_map (λ (d : Decision). changes.Decision (shown_as d)) (decided_at k n.entries)) None ≡ Some message → MayHold n (targets.Node member) message
    by true said = decided (decided_at k n.entries) said
    by false said = absurd cc

offer_held : {S : Type 0} (n : Node S) (member place : ℕ) → MayHold n (targets.Node member) (changes.StateOffer (offer_for n place))
unfolding offer_for
offer_held n member place =
    let ks : List Mark = last_few MARKS (marks_past place n.entries) in
    ((refl, (marks_own n ks, tt)), marks_rest n ks (marks_stand place n.entries))

onward-offers_state : {S : Type 0} (n : Node S) (a : StateAsk) → NodeRests n → Onward n (offers_state n a)
unfolding offers_state shown_after
onward-offers_state n a is =
    onward-holding_all n (targets.Node a.member) (changes.StateOffer (offer_for n a.place) ∷ filter_map (shown_at n) (places_after a.place 8))
    (offer_held n a.member a.place, each_filter_map_in (MayHold n (targets.Node a.member)) (shown_at n) (places_after a.place 8) (λ k message there at. shown_held n a.member k message at)) is

parts_held : {S : Type 0} (n : Node S) (member : ℕ) (ps : List StatePart) → Each (MayHold n (targets.Node member)) (map (λ (p : StatePart). changes.StatePart p) ps)
parts_held n member [] = tt
parts_held n member (p ∷ ps) = ((tt, tt), parts_held n member ps)

part_messages_held : {S : Type 0} (n : Node S) (member : ℕ) (o : Option OwnSnapshot) → Each (MayHold n (targets.Node member)) (part_messages o)
part_messages_held n member None = tt
part_messages_held n member (Some s) = parts_held n member (seeds s.place s.snapshot)

onward-gives_parts : {S : Type 0} (n : Node S) (a : StateAsk) → NodeRests n → Onward n (gives_parts n a)
unfolding gives_parts
onward-gives_parts n a is = onward-holding_all n (targets.Node a.member) (part_messages (firm_at n a.fetch)) (part_messages_held n a.member (firm_at n a.fetch)) is

onward-answers_state : {S : Type 0} (n : Node S) (a : StateAsk) → NodeRests n → Onward n (answers_state n a)
unfolding answers_state
onward-answers_state {S = S} n a is =
    either (λ (x : Node S). Onward n x) (a.fetch == 0) (offers_state n a) (gives_parts n a) (onward-offers_state n a is) (onward-gives_parts n a is)

onward-follow_plan : {S : Type 0} (n : Node S) (plan : Option Plan) → NodeRests n → Onward n (follow_plan n plan)
unfolding follow_plan
onward-follow_plan n None is = onward-same n is
onward-follow_plan {S = S} n (Some p) is =
    let x : Node S = record n { fetch = Some (record { plan = p; parts = [] }) } in
    let f = onward-holding x (targets.Node p.seeder) (state_ask n p.place) refl tt (record { held = is.held; waits = is.waits; lines = is.lines; views = is.views }) in
    record { id = f.id; firm = f.firm; more = f.more; book = f.book; rests = f.rests }

onward-plans : {S : Type 0} (n : Node S) → NodeRests n → Onward n (plans n)
unfolding plans
onward-plans n is = onward-follow_plan n (planning n) is

onward-spoil : {S : Type 0} (n : Node S) (f : Fetch) → NodeRests n → Onward n (spoil n f)
unfolding spoil
onward-spoil n f is = record { id = refl; firm = refl; more = []; book = sym (append-nil n.entries); rests = record { held = is.held; waits = is.waits; lines = is.lines; views = is.views } }

no_batch : (waiting : Option Batch) (es : List LogEntry) (place : ℕ) → waiting ≡ None → IsDecided place es waiting
no_batch None es place is = tt
no_batch (Some batch) es place is = absurd cc

onward-install_replica : {S : Type 0} (m : Meaning S) (n : Node S) (f : Fetch) (r : Replica S) → IsReady n f → IsTakenFrom m f r → NodeRests n → Onward n (install_replica n f r)
unfolding install_replica
onward-install_replica {S = S} m n f r due from is =
    let e : LogEntry = installed_by f.plan in
    let es : List LogEntry = n.entries ++ e ∷ [] in
    let pushed = last_push n.entries e in
    let at : r.place ≡ f.plan.place = from.place_is in
    let g = rests-recording n e is in
    let z : Node S = record n { entries = es; replica = r; pool = settled r.table n.pool; fetch = None } in
    let x : Node S = record (enters n z) { taken = n.taken ++ record { place = f.plan.place; snapshot = joined_of f; needs = length es } ∷ [] } in
    let rests : NodeRests x = record {
      held = g.held;
      waits = no_batch n.waiting es (r.place + 1) due.free;
      lines = each-weaken (λ (line : Execution). line.place ≤ r.place) (LineRests es) (λ line low. omega (arith, low, at, pushed)) (kept_in r.table) (restored_low m (joined_of f) r from.read);
      views = start-followed (last_made es) r.place r.views (omega (arith, at, pushed)) (restored_follow m (joined_of f) r from.read);
    } in
    let h = onward-holding x targets.View (state_ask x 0) refl tt rests in
    record { id = refl; firm = refl; more = e ∷ []; book = refl; rests = record { held = h.rests.held; waits = h.rests.waits; lines = h.rests.lines; views = h.rests.views } }

onward-install_by : {S : Type 0} (m : Meaning S) (n : Node S) (f : Fetch) (made : Result (Replica S) Spoiled) → IsReady n f → finished m f ≡ made → NodeRests n → Onward n (install_by n f made)
onward-install_by {S = S} m n f (Ok r) due at is =
    either (λ (x : Node S). Onward n x) (is_of_group n r) (install_replica n f r) (spoil n f) (onward-install_replica m n f r due (finished_from m f r at) is) (onward-spoil n f is)
onward-install_by m n f (Err why) due at is = onward-spoil n f is

onward-install_fetch : {S : Type 0} (m : Meaning S) (n : Node S) (due : Option Fetch) → installing n ≡ due → NodeRests n → Onward n (install_fetch m n due)
unfolding install_fetch
onward-install_fetch m n None at is = onward-same n is
onward-install_fetch m n (Some f) at is = onward-install_by m n f (finished m f) (installing_is n f at) refl is

pub onward-installs : {S : Type 0} (m : Meaning S) (n : Node S) → NodeRests n → Onward n (installs m n)
unfolding installs
onward-installs m n is = onward-install_fetch m n (installing n) refl is

-- ---- steps

onward-rules : {S : Type 0} (a : Node S) → KeptByRules (λ n. Onward a n)
onward-rules a = record {
  by_adopts = λ n is. onward-then a n (adopts n) is (onward-adopts n is.rests);
  by_joins = λ n is. onward-then a n (joins n) is (onward-joins n is.rests);
  by_promises = λ n is. onward-then a n (promises n) is (onward-promises n is.rests);
  by_leads = λ n is. onward-then a n (leads n) is (onward-leads n is.rests);
  by_proposes = λ n is. onward-then a n (proposes n) is (onward-proposes n is.rests);
  by_writes = λ n is. onward-then a n (writes n) is (onward-writes n is.rests);
  by_accepts = λ n is. onward-then a n (accepts n) is (onward-accepts n is.rests);
  by_decides = λ n is. onward-then a n (decides n) is (onward-decides n is.rests);
  by_times = λ n is. onward-then a n (times n) is (onward-times n is.rests);
  by_answers = λ n asked is. onward-then a n (answers_again n asked) is (onward-answers_again n asked is.rests);
  by_states = λ n ask is. onward-then a n (answers_state n ask) is (onward-answers_state n ask is.rests);
  by_plans = λ n is. onward-then a n (plans n) is (onward-plans n is.rests);
}

-- the node as an event finds it: firmness is what the event says
abbrev pub told_firm : {S : Type 0} → Node S → NodeEvent → Node S
told_firm n (Arrive bytes) = n
told_firm n Tick = n
told_firm n Deliver = n
told_firm n (Firm count) = made_firm n count

-- what takes an event in
onward-takes_in : {S : Type 0} (n : Node S) (event : NodeEvent) → NodeRests n → Onward (told_firm n event) (takes_in n event).node
unfolding takes_in
onward-takes_in {S = S} n (Arrive bytes) is =
    reads_as (λ (x : Node S). Onward n x) (λ message. Unit {0}) n (decoded bytes) (λ message. onward-noted n message is)
    (λ message none may.
    let told : Node S = noted n message in
    let f : Onward n told = onward-noted n message is in
    onward-then n told (kept told message) f (onward-kept told message f.rests)) (free-read (decoded bytes)) (onward-same n is)
onward-takes_in n Tick is = onward-same n is
onward-takes_in n Deliver is = onward-same n is
onward-takes_in n (Firm count) is = onward-same (made_firm n count) (record { held = is.held; waits = is.waits; lines = is.lines; views = is.views })

-- a step
pub onward-step : {S : Type 0} (m : Meaning S) (n : Node S) (event : NodeEvent) → NodeRests n → Onward (told_firm n event) (step_of m n event).node
onward-step {S = S} m n event is =
    let a : Node S = told_firm n event in
    let taken_in : Node S = (takes_in n event).node in
    let taken : Onward a taken_in = onward-takes_in n event is in
    let t : Node S = installs m taken_in in
    let installed : Onward a t = onward-then a taken_in t taken (onward-installs m taken_in taken.rests) in
    let delivered : Onward a (delivers m t) = onward-then a t (delivers m t) installed (onward-delivers m t installed.rests) in
    keeps_from m (λ (x : Node S). Onward a x) n event (onward-rules a) taken installed
    (by_mark m (λ (x : Node S). Onward a x) (is_some t.waiting) (delivers m t) delivered
    (λ due. onward-then a (delivers m t) (mark_place m (delivers m t)) delivered (onward-mark m (delivers m t) delivered.rests)))

-- what is firm has left
pub rests-released : {S : Type 0} (n : Node S) → NodeRests n → NodeRests (released n)
rests-released n is = record { held = each_staying (HoldsRight n.id n.entries) n.firm n.held is.held; waits = is.waits; lines = is.lines; views = is.views }

-- a node that has opened holds nothing
pub rests-opened : {S : Type 0} (m : Meaning S) (secret : List ℕ) (id : ℕ) (view : View) (period : ℕ) → NodeRests (opened (outset m secret id view period))
rests-opened m secret id view period = record { held = tt; waits = tt; lines = tt; views = tt }
