-- A node that delivers a batch and answers stays sound.
use Rattle.std.proofs.Common.{Bool, List, None, Option, Some, ap, arith, cond, false, inl, inr, length, nat_le, nat_lt, refl, subst, sym, true, ℕ, ◌≡◌, ◌≤◌, ◌<◌, ◌^◌, ◌++◌, [], ◌∷◌, ◌+◌, ◌∙◌, ◌==◌}
use Rattle.std.specs.Option.{option_to_list}
use Rattle.std.specs.Prelude.{IfSome, is_some, option_map}
use Rattle.replica_rules.specs.Pools.{settled}
use Rattle.replica_rules.specs.Replicas.{at_next, delivered, execute, execute_all, executed_lines, is_next, line_made, line_of, lines_of}
use Rattle.node_rules.specs.Rules.{reply_of, answer_line, answering, answers_again, deliver_batch, delivers, lines_to_answer, replying}
use Rattle.replica_rules.specs.Seals.{digest_of, is_alone, is_verified, signed}
use Rattle.agreement_laws.specs.Diaries.{HasReached}
use Rattle.agreement_laws.specs.Statements.{Statement}
use Rattle.node_rules.specs.Arrivals.{is_collect, is_proven}
use Rattle.node_rules.specs.Nodes.{Node, decided_place, enters, holding, next_place, regency_of, signs, stays_in_view, telling, view_of, view_told}
use Rattle.smart_base.specs.Lists.{Each}
use Rattle.smart_base.specs.Views.{View, is_member, is_view}
use Rattle.smart_statements.specs.Forms.{SignedBy}
use Rattle.smart_statements.specs.Kinds.{answers, requests}
use Rattle.smart_statements.specs.Batches.{Batch}
use Rattle.smart_messages.specs.Regencies.{view_infos}
use Rattle.smart_messages.specs.declared.message.Message.TheVariants.{Ask}
use Rattle.smart_statements.specs.declared.statement.Request.{Request}
use Rattle.smart_service.specs.Services.{Meaning}
use Rattle.smart_service.specs.Tables.{last_seq, line_for, kept_reply, noting, kept_in}
use Rattle.smart_service.specs.declared.replica.Replica.{Replica}
use Rattle.smart_service.specs.declared.table.Execution.{Execution}
use Rattle.smart_service.specs.declared.table.TableLine.{TableLine}
use Rattle.vote_book.specs.Books.{last_made}
use Rattle.vote_book.specs.declared.entry.LogEntry.{LogEntry}
use Rattle.vote_book.specs.declared.entry.LogEntry.TheVariants.{Decided}
use Rattle.transfer_form.specs.declared.transfer.ProvenBatch.{ProvenBatch}
use Rattle.node_laws.proofs.Books.{all_within_more, least_decided}
use Rattle.node_laws.proofs.Growing.{are_grown, sound_grown, with_views}
use Rattle.node_laws.proofs.MovedViews.{GrownAt, grown-delivered, moved-start}
use Rattle.node_laws.proofs.Nodes.{DecisionKept, Late, Shows, holds, sound_entered}
use Rattle.node_laws.proofs.Stated.{may_stand}
use Rattle.node_laws.proofs.Views.{are_more, in_force_low}
use Rattle.smart_base.proofs.ViewFacts.{each-weaken}
use Rattle.node_laws.specs.Sound.{AreAsked, AreViews, HasBatch, HasDecided, IsSound, IsStated, IsWithin, answer_by, place_if}
use Rattle.node_rules.specs.declared.node.Target.{Target}
use Rattle.node_rules.specs.declared.node.Target.TheVariants as targets
use Rattle.agreement_laws.specs.Statements as says
use Rattle.agreement_laws.proofs.Lists.{each_among, each_append, either, some_equal}
use Rattle.regency_sync.proofs.Lists.{each_filter}
use Rattle.replica_rules.proofs.Managed.{AtMostOne, IsBegunAt, delivered_one}
use Rattle.replica_rules.proofs.Places.{place_delivered, place_execute}
use Rattle.node_rules.specs.declared.node.Asked.{Asked}

-- ---- executions at places that are reached

-- the entries have reached the place of an execution
abbrev pub IsReached : List LogEntry → Execution → Type 0
IsReached es line = HasReached es line.place

pub each_noting : (P : Execution → Type 0) (table : List TableLine) (x : Execution) → Each P (kept_in table) → P x → Each P (kept_in (noting table x))
each_noting P [] x each is = (is, tt)
each_noting P (old ∷ olds) x each is =
    let line : TableLine = record { last = x } in
    either (λ (lines : List TableLine). Each P (kept_in lines)) (old.last.client == x.client) (line ∷ olds) (cond (nat_lt x.client old.last.client) (line ∷ old ∷ olds) (old ∷ noting olds x)) (is, each.1)
    (either (λ (lines : List TableLine). Each P (kept_in lines)) (nat_lt x.client old.last.client) (line ∷ old ∷ olds) (old ∷ noting olds x) (is, each) (each.0, each_noting P olds x each.1 is))

pub table_execute : {S : Type 0} (m : Meaning S) (r : Replica S) (i : ℕ) (q : Request) (P : Execution → Type 0) → Each P (kept_in r.table) → P (line_of m r i q) → Each P (kept_in (execute m r i q).table)
unfolding execute
table_execute {S = S} m r i q P each is =
    either (λ (x : Replica S). Each P (kept_in x.table)) (is_next r.table q) _ r (each_noting P r.table (line_of m r i q) each is) each

table_all : {S : Type 0} (m : Meaning S) (r : Replica S) (es : List LogEntry) (place i : ℕ) (qs : Batch) → r.place ≡ place → HasReached es place → Each (IsReached es) (kept_in r.table)
    → Each (IsReached es) (kept_in (execute_all m r i qs).table)
table_all m r es place i [] at reached each = each
table_all m r es place i (q ∷ qs) at reached each =
    table_all m (execute m r i q.statement) es place (i + 1) qs (place_execute m r i q.statement ∙ at) reached
    (table_execute m r i q.statement (IsReached es) each (omega (arith, at, reached)))

line_if : (P : Execution → Type 0) (b : Bool) (line : Execution) → P line → Each P (option_to_list (cond b (Some line) None))
line_if P true line is = (is, tt)
line_if P false line is = tt

lines_all : {S : Type 0} (m : Meaning S) (r : Replica S) (es : List LogEntry) (place i : ℕ) (qs : Batch) → r.place ≡ place → HasReached es place → Each (IsReached es) (lines_of m r i qs)
lines_all m r es place i [] at reached = tt
lines_all m r es place i (q ∷ qs) at reached =
    each_append (IsReached es) (option_to_list (line_made m r i q.statement)) (lines_of m (execute m r i q.statement) (i + 1) qs)
    (line_if (IsReached es) (is_next r.table q.statement) (line_of m r i q.statement) (omega (arith, at, reached)))
    (lines_all m (execute m r i q.statement) es place (i + 1) qs (place_execute m r i q.statement ∙ at) reached)

-- ---- the replica at the next place

pub replica_is : {S : Type 0} (r : Replica S) (views : List View) (place : ℕ) → r.views ≡ views → r.place ≡ place → record { service = r.service; table = r.table; views = views; place = place } ≡ r
replica_is {S = S} r views place v p =
    let make : List View → ℕ → Replica S = λ vs k. record { service = r.service; table = r.table; views = vs; place = k } in
    ap (λ vs. make vs place) (sym v) ∙ ap (λ k. make r.views k) (sym p)

pub delivered_table : {S : Type 0} (m : Meaning S) (r : Replica S) (es : List LogEntry) (batch : Batch) → HasReached es (r.place + 1) → Each (IsReached es) (kept_in r.table)
    → Each (IsReached es) (kept_in (delivered m r batch).table)
unfolding delivered
delivered_table m r es batch reached each = table_all m (at_next r) es (r.place + 1) 0 batch refl reached each

delivered_lines : {S : Type 0} (m : Meaning S) (r : Replica S) (es : List LogEntry) (batch : Batch) → HasReached es (r.place + 1) → Each (IsReached es) (executed_lines m r batch)
unfolding executed_lines
delivered_lines m r es batch reached = lines_all m (at_next r) es (r.place + 1) 0 batch refl reached

decided_where : {A : Type 0} (waiting : Option A) (x : A) (place : ℕ) → waiting ≡ Some x → cond (is_some waiting) (place + 1) place ≡ place + 1
decided_where None x place is = absurd (cc)
decided_where (Some y) x place is = refl

-- where a batch waits, the entries have reached its place
pub reached_next : {S : Type 0} (stated : List Statement) (view : View) (n : Node S) (batch : Batch) → IsSound stated view n → n.waiting ≡ Some batch → HasReached n.entries (next_place n)
reached_next stated view n batch is waits =
    let last : last_made n.entries ≡ n.replica.place + 1 = is.last ∙ decided_where n.waiting batch n.replica.place waits in omega (arith, last)

-- the node at the next place, with what its replica remembers there
unfoldable pub onward : {S : Type 0} → Node S → S → List TableLine → List (SignedBy Request) → Node S
onward n service table pool =
    record n { replica = record { service = service; table = table; views = n.replica.views; place = n.replica.place + 1 }; waiting = None; pool = pool; impatient = false }

pub sound_onward : {S : Type 0} (stated : List Statement) (view : View) (n : Node S) (batch : Batch) (service : S) (table : List TableLine) (pool : List (SignedBy Request)) → IsSound stated view n
    → n.waiting ≡ Some batch → Each (IsReached n.entries) (kept_in table) → AreAsked n.secret stated pool → IsSound stated view (onward n service table pool)
unfolding onward regency_of is_proven is_collect
sound_onward stated view n batch service table pool is waits answered asked =
    let same : decided_place n ≡ n.replica.place + 1 = decided_where n.waiting batch n.replica.place waits in
    record {
      views = are_more view n.replica.place (n.replica.place + 1) n.replica.views (omega arith) is.views;
      begun = is.begun;
      lawful = is.lawful;
      tidy = is.tidy;
      last = is.last ∙ same;
      latest = is.latest ∙ ap place_if same;
      within = all_within_more n.replica.views (next_place n) (n.replica.place + 1 + 1) n.entries n.entries n.entries (omega arith) (λ k. omega arith) is.within;
      ranged = is.ranged;
      backed = is.backed;
      batches = is.batches;
      waiting = tt;
      table = answered;
      arrivals = is.arrivals;
      stops = is.stops;
      reports = is.reports;
      syncs = is.syncs;
      decisions = each-weaken (DecisionKept n.secret stated (next_place n) (view_of n)) (DecisionKept n.secret stated (n.replica.place + 1 + 1) (view_of n))
          (λ d kept. let low = kept.1 in (kept.0, omega (arith, low), λ at. absurd (omega (arith, low, at)))) n.decisions is.decisions;
      offers = is.offers;
      marked = is.marked;
      fetch = is.fetch;
      pool = asked;
      held = is.held;
      late = is.late;
    }

-- ---- answer

pub sound_reply : {S : Type 0} (stated : List Statement) (view : View) (n : Node S) (line : Execution) → IsSound stated view n → IsReached n.entries line
    → IsSound stated view (holding n (targets.Client line.client) (reply_of n.secret n.id line))
sound_reply stated view n line is has =
    let says_it = says.Replied (signed answers n.secret n.id (answer_by line)) in
    holds stated view n (targets.Client line.client) (reply_of n.secret n.id line) is
    (each_filter (Shows stated n) (says.verifies n.secret) (says_it ∷ []) (inr (refl, has), tt))
    (each_filter (Late stated n) (says.verifies n.secret) (says_it ∷ []) (inr tt, tt))

sound_replying : {S : Type 0} (stated : List Statement) (view : View) (n : Node S) (lines : List Execution) → IsSound stated view n → Each (IsReached n.entries) lines
    → IsSound stated view (replying n lines)
sound_replying stated view n [] is all = is
sound_replying stated view n (line ∷ lines) is all =
    sound_replying stated view (holding n (targets.Client line.client) (reply_of n.secret n.id line)) lines (sound_reply stated view n line is all.0) all.1

-- ---- the view in force is told

-- it is shown by a book that has reached the place before it
sound_telling : {S : Type 0} (stated : List Statement) (view : View) (n : Node S) (known : Bool) (to : Target) → IsSound stated view n
    → (known ≡ false → (view_of n).start ≤ last_made n.entries + 1) → IsSound stated view (telling known to n)
sound_telling stated view n true to is reached = is
sound_telling stated view n false to is reached =
    let says_it = says.Informed (signs n view_infos (record { view = view_of n })) in
    holds stated view n to (view_told n) is
    (each_filter (Shows stated n) (says.verifies n.secret) (says_it ∷ []) (inr (refl, reached refl), tt))
    (each_filter (Late stated n) (says.verifies n.secret) (says_it ∷ []) (inr tt, tt))

-- a sound book has reached the place before a view that is not the first
reached_view : {S : Type 0} (stated : List Statement) (view : View) (n : Node S) → IsSound stated view n → nat_le (length n.replica.views) 1 ≡ false → (view_of n).start ≤ last_made n.entries + 1
reached_view stated view n is more =
    let low = in_force_low view n.replica.place n.replica.views is.views more in
    let last = is.last in
    let least = least_decided n.waiting n.replica.place in
    omega (arith, low, last, least)

-- a sound node behind a batch has reached the place before the view that the batch began
reached_moved : {S : Type 0} (stated : List Statement) (view : View) (n a : Node S) (r : Replica S) → IsSound stated view a → a.replica ≡ r → r.place ≡ next_place n
    → GrownAt (next_place n) n.replica.views r.views → stays_in_view n a ≡ false → (view_of a).start ≤ last_made a.entries + 1
reached_moved {S = S} stated view n a r is at placed grown moved =
    let views : GrownAt (next_place n) n.replica.views a.replica.views = subst (λ (x : Replica S). GrownAt (next_place n) n.replica.views x.views) (sym at) grown in
    let start = moved-start (next_place n) n.replica.views a.replica.views views moved in
    let place : a.replica.place ≡ next_place n = ap (λ (x : Replica S). x.place) at ∙ placed in
    let last = is.last in
    let least = least_decided a.waiting a.replica.place in
    omega (arith, start, place, last, least)

-- replies leave the replica
pub replica-replying : {S : Type 0} (n : Node S) (lines : List Execution) → (replying n lines).replica ≡ n.replica
replica-replying n [] = refl
replica-replying n (l ∷ ls) = replica-replying (holding n (targets.Client l.client) (reply_of n.secret n.id l)) ls

-- ---- deliver

-- the batch that waits may stand at the next place, behind which another place comes
pub waits_alone : {S : Type 0} (stated : List Statement) (view : View) (n : Node S) (batch : Batch) → IsSound stated view n → n.waiting ≡ Some batch → (is_alone batch ≡ true) × (next_place n < 2 ^ 63)
waits_alone {S = S} stated view n batch is waits = by n.waiting waits is.waiting
  where
    by : (o : Option Batch) → o ≡ Some batch → IfSome o (HasDecided n.entries (next_place n)) → (is_alone batch ≡ true) × (next_place n < 2 ^ 63)
    by None at decided = absurd (cc)
    by (Some b) at decided =
        let d = decided.decision in
        let has = each_among (HasBatch n.secret stated) n.entries (Decided d) is.batches decided.there in
        let within = each_among (IsWithin n.replica.views (next_place n) n.entries) n.entries (Decided d) is.within decided.there in
        let same : d.batch ≡ batch = decided.batch_is ∙ some_equal b batch at in (
          subst (λ (x : Batch). is_alone x ≡ true) same (may_stand n.secret d.slot.place (digest_of d.batch) d.batch has.may).alone,
          subst (λ (k : ℕ). k < 2 ^ 63) decided.place_is within.low,
        )

-- The node behind the batch knows the views before it, or one more, which starts behind the batch's place.
onward_views : {S : Type 0} (stated : List Statement) (view : View) (n : Node S) (batch : Batch) (service : S) (table : List TableLine) (pool : List (SignedBy Request)) (views : List View) → IsSound stated view n
    → n.waiting ≡ Some batch → Each (IsReached n.entries) (kept_in table) → AreAsked n.secret stated pool → AtMostOne (next_place n) n.replica.views views
    → IsSound stated view (with_views (onward n service table pool) views)
unfolding onward with_views
onward_views {S = S} stated view n batch service table pool views is waits answered asked more = by more
  where
    there : IsSound stated view (onward n service table pool)
    there = sound_onward stated view n batch service table pool is waits answered asked

    by : AtMostOne (next_place n) n.replica.views views → IsSound stated view (with_views (onward n service table pool) views)
    by (inl same) = subst (λ (vs : List View). IsSound stated view (with_views (onward n service table pool) vs)) (sym same) there
    by (inr one) =
        let v : View = one.0 in
        let begun : IsBegunAt (next_place n) n.replica.views v = one.2 in
        let numbered = begun.number_is in
        let start = begun.start_is in
        let viewed : is_view v ≡ true = begun.valid (waits_alone stated view n batch is waits).1 in
        let are : AreViews view (next_place n) (n.replica.views ++ v ∷ []) =
        are_grown view n.replica.place (next_place n) n.replica.views v is.views (omega arith) viewed numbered (omega (arith, start)) (omega (arith, start)) in
        subst (λ (vs : List View). IsSound stated view (with_views (onward n service table pool) vs)) (sym one.1)
        (sound_grown stated view (onward n service table pool) (v ∷ []) (next_place n) there are (omega (arith, numbered), tt) (omega (arith, start), tt) (omega arith) is.within
        (each-weaken (DecisionKept n.secret stated (next_place n) (view_of n)) (λ (d : ProvenBatch). d.place ≤ next_place n) (λ d kept. kept.1) n.decisions is.decisions))

delivers_waiting : {S : Type 0} (m : Meaning S) (stated : List Statement) (view : View) (n : Node S) (batch : Batch) → IsSound stated view n → n.waiting ≡ Some batch
    → IsSound stated view (deliver_batch m n (Some batch))
unfolding deliver_batch onward with_views
delivers_waiting {S = S} m stated view n batch is waits =
    let reached : HasReached n.entries (next_place n) = reached_next stated view n batch is waits in
    let r : Replica S = delivered m n.replica batch in
    let pool : List (SignedBy Request) = settled r.table n.pool in
    let IsAsked : SignedBy Request → Type 0 = λ q. (is_verified requests n.secret q ≡ true) × IsStated n.secret stated (Ask q) in
    let alone = (waits_alone stated view n batch is waits).0 in
    let there : IsSound stated view (with_views (onward n r.service r.table pool) r.views) =
    onward_views stated view n batch r.service r.table pool r.views is waits (delivered_table m n.replica n.entries batch reached is.table)
    (each_filter IsAsked (λ q. is_next r.table q.statement) n.pool is.pool) (delivered_one m n.replica batch alone) in
    let next : Node S = record n { replica = r; waiting = None; pool = pool; impatient = false } in
    let behind : IsSound stated view next =
    subst (λ (x : Replica S). IsSound stated view (record n { replica = x; waiting = None; pool = pool; impatient = false }))
    (replica_is r r.views (n.replica.place + 1) refl (place_delivered m n.replica batch)) there in
    let sound : IsSound stated view (enters n next) = sound_entered stated view (stays_in_view n next) next behind in
    let all : Node S = replying (enters n next) (lines_to_answer m n batch) in
    let answered : IsSound stated view all =
    sound_replying stated view (enters n next) (lines_to_answer m n batch) sound
    (either (λ (lines : List Execution). Each (IsReached n.entries) lines) (is_member (view_of n) n.id) (executed_lines m n.replica batch) []
    (delivered_lines m n.replica n.entries batch reached) tt) in
    sound_telling stated view all (stays_in_view n all) targets.Clients answered
    (reached_moved stated view n all r answered (replica-replying (enters n next) (lines_to_answer m n batch)) (place_delivered m n.replica batch) (grown-delivered m n.replica batch))

delivers_with : {S : Type 0} (m : Meaning S) (stated : List Statement) (view : View) (n : Node S) (o : Option Batch) → IsSound stated view n → n.waiting ≡ o
    → IsSound stated view (deliver_batch m n o)
unfolding deliver_batch
delivers_with m stated view n None is at = is
delivers_with m stated view n (Some batch) is at = delivers_waiting m stated view n batch is at

pub sound_delivers : {S : Type 0} (m : Meaning S) (stated : List Statement) (view : View) (n : Node S) → IsSound stated view n → IsSound stated view (delivers m n)
unfolding delivers
sound_delivers m stated view n is = delivers_with m stated view n n.waiting is refl

-- ---- answer again

kept_each : (P : Execution → Type 0) (found : Option TableLine) → IfSome found (λ line. P line.last) → IfSome (option_map (λ line. line.last) found) P
kept_each P None is = tt
kept_each P (Some line) is = is

line_for_each : (P : Execution → Type 0) (lines : List TableLine) (client : ℕ) → Each P (kept_in lines) → IfSome (line_for lines client) (λ line. P line.last)
line_for_each P [] client each = tt
line_for_each P (line ∷ lines) client each =
    either (λ (found : Option TableLine). IfSome found (λ line. P line.last)) (line.last.client == client) (Some line) (line_for lines client) each.0 (line_for_each P lines client each.1)

-- what holds of each kept reply holds of the one of a number
kept_reply_each : (P : Execution → Type 0) (table : List TableLine) (client seq : ℕ) → Each P (kept_in table) → IfSome (kept_reply table client seq) P
kept_reply_each P table client seq each =
    either (λ (found : Option Execution). IfSome found P) (seq == last_seq table client) (option_map (λ line. line.last) (line_for table client)) None
    (kept_each P (line_for table client) (line_for_each P table client each)) tt

pub answering_each : {S : Type 0} (P : Execution → Type 0) (n : Node S) (asked : Asked) → Each P (kept_in n.replica.table) → IfSome (answering n asked) P
unfolding answering
answering_each P n asked each = kept_reply_each P n.replica.table asked.client asked.seq each

answers_line : {S : Type 0} (stated : List Statement) (view : View) (n : Node S) (o : Option Execution) → IsSound stated view n → IfSome o (IsReached n.entries)
    → IsSound stated view (answer_line n o)
unfolding answer_line
answers_line stated view n None is has = is
answers_line {S = S} stated view n (Some line) is has =
    let x : Node S = holding n (targets.Client line.client) (reply_of n.secret n.id line) in
    let sound : IsSound stated view x = sound_reply stated view n line is has in
    sound_telling stated view x (nat_le (length x.replica.views) 1) (targets.Client line.client) sound (reached_view stated view x sound)

pub sound_answers_again : {S : Type 0} (stated : List Statement) (view : View) (n : Node S) (asked : Asked) → IsSound stated view n → IsSound stated view (answers_again n asked)
unfolding answers_again
sound_answers_again stated view n asked is = answers_line stated view n (answering n asked) is (answering_each (IsReached n.entries) n asked is.table)
