-- A node that asks for a regency, begins one or presses stays sound.
use Rattle.std.proofs.Common.{List, None, Option, Some, ap, false, inl, inr, refl, subst, sym, true, ℕ, ⊎_elim, ◌+◌, ◌∷◌, [], ◌≡◌}
use Rattle.std.specs.List.{filter_map, flat_map}
use Rattle.std.specs.Prelude.{find, option_map}
use Rattle.replica_rules.specs.Seals.{signed}
use Rattle.agreement_laws.specs.Statements.{Statement, statements}
use Rattle.node_rules.specs.Changes.{asks_next, asks_state, joining, joins, lags, lead_with, leading, leads, passes_on, presses, state_ask, stop_for, times, timing}
use Rattle.node_rules.specs.Nodes.{Node, regency_of, synchronizer_of, view_of}
use Rattle.regency_sync.specs.Synchronizers.{collect, collecting, first_report, is_collecting, is_report}
use Rattle.smart_base.specs.Lists.{Each}
use Rattle.smart_base.specs.Views.{View, leader}
use Rattle.smart_base.specs.declared.party.Party.TheVariants.{Member}
use Rattle.smart_statements.specs.Forms.{SignedBy}
use Rattle.smart_messages.specs.Regencies.{stops, syncs}
use Rattle.smart_messages.specs.declared.message.Message.TheVariants.{Ask}
use Rattle.smart_messages.specs.declared.regency.Reported.{Reported}
use Rattle.smart_messages.specs.declared.regency.Sync.{Sync}
use Rattle.smart_statements.specs.declared.report.Report.{Report}
use Rattle.smart_statements.specs.declared.statement.Request.{Request}
use Rattle.smart_view.specs.Sizes.{collect_size}
use Rattle.vote_book.specs.Books.{Among}
use Rattle.node_laws.proofs.Lists.{each_filter_map, found, guard}
use Rattle.node_laws.proofs.Nodes.{Late, ReportKept, Shows, aside, holds, transfers}
use Rattle.node_laws.proofs.Stated.{Covers, covers, each_verified, flat_covers}
use Rattle.node_laws.specs.Sound.{AreAsked, IsSound}
use Rattle.smart_messages.specs.declared.message.Message.TheVariants as changes
use Rattle.node_rules.specs.declared.node.Target.TheVariants as targets
use Rattle.agreement_laws.specs.Statements as says
use Rattle.agreement_laws.proofs.Lists.{among_either, among_left, each_among, each_take, either, some_equal}
use Rattle.regency_sync.proofs.Lists.{each_filter}
use Rattle.smart_base.proofs.ViewFacts.{each-weaken}

-- ---- ask

pub sound_asks : {S : Type 0} (stated : List Statement) (view : View) (n : Node S) → IsSound stated view n → IsSound stated view (asks_next n)
unfolding regency_of
sound_asks {S = S} stated view n is =
    let m : Node S = record n { stop_made = true } in
    let marked : IsSound stated view m = aside stated view n n.firm n.held n.proposed true n.sync_made n.impatient n.behind is is.held is.late in
    let says_it = says.Stopped (signed stops n.secret n.id (record { view = (view_of n).number; regency = regency_of n + 1 })) in
    holds stated view m targets.View (stop_for n) marked (each_filter (Shows stated m) (says.verifies n.secret) (says_it ∷ []) (inr (refl, tt), tt))
    (each_filter (Late stated m) (says.verifies n.secret) (says_it ∷ []) (inr tt, tt))

pub sound_joins : {S : Type 0} (stated : List Statement) (view : View) (n : Node S) → IsSound stated view n → IsSound stated view (joins n)
unfolding joins
sound_joins {S = S} stated view n is = either (λ (m : Node S). IsSound stated view m) (joining n) (asks_next n) n (sound_asks stated view n is) is

-- ---- lead

head_of : (o : Option Reported) (r : SignedBy Report) → option_map (λ (x : Reported). x.head) o ≡ Some r → (x : Reported) × (o ≡ Some x) × (x.head ≡ r)
head_of None r is = absurd (cc)
head_of (Some x) r is = (x, refl, some_equal x.head r is)

-- a report that is collected was kept
collected : {S : Type 0} (stated : List Statement) (view : View) (n : Node S) (number regency member : ℕ) (r : SignedBy Report) → IsSound stated view n
    → first_report number regency n.reports member ≡ Some r → Covers n.secret stated (says.in_report r)
collected stated view n number regency member r is at =
    let first = head_of (find (is_report number regency member) n.reports) r at in
    let x : Reported = first.0 in
    let there = (found (is_report number regency member) n.reports x first.1).there in
    let kept = each_among (ReportKept n stated) n.reports x is.reports there in
    let all = covers n.secret stated (changes.StopData x) kept.1 in
    subst (λ (y : SignedBy Report). Covers n.secret stated (says.in_report y)) first.2
    (λ s here ok. all s (among_left s (says.in_report x.head) (flat_map says.within (says.requests_of x.batch)) here) ok)

collect_covers : {S : Type 0} (stated : List Statement) (view : View) (n : Node S) (items : List (SignedBy Report)) → IsSound stated view n → leading n ≡ Some items
    → Covers n.secret stated (flat_map says.in_report items)
unfolding leading collecting
collect_covers stated view n items is at =
    let s = synchronizer_of n in
    let v : View = view_of n in
    let parts = guard (is_collecting v s) (Some (collect v s)) items at in
    let same : collect v s ≡ items = some_equal (collect v s) items parts.1 in
    let f : ℕ → Option (SignedBy Report) = first_report v.number (regency_of n) n.reports in
    let each : Each (λ r. Covers n.secret stated (says.in_report r)) (collect v s) =
    each_take (λ r. Covers n.secret stated (says.in_report r)) (collect_size v) (filter_map f v.members)
    (each_filter_map (λ r. Covers n.secret stated (says.in_report r)) f v.members (λ member r given. collected stated view n v.number (regency_of n) member r is given)) in
    flat_covers n.secret stated says.in_report items (subst (λ (rs : List (SignedBy Report)). Each (λ r. Covers n.secret stated (says.in_report r)) rs) same each)

sync_shown : {S : Type 0} (stated : List Statement) (n : Node S) (sync : SignedBy Sync) → sync.signer ≡ n.id → Covers n.secret stated (flat_map says.in_report sync.statement.collect)
    → (s : Statement) → Among s (flat_map says.within (says.said (changes.Sync sync))) → says.verifies n.secret s ≡ true → Shows stated n s
sync_shown stated n sync own all s (inl same) ok = subst (λ (x : Statement). Shows stated n x) (sym same) (inr (ap (λ (k : ℕ). Member k) own, tt))
sync_shown stated n sync own all s (inr there) ok =
    ⊎_elim (λ inside. inl (all s inside ok)) (λ none. absurd none) (among_either s (flat_map says.in_report sync.statement.collect) [] there)

sync_late : {S : Type 0} (stated : List Statement) (n : Node S) (sync : SignedBy Sync) → Covers n.secret stated (flat_map says.in_report sync.statement.collect)
    → (s : Statement) → Among s (flat_map says.within (says.said (changes.Sync sync))) → says.verifies n.secret s ≡ true → Late stated n s
sync_late stated n sync all s (inl same) ok = subst (λ (x : Statement). Late stated n x) (sym same) (inr tt)
sync_late stated n sync all s (inr there) ok =
    ⊎_elim (λ inside. inl (all s inside ok)) (λ none. absurd none) (among_either s (flat_map says.in_report sync.statement.collect) [] there)

leads_with : {S : Type 0} (stated : List Statement) (view : View) (n : Node S) (o : Option (List (SignedBy Report))) → IsSound stated view n → leading n ≡ o → IsSound stated view (lead_with n o)
unfolding lead_with
leads_with stated view n None is at = is
leads_with {S = S} stated view n (Some items) is at =
    let m : Node S = record n { sync_made = true } in
    let marked : IsSound stated view m = aside stated view n n.firm n.held n.proposed n.stop_made true n.impatient n.behind is is.held is.late in
    let sync : SignedBy Sync = signed syncs n.secret n.id (record { view = (view_of n).number; regency = regency_of n; collect = items }) in
    holds stated view m targets.View (changes.Sync sync) marked
    (each_verified n.secret (Shows stated m) (flat_map says.within (says.said (changes.Sync sync)))
    (sync_shown stated m sync refl (collect_covers stated view n items is at)))
    (each_verified n.secret (Late stated m) (flat_map says.within (says.said (changes.Sync sync))) (sync_late stated m sync (collect_covers stated view n items is at)))

pub sound_leads : {S : Type 0} (stated : List Statement) (view : View) (n : Node S) → IsSound stated view n → IsSound stated view (leads n)
unfolding leads
sound_leads stated view n is = leads_with stated view n (leading n) is refl

-- ---- time

sound_passes_on : {S : Type 0} (stated : List Statement) (view : View) (n : Node S) (pool : List (SignedBy Request)) → IsSound stated view n → AreAsked n.secret stated pool
    → IsSound stated view (passes_on n pool)
sound_passes_on stated view n [] is asked = is
sound_passes_on stated view n (q ∷ qs) is asked =
    holds stated view n (targets.Node (leader (view_of n) (regency_of n))) (Ask q) is
    (each-weaken (λ s. Among s stated) (Shows stated n) (λ s there. inl there) (statements n.secret (Ask q)) asked.0.1)
    (each-weaken (λ s. Among s stated) (Late stated n) (λ s there. inl there) (statements n.secret (Ask q)) asked.0.1)

sound_presses : {S : Type 0} (stated : List Statement) (view : View) (n : Node S) → IsSound stated view n → IsSound stated view (presses n)
unfolding presses
sound_presses {S = S} stated view n is =
    let m : Node S = record n { impatient = true } in
    let marked : IsSound stated view m = aside stated view n n.firm n.held n.proposed n.stop_made n.sync_made true n.behind is is.held is.late in
    either (λ (k : Node S). IsSound stated view k) n.impatient (asks_next n) (passes_on m n.pool) (sound_asks stated view n is) (sound_passes_on stated view m n.pool marked is.pool)

-- an ask for state and a part state nothing
pub sound_asks_state : {S : Type 0} (stated : List Statement) (view : View) (n : Node S) → IsSound stated view n → IsSound stated view (asks_state n)
unfolding asks_state
sound_asks_state {S = S} stated view n is =
    let m : Node S = record n { offers = []; fetch = None; behind = false } in
    holds stated view m targets.View (state_ask n 0) (transfers stated view n n.decisions [] n.marks None false is is.decisions tt is.marked tt) tt tt

pub sound_times : {S : Type 0} (stated : List Statement) (view : View) (n : Node S) → IsSound stated view n → IsSound stated view (times n)
unfolding times
sound_times {S = S} stated view n is =
    either (λ (m : Node S). IsSound stated view m) (lags n) (asks_state n) _ (sound_asks_state stated view n is)
    (either (λ (m : Node S). IsSound stated view m) (timing n) (presses n) n (sound_presses stated view n is) is)
