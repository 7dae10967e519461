-- A node that marks stays sound.
use Rattle.std.proofs.Common.{List, arith, inr, refl, ◌∷◌, []}
use Rattle.replica_rules.specs.Seals.{signed}
use Rattle.agreement_laws.specs.Statements.{Statement}
use Rattle.agreement_laws.specs.Statements as says
use Rattle.node_rules.specs.Arrivals.{is_collect, is_proven}
use Rattle.node_rules.specs.Marks.{mark_of, mark_place}
use Rattle.node_rules.specs.Nodes.{Node, holding, recording, regency_of}
use Rattle.node_rules.specs.declared.node.OwnSnapshot.{OwnSnapshot}
use Rattle.node_rules.specs.declared.node.Target.TheVariants as targets
use Rattle.smart_base.specs.Views.{View}
use Rattle.smart_statements.specs.Forms.{SignedBy}
use Rattle.smart_statements.specs.Reports.{marks}
use Rattle.smart_statements.specs.declared.report.Mark.{Mark}
use Rattle.smart_messages.specs.declared.message.Message.TheVariants as changes
use Rattle.smart_service.specs.Services.{Meaning}
use Rattle.vote_book.specs.declared.entry.LogEntry.{LogEntry}
use Rattle.vote_book.specs.declared.entry.LogEntry.TheVariants.{Marked}
use Rattle.node_laws.proofs.Lists.{among_last}
use Rattle.node_laws.proofs.Nodes.{Late, MayPush, Shows, holds, records}
use Rattle.node_laws.specs.Sound.{IsSound}
use Rattle.regency_sync.proofs.Lists.{each_filter}

-- other snapshots of its own
with_taken : {S : Type 0} (stated : List Statement) (view : View) (n : Node S) (taken : List OwnSnapshot) → IsSound stated view n → IsSound stated view (record n { taken = taken })
unfolding regency_of is_proven is_collect
with_taken stated view n taken is = record {
  views = is.views;
  begun = is.begun;
  lawful = is.lawful;
  tidy = is.tidy;
  last = is.last;
  latest = is.latest;
  within = is.within;
  ranged = is.ranged;
  backed = is.backed;
  batches = is.batches;
  waiting = is.waiting;
  table = is.table;
  arrivals = is.arrivals;
  stops = is.stops;
  reports = is.reports;
  syncs = is.syncs;
  decisions = is.decisions;
  offers = is.offers;
  marked = is.marked;
  fetch = is.fetch;
  pool = is.pool;
  held = is.held;
  late = is.late;
}

-- a mark of the place that is delivered may be pushed
may_mark : {S : Type 0} (m : Meaning S) (stated : List Statement) (n : Node S) → MayPush stated n (Marked (mark_of m n))
may_mark m stated n = record { admits = tt; tidy = tt; within = omega arith; newest = tt; backed = λ v there. tt; batch = tt }

pub sound_mark : {S : Type 0} (m : Meaning S) (stated : List Statement) (view : View) (n : Node S) → IsSound stated view n → IsSound stated view (mark_place m n)
unfolding mark_place
sound_mark {S = S} m stated view n is =
    let e : LogEntry = Marked (mark_of m n) in
    let own : SignedBy Mark = signed marks n.secret n.id (mark_of m n) in
    let pushed : IsSound stated view (recording n e) = records stated view n e is (may_mark m stated n) refl in
    let sent : Node S = holding (recording n e) targets.View (changes.Mark own) in
    let held : IsSound stated view sent =
    holds stated view (recording n e) targets.View (changes.Mark own) pushed
    (each_filter (Shows stated (recording n e)) (says.verifies n.secret) (says.Marked own ∷ []) (inr (refl, among_last e n.entries), tt))
    (each_filter (Late stated (recording n e)) (says.verifies n.secret) (says.Marked own ∷ []) (inr tt, tt)) in
    with_taken stated view sent _ held
