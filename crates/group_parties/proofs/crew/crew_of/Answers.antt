use Rattle.std.proofs.Common.{◌≡◌, ◌∙◌, [], length, ap, arith}
use Rattle.std.proofs.lemmas.List.{nil_from_length}
use Rattle.group_parties.proofs.Assembling.{assembled-all, assembled-first, assembled-next, client-is, is-crew, rows-many, sink-is, store-is}
use Rattle.group_parties.proofs.crew.crew_of.Goals as goal

pub unreachable-requires : goal.unreachable-requires
unreachable-requires g c = omega (arith, rows-many c.args.settings.now.members c.args.wires c.requires.wires, c.in_default.ensures.cases.0, c.args.wires.rows.ok.0)

pub unreachable-requires-in_default-pop : goal.unreachable-requires-in_default-pop
unreachable-requires-in_default-pop g c = omega (arith, c.requires.wires.many, c.in_default-pop.ensures.cases.0, c.args.wires.inboxes.ok.0)

pub loop-berth-init : goal.loop-berth-init
loop-berth-init g c =
    let many = c.requires.many in
    let empty = c.requires.empty in
    record {
      assembled = assembled-first c.args.settings.now.members c.args.wires _ _ _ _ _ _ _ _ _ c.requires.wires c.in-Some.ensures.items c.in-Some-pop.ensures.items
          (omega (arith, many.0, c.args.berths.ok.0)) (omega (arith, many.1.1, c.args.lanes.ok.0)) (omega (arith, many.1.0, c.args.sinks.ok.0)) empty.0 empty.1;
      room = (omega (arith, many.0, c.requires.room.0, c.args.made.stations.ok.0, ap length empty.0), omega (arith, many.0, c.requires.room.1, c.args.made.heads.ok.0, ap length empty.1));
    }

pub unreachable-requires-in_default-pop-3 : goal.unreachable-requires-in_default-pop-3
unreachable-requires-in_default-pop-3 g c =
    let l = c.loop-berth in
    omega (arith, l.invariant.assembled.alike.lanes_are, c.in_default-pop-3.ensures.cases.0, l.lanes.ok.0, l.berths.ok.0, c.in-Some-pop-2.ensures.cases)

pub unreachable-requires-in_default-pop-4 : goal.unreachable-requires-in_default-pop-4
unreachable-requires-in_default-pop-4 g c =
    let l = c.loop-berth in
    omega (arith, l.invariant.assembled.alike.rows_are, c.in_default-pop-4.ensures.cases.0, l.rows.ok.0, l.berths.ok.0, c.in-Some-pop-2.ensures.cases)

pub unreachable-requires-in_default-pop-5 : goal.unreachable-requires-in_default-pop-5
unreachable-requires-in_default-pop-5 g c =
    let l = c.loop-berth in
    omega (arith, l.invariant.assembled.alike.inboxes_are, c.in_default-pop-5.ensures.cases.0, l.inboxes.ok.0, l.berths.ok.0, c.in-Some-pop-2.ensures.cases)

pub unreachable-requires-in_default-pop-6 : goal.unreachable-requires-in_default-pop-6
unreachable-requires-in_default-pop-6 g c =
    let l = c.loop-berth in
    omega (arith, l.invariant.assembled.alike.sinks_are, c.in_default-pop-6.ensures.cases.0, l.sinks.ok.0)

pub add_member-requires : goal.add_member-requires
add_member-requires g c =
    let l = c.loop-berth in
    record { room = (omega (arith, l.invariant.room.0, c.in-Some-pop-2.ensures.cases), omega (arith, l.invariant.room.1, c.in-Some-pop-2.ensures.cases)) }

pub loop-berth-preserved : goal.loop-berth-preserved
loop-berth-preserved g c =
    let l = c.loop-berth in
    record {
      assembled = assembled-next _ _ _ _ _ _ _ _ _ _ _ _ _ _ _ c.in-Some-pop-2.berth c.in-Some-pop-3.lane c.in-Some-pop-4.row c.in-Some-pop-5.inbox c.in-Some-pop-6.sink _ _ _ _ l.invariant.assembled
          c.in-Some-pop-2.ensures.items c.in-Some-pop-3.ensures.items c.in-Some-pop-4.ensures.items c.in-Some-pop-5.ensures.items c.in-Some-pop-6.ensures.items c.add_member.ensures.stations c.add_member.ensures.heads;
      room = (
        omega (arith, l.invariant.room.0, c.in-Some-pop-2.ensures.cases, c.add_member.ensures.many.0, c.add_member.ensures.room.0),
        omega (arith, l.invariant.room.1, c.in-Some-pop-2.ensures.cases, c.add_member.ensures.many.1, c.add_member.ensures.room.1),
      );
    }

pub unreachable-requires-in_default-pop-7 : goal.unreachable-requires-in_default-pop-7
unreachable-requires-in_default-pop-7 g c =
    let l = c.loop-berth in
    omega (arith, l.invariant.assembled.alike.sinks_are, c.in_default-pop-7.ensures.cases.0, l.sinks.ok.0)

pub destroy_empty-requires-2 : goal.destroy_empty-requires-2
destroy_empty-requires-2 g c =
    let l = c.loop-berth in
    omega (arith, l.invariant.assembled.alike.sinks_are, l.sinks.ok.0, l.berths.ok.0, c.in_default-pop-2.ensures.cases.0, c.in-Some-pop-7.ensures.cases)

pub returns-clause-crew : goal.returns-clause-crew
returns-clause-crew g c = λ images all heads.
    let l = c.loop-berth in
    let is = l.invariant.assembled in
    let none : l.berths.items ≡ [] = nil_from_length l.berths.items (omega (arith, l.berths.ok.0, c.in_default-pop-2.ensures.cases.0)) in
    let made = assembled-all _ _ _ _ _ _ _ _ _ _ _ _ is none in
    is-crew g.S.Service.meaning g.D.Disk.told g.D.Disk.cells g.O.Sink.written images c.args.settings.now c.args.client.now c.args.berths.items c.args.sinks.items c.args.lanes.items c.args.wires _ _ _
    (c.reverse.ensures.items ∙ made.0) (c.reverse-2.ensures.items ∙ made.1) c.in-Some.ensures.items c.in-Some-pop.ensures.items (client-is _ _ _ _ _ _ _ _ _ _ _ _ _ _ is none c.in-Some-pop-7.ensures.items) is.first
    (omega (arith, c.requires.many.0, c.args.berths.ok.0)) c.requires.client c.requires.lanes c.requires.wires all heads

pub returns-clause-sinks : goal.returns-clause-sinks
returns-clause-sinks g c = λ d.
    let l = c.loop-berth in
    let none : l.berths.items ≡ [] = nil_from_length l.berths.items (omega (arith, l.berths.ok.0, c.in_default-pop-2.ensures.cases.0)) in
    client-is _ _ _ _ _ _ _ _ _ _ _ _ _ _ l.invariant.assembled none c.in-Some-pop-7.ensures.items d

pub returns-clause-members : goal.returns-clause-members
returns-clause-members g c = λ i d s within.
    let l = c.loop-berth in
    let is = l.invariant.assembled in
    let none : l.berths.items ≡ [] = nil_from_length l.berths.items (omega (arith, l.berths.ok.0, c.in_default-pop-2.ensures.cases.0)) in
    let made = assembled-all _ _ _ _ _ _ _ _ _ _ _ _ is none in
    sink-is _ _ _ _ _ _ (c.reverse.ensures.items ∙ made.0) is.first i d s (omega (arith, within, c.requires.many.0, c.args.berths.ok.0))

pub returns-clause-stores : goal.returns-clause-stores
returns-clause-stores g c = λ i b s within.
    let l = c.loop-berth in
    let is = l.invariant.assembled in
    let none : l.berths.items ≡ [] = nil_from_length l.berths.items (omega (arith, l.berths.ok.0, c.in_default-pop-2.ensures.cases.0)) in
    let made = assembled-all _ _ _ _ _ _ _ _ _ _ _ _ is none in
    store-is _ _ _ _ _ _ (c.reverse.ensures.items ∙ made.0) is.first i b s (omega (arith, within, c.requires.many.0, c.args.berths.ok.0))
