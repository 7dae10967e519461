use Rattle.std.proofs.Common.{◌∙◌, Ok, Err, ap, arith}
use Rattle.group_client.specs.Lines.{accepted}
use Rattle.group_client.specs.Loops.{Output}
use Rattle.group_client.proofs.Behind.{more-then}
use Rattle.group_client.proofs.Told.{told-then}
use Rattle.group_parties.proofs.Manned.{the-other}
use Rattle.group_parties.proofs.Played.{play-ended, play-failed, play-over}
use Rattle.group_parties.specs.declared.playing.PlayEnd.TheVariants.{Done, Still}
use Rattle.group_parties.proofs.playing.play_on.Goals as goal

-- ---- the members

pub returns-then-eq-clause-since : goal.returns-then-eq-clause-since
returns-then-eq-clause-since g c = λ origins had. c.play_members-round.ensures.since origins (c.loop.invariant.since origins had)

pub returns-then-eq-clause-worked : goal.returns-then-eq-clause-worked
returns-then-eq-clause-worked g c = λ begun had. c.play_members-round.ensures.worked begun (c.loop.invariant.worked begun had)

pub returns-in-Ok-Done-clause-since : goal.returns-in-Ok-Done-clause-since
returns-in-Ok-Done-clause-since g c = λ origins had. c.play_members-round.ensures.since origins (c.loop.invariant.since origins had)

pub returns-in-Ok-Done-clause-worked : goal.returns-in-Ok-Done-clause-worked
returns-in-Ok-Done-clause-worked g c = λ begun had. c.play_members-round.ensures.worked begun (c.loop.invariant.worked begun had)

pub returns-then-eq-2-clause-since : goal.returns-then-eq-2-clause-since
returns-then-eq-2-clause-since g c = λ origins had. c.play_members-round.ensures.since origins (c.loop.invariant.since origins had)

pub returns-then-eq-2-clause-worked : goal.returns-then-eq-2-clause-worked
returns-then-eq-2-clause-worked g c = λ begun had. c.play_members-round.ensures.worked begun (c.loop.invariant.worked begun had)

pub returns-in-Err-clause-since : goal.returns-in-Err-clause-since
returns-in-Err-clause-since g c = λ origins had. c.play_members-round.ensures.since origins (c.loop.invariant.since origins had)

pub returns-in-Err-clause-worked : goal.returns-in-Err-clause-worked
returns-in-Err-clause-worked g c = λ begun had. c.play_members-round.ensures.worked begun (c.loop.invariant.worked begun had)

-- ---- the client

pub returns-then-eq-clause-made : goal.returns-then-eq-clause-made
returns-then-eq-clause-made g c =
    let head = g.P.Owner.head 0 in
    let s = g.W.Sink in
    let old = c.args.client.now in
    let now = c.loop.client in
    let i = c.loop.invariant in
    let before : Output = record { written = s.written c.args.output.now; faults = s.faults c.args.output.now; wants = s.wants c.args.output.now } in
    let mid : Output = record { written = s.written c.loop.output; faults = s.faults c.loop.output; wants = s.wants c.loop.output } in
    play-over head c.args.task.now.asks old.journal.events.items now.journal.events.items before mid i.behind i.told i.later now.client now.over now.pending now.journal.failed i.whole i.played i.asked i.few i.unended

pub returns-in-Ok-Done-clause-made : goal.returns-in-Ok-Done-clause-made
returns-in-Ok-Done-clause-made g c =
    let head = g.P.Owner.head 0 in
    let s = g.W.Sink in
    let old = c.args.client.now in
    let now = c.loop.client in
    let new = c.client_turn.new.seat in
    let i = c.loop.invariant in
    let e = c.in-Ok-Done.ensures in
    let before : Output = record { written = s.written c.args.output.now; faults = s.faults c.args.output.now; wants = s.wants c.args.output.now } in
    let mid : Output = record { written = s.written c.loop.output; faults = s.faults c.loop.output; wants = s.wants c.loop.output } in
    let after : Output = record { written = s.written c.client_turn.new.output; faults = s.faults c.client_turn.new.output; wants = s.wants c.client_turn.new.output } in
    play-ended head c.args.task.now.asks old.journal.events.items now.journal.events.items before mid i.behind i.told i.later Done new.journal.events.items new.client new.over new.pending new.journal.failed after (λ fault is. cc) e.going e.asked e.few e.open e.behind e.told e.later
    (λ is. (e.done (ap Ok c.in-Ok-Done.field-0-is)).1) (λ is. cc)

pub returns-then-eq-2-clause-made : goal.returns-then-eq-2-clause-made
returns-then-eq-2-clause-made g c =
    let head = g.P.Owner.head 0 in
    let s = g.W.Sink in
    let old = c.args.client.now in
    let now = c.loop.client in
    let new = c.client_turn.new.seat in
    let i = c.loop.invariant in
    let e = c.in-Ok-Nothing.ensures in
    let before : Output = record { written = s.written c.args.output.now; faults = s.faults c.args.output.now; wants = s.wants c.args.output.now } in
    let mid : Output = record { written = s.written c.loop.output; faults = s.faults c.loop.output; wants = s.wants c.loop.output } in
    let after : Output = record { written = s.written c.client_turn.new.output; faults = s.faults c.client_turn.new.output; wants = s.wants c.client_turn.new.output } in
    play-ended head c.args.task.now.asks old.journal.events.items now.journal.events.items before mid i.behind i.told i.later Still new.journal.events.items new.client new.over new.pending new.journal.failed after (λ fault is. cc) e.going e.asked e.few e.open e.behind e.told e.later
    (λ is. cc) (λ is. (e.nothing (ap Ok c.in-Ok-Nothing.field-0-is)).1)

pub returns-in-Err-clause-made : goal.returns-in-Err-clause-made
returns-in-Err-clause-made g c =
    let head = g.P.Owner.head 0 in
    let s = g.W.Sink in
    let old = c.args.client.now in
    let now = c.loop.client in
    let new = c.client_turn.new.seat in
    let i = c.loop.invariant in
    let e = c.in-Err.ensures in
    let before : Output = record { written = s.written c.args.output.now; faults = s.faults c.args.output.now; wants = s.wants c.args.output.now } in
    let mid : Output = record { written = s.written c.loop.output; faults = s.faults c.loop.output; wants = s.wants c.loop.output } in
    let after : Output = record { written = s.written c.client_turn.new.output; faults = s.faults c.client_turn.new.output; wants = s.wants c.client_turn.new.output } in
    play-failed head c.args.task.now.asks old.journal.events.items now.journal.events.items before mid i.behind i.told i.later c.in-Err.fault new.journal.events.items new.client new.over new.pending new.journal.failed after e.err e.open e.behind e.told_first
    (λ x. e.none (ap Err x)) (λ x. e.trail (ap Err x)) (λ x. e.failed (ap Err x)) (λ x. e.want (ap Err x)) e.later

-- ---- another round

pub loop-preserved-else-eq-2 : goal.loop-preserved-else-eq-2
loop-preserved-else-eq-2 g c =
    let head = g.P.Owner.head 0 in
    let written = g.W.Sink.written in
    let old = c.args.client.now.journal.events.items in
    let now = c.loop.client.journal.events.items in
    let new = c.client_turn.new.seat.journal.events.items in
    let i = c.loop.invariant in
    let m = c.play_members-round.ensures in
    let e = c.in-Ok-Nothing.ensures in record {
      ready = the-other m.again (λ over. grind arith);
      since = λ origins had. m.since origins (i.since origins had);
      worked = λ begun had. m.worked begun (i.worked begun had);
      same = m.same ∙ i.same;
      whole = e.going.0;
      played = e.going.1;
      unended = e.open;
      asked = e.asked;
      few = e.few;
      behind = more-then old now new i.behind e.behind;
      told = told-then (accepted head old) (accepted head now) (accepted head new) (written c.args.output.now) (written c.loop.output) (written c.client_turn.new.output) i.told e.told;
      later = (omega (arith, i.later.0, e.later.0), omega (arith, i.later.1, e.later.1));
    }

pub loop-preserved : goal.loop-preserved
loop-preserved g c =
    let head = g.P.Owner.head 0 in
    let written = g.W.Sink.written in
    let old = c.args.client.now.journal.events.items in
    let now = c.loop.client.journal.events.items in
    let new = c.client_turn.new.seat.journal.events.items in
    let i = c.loop.invariant in
    let m = c.play_members-round.ensures in
    let e = c.in-Ok.ensures in record {
      ready = the-other m.again (λ over. grind arith);
      since = λ origins had. m.since origins (i.since origins had);
      worked = λ begun had. m.worked begun (i.worked begun had);
      same = m.same ∙ i.same;
      whole = e.going.0;
      played = e.going.1;
      unended = e.open;
      asked = e.asked;
      few = e.few;
      behind = more-then old now new i.behind e.behind;
      told = told-then (accepted head old) (accepted head now) (accepted head new) (written c.args.output.now) (written c.loop.output) (written c.client_turn.new.output) i.told e.told;
      later = (omega (arith, i.later.0, e.later.0), omega (arith, i.later.1, e.later.1));
    }
