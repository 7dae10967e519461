use Rattle.std.proofs.Common.{◌∙◌, Err, ap, arith}
use Rattle.group_client.specs.Lines.{accepted}
use Rattle.group_client.proofs.Told.{told-all, told-lines, told-then, told-up-to, told-before, whole-behind}
use Rattle.group_client.proofs.turns.client_loop.Goals as goal

pub returns-then-load-clause-told_first : goal.returns-then-load-clause-told_first
returns-then-load-clause-told_first g c = told-all _ _ _ _ c.loop.invariant.told

pub returns-then-is_spent-clause-told_first : goal.returns-then-is_spent-clause-told_first
returns-then-is_spent-clause-told_first g c = told-all _ _ _ _ c.loop.invariant.told

pub returns-in-Ok-Done-clause-told : goal.returns-in-Ok-Done-clause-told
returns-in-Ok-Done-clause-told g c =
    let head = g.P.Owner.head 0 in
    let written = g.W.Sink.written in
    λ _. told-then (accepted head c.args.seat.now.journal.events.items) (accepted head c.loop.seat.journal.events.items) (accepted head c.client_turn.new.seat.journal.events.items)
    (written c.args.output.now) (written c.loop.output) (written c.client_turn.new.output) c.loop.invariant.told c.in-Ok-Done.ensures.told

pub returns-in-Ok-Done-clause-told_first : goal.returns-in-Ok-Done-clause-told_first
returns-in-Ok-Done-clause-told_first g c =
    let head = g.P.Owner.head 0 in
    let written = g.W.Sink.written in
    told-all _ _ _ _
    (told-then (accepted head c.args.seat.now.journal.events.items) (accepted head c.loop.seat.journal.events.items) (accepted head c.client_turn.new.seat.journal.events.items)
    (written c.args.output.now) (written c.loop.output) (written c.client_turn.new.output) c.loop.invariant.told c.in-Ok-Done.ensures.told)

pub loop-preserved-in-Ok-Nothing : goal.loop-preserved-in-Ok-Nothing
loop-preserved-in-Ok-Nothing g c =
    let head = g.P.Owner.head 0 in
    let written = g.W.Sink.written in
    let i = c.loop.invariant in
    let e = c.in-Ok-Nothing.ensures in record {
      whole = e.going.0;
      played = e.going.1;
      asked = e.asked;
      few = e.few;
      unended = e.open;
      heard = e.heard ∙ i.heard;
      told = told-then (accepted head c.args.seat.now.journal.events.items) (accepted head c.loop.seat.journal.events.items) (accepted head c.client_turn.new.seat.journal.events.items)
          (written c.args.output.now) (written c.loop.output) (written c.client_turn.new.output) i.told e.told;
      later = (omega (arith, i.later.0, e.later.0), omega (arith, i.later.1, e.later.1));
    }

pub returns-in-Err-clause-told_first : goal.returns-in-Err-clause-told_first
returns-in-Err-clause-told_first g c =
    let head = g.P.Owner.head 0 in
    let written = g.W.Sink.written in
    told-up-to (accepted head c.args.seat.now.journal.events.items) (accepted head c.loop.seat.journal.events.items) (accepted head c.client_turn.new.seat.journal.events.items)
    (written c.args.output.now) (written c.loop.output) (written c.client_turn.new.output) c.loop.invariant.told c.in-Err.ensures.told_first

-- ---- whole lines

pub returns-then-load-clause-lines : goal.returns-then-load-clause-lines
returns-then-load-clause-lines g c = λ _. told-lines _ _ _ _ c.loop.invariant.told

pub returns-then-is_spent-clause-lines : goal.returns-then-is_spent-clause-lines
returns-then-is_spent-clause-lines g c = λ _. told-lines _ _ _ _ c.loop.invariant.told

pub returns-in-Ok-Done-clause-lines : goal.returns-in-Ok-Done-clause-lines
returns-in-Ok-Done-clause-lines g c =
    let head = g.P.Owner.head 0 in
    let written = g.W.Sink.written in
    λ _. told-lines _ _ _ _
    (told-then (accepted head c.args.seat.now.journal.events.items) (accepted head c.loop.seat.journal.events.items) (accepted head c.client_turn.new.seat.journal.events.items)
    (written c.args.output.now) (written c.loop.output) (written c.client_turn.new.output) c.loop.invariant.told c.in-Ok-Done.ensures.told)

pub returns-in-Err-clause-lines : goal.returns-in-Err-clause-lines
returns-in-Err-clause-lines g c =
    let head = g.P.Owner.head 0 in
    let written = g.W.Sink.written in
    let e = c.in-Err.ensures in
    let before =
    told-before (accepted head c.args.seat.now.journal.events.items) (accepted head c.loop.seat.journal.events.items) (accepted head c.client_turn.new.seat.journal.events.items)
    (written c.args.output.now) (written c.loop.output) (written c.client_turn.new.output) c.loop.invariant.told e.told_first in
    whole-behind c.in-Err.fault (λ x. before (e.trail (ap Err x)).1) (λ x. before (e.none (ap Err x)))
