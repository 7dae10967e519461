use Rattle.std.proofs.Common.{arith, ◌++◌}
use Rattle.std.proofs.lemmas.List.{length-append}
use Rattle.smart_top.proofs.Ending.{input_at_end}
use Rattle.smart_top.proofs.top.play_script.Goals as goal

pub returns-in-Ok-false-clause-ended : goal.returns-in-Ok-false-clause-ended
returns-in-Ok-false-clause-ended g c =
    let none = c.in-Ok-false.ensures.none c.in-Ok-false.field-0-test in
    let bytes = c.loop.invariant.taken.0 in
    let goes = none.3 bytes (g.I.Source.left c.args.input.now) (g.O.Sink.written c.args.output.now) c.loop.invariant.taken.1 in
    c.finish-status.ensures.ended bytes (g.I.Source.left c.args.input.now) (g.I.Source.left c.take_piece.new.input) (g.O.Sink.written c.args.output.now) (g.O.Sink.wants c.args.output.now)
    (input_at_end _ _ bytes goes.consumed none.0) none.0 goes.taken (omega (arith, c.loop.invariant.wants, c.in-Ok-false.ensures.later.2))

pub returns-in-Err-clause-ended : goal.returns-in-Err-clause-ended
returns-in-Err-clause-ended g c =
    c.in-Err.ensures.ended c.loop.invariant.taken.0 (g.I.Source.left c.args.input.now) (g.O.Sink.written c.args.output.now) (g.O.Sink.wants c.args.output.now) c.loop.invariant.taken.1 c.loop.invariant.wants

pub loop-preserved : goal.loop-preserved
loop-preserved g c =
    let more = c.in-Ok-true.ensures.more c.in-Ok-true.field-0-test in
    let behind = more.1 c.loop.invariant.taken.0 (g.I.Source.left c.args.input.now) (g.O.Sink.written c.args.output.now) c.loop.invariant.taken.1 in
    let later = c.in-Ok-true.ensures.later in
    record {
      going = more.0;
      taken = (c.loop.invariant.taken.0 ++ behind.more, behind.going, omega (arith, c.loop.invariant.taken.2, behind.some, length-append c.loop.invariant.taken.0 behind.more));
      reads = omega (arith, c.loop.invariant.reads, later.0);
      faults = omega (arith, c.loop.invariant.faults, later.1);
      wants = omega (arith, c.loop.invariant.wants, later.2);
    }

pub unreachable-requires : goal.unreachable-requires
unreachable-requires g c =
    let taken = c.loop.invariant.taken.1.taken in
    omega (arith, c.loop-test.false, c.loop.invariant.taken.2, taken.few, taken.within, taken.short)
