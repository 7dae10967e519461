use Rattle.std.proofs.Common.{◌≡◌, arith}
use Rattle.audit_rules.specs.declared.recorded.TheConstants.{PARTS}
use Rattle.audit_rules.specs.Readings.{Reached}
use Rattle.trail_reading.proofs.Reached.{starts, more, done_last, limited}
use Rattle.trail_reading.proofs.parts.read_parts.Goals as goal
use Rattle.trail_reading.proofs.parts.read_parts.Goals.{then-is_done-2, else-is_done-2}

pub loop-count-init : goal.loop-count-init
loop-count-init c = starts c.args.bytes.now c.new.result c.new-cut.result c.new.ensures c.new-cut.ensures

pub loop-count-preserved : goal.loop-count-preserved
loop-count-preserved c =
    let x : Reached = record { reading = c.loop-count.reading; cut = c.loop-count.cut } in
    let y : Reached = record { reading = c.take_next.new.reading; cut = c.take_next.new.cut } in
    more c.args.bytes.now c.loop-count.count c.in_ok-take_next.field-0 x y c.loop-count.invariant c.in_ok-take_next.ensures c.if-not-branch.false

pub returns : goal.returns
returns c =
    let x : Reached = record { reading = c.loop-count.reading; cut = c.loop-count.cut } in
    let all : c.loop-count.count ≡ PARTS = omega (arith, c.loop-count-test.false, c.loop-count.auto.count-end) in
    elim c.if-is_done-2.branch [
      | then-is_done-2 w ↦ done_last c.args.bytes.now c.loop-count.count x c.is_done-2.result c.if-is_done-2.stop c.loop-count.invariant all c.is_done-2.ensures w.if-is_done-2.true w.stop-is
      | else-is_done-2 w ↦ limited c.args.bytes.now c.loop-count.count x c.is_done-2.result c.if-is_done-2.stop c.loop-count.invariant all c.is_done-2.ensures w.if-is_done-2.false w.stop-is
    ]
