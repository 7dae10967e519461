use Rattle.std.proofs.Common.{◌+◌, ◌-◌, ◌∙◌, ℕ, Some, nat_eq, w32, refl, sym, ap, arith}
use Rattle.log_stream.proofs.Pieces.{at_is, read_on}
use Rattle.log_stream.proofs.Walks.{come_next, walk_short, walk_over, walk_ends}
use Rattle.log_stream.proofs.group.walk.Goals as goal

pub returns-then-to-at-lt4-clause-walked : goal.returns-then-to-at-lt4-clause-walked
returns-then-to-at-lt4-clause-walked g c = λ told.
    let i = c.loop-left.invariant in
    walk_short (g.D.Disk.cells c.args.device.now).now c.args.start c.loop-left.at c.args.to c.args.count c.loop-left.left (i.come told) i.order (c.requires.inside told) c.loop-left-test.true c.if-to-at-lt4.true

pub returns-then-to-at-clause-walked : goal.returns-then-to-at-clause-walked
returns-then-to-at-clause-walked g c = λ told.
    let i = c.loop-left.invariant in
    walk_over (g.D.Disk.cells c.args.device.now).now c.args.start c.loop-left.at c.args.to c.args.count c.loop-left.left (i.come told) i.order (c.requires.inside told) c.in-Some.size c.loop-left-test.true
    (at_is w32 (g.D.Disk.cells c.args.device.now) (g.D.Disk.cells c.loop-left.device) c.loop-left.at c.in_ok-size.field-0 (Some c.in-Some.size) (i.still told).same c.in-Some.is (c.in_ok-size.ensures.number told))
    c.if-to-at-lt4.false (omega (arith, c.if-to-at.true, c.from-size.ensures))

pub loop-left-preserved : goal.loop-left-preserved
loop-left-preserved g c =
    let i = c.loop-left.invariant in
    record {
      order = omega (arith, i.order, c.if-to-at-lt4.false, c.if-to-at.false);
      far = omega (arith, i.far, c.loop-left-test.true);
      come = λ told.
          come_next (g.D.Disk.cells c.args.device.now).now c.args.start c.loop-left.at c.args.count c.loop-left.left c.from-size.result (c.loop-left.at + (4 + c.from-size.result)) (c.loop-left.left - 1) (i.come told)
          (at_is w32 (g.D.Disk.cells c.args.device.now) (g.D.Disk.cells c.loop-left.device) c.loop-left.at c.in_ok-size.field-0 (Some c.from-size.result) (i.still told).same (c.in-Some.is ∙ ap (λ (n : ℕ). Some n) (sym c.from-size.ensures)) (c.in_ok-size.ensures.number told))
          (omega (arith, c.requires.inside told, i.order, c.if-to-at-lt4.false, c.if-to-at.false)) (omega arith) (omega (arith, c.loop-left-test.true));
      shows = λ told. c.u32_at.ensures.shows told;
      still = λ told. read_on g.D.Disk.cells g.D.Disk.moment g.D.Disk.left_since c.args.device.now c.loop-left.device c.u32_at.new.device (i.still told) (c.u32_at.ensures.still told);
      faults = omega (arith, i.faults, c.u32_at.ensures.cause.later);
      wants = omega (arith, i.wants, c.u32_at.ensures.want.later);
    }

pub returns-clause-walked : goal.returns-clause-walked
returns-clause-walked g c = λ told.
    let i = c.loop-left.invariant in
    walk_ends (g.D.Disk.cells c.args.device.now).now c.args.start c.loop-left.at c.args.to c.args.count c.loop-left.left (i.come told) i.order (c.requires.inside told) (omega (arith, c.loop-left-test.false)) (nat_eq c.loop-left.at c.args.to) refl
