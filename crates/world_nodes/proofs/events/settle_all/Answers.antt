use Rattle.std.specs.Prelude.{slice_get}
use Rattle.world_rules.specs.Worlds.{core_course, at_listed, settle_present}
use Rattle.world_nodes.proofs.Turns.{each_begins, each_next, each_ends}
use Rattle.world_nodes.proofs.events.settle_all.Goals as goal

pub loop-i-init : goal.loop-i-init
loop-i-init g c = each_begins (at_listed c.args.members.now (λ i w. settle_present (core_course g.S.Service.meaning) c.args.members.now i w (slice_get w.hosts i))) c.hosts-count.result.now c.args.world.now.hosts c.args.world.now c.hosts-count.ensures

pub loop-i-preserved : goal.loop-i-preserved
loop-i-preserved g c = each_next (at_listed c.args.members.now (λ i w. settle_present (core_course g.S.Service.meaning) c.args.members.now i w (slice_get w.hosts i))) _ c.loop-i.i c.loop-i.world c.settle_listed.new.world _ c.loop-i-test.true c.loop-i.invariant c.in_ok-settle_listed.ensures

pub returns : goal.returns
returns g c = each_ends (at_listed c.args.members.now (λ i w. settle_present (core_course g.S.Service.meaning) c.args.members.now i w (slice_get w.hosts i))) _ c.loop-i.i c.loop-i.world _ c.loop-i-test.false c.loop-i.invariant
