use Rattle.world_rules.specs.Worlds.{core_course, resumes}
use Rattle.world_nodes.proofs.Turns.{each_begins, each_next, each_ends}
use Rattle.world_nodes.proofs.crashes.restart_all.Goals as goal

pub loop-i-init : goal.loop-i-init
loop-i-init g c = each_begins (resumes (core_course g.S.Service.meaning)) c.hosts-count.result.now c.args.world.now.hosts c.args.world.now c.hosts-count.ensures

pub loop-i-preserved : goal.loop-i-preserved
loop-i-preserved g c = each_next (resumes (core_course g.S.Service.meaning)) _ c.loop-i.i c.loop-i.world c.resume.new.world _ c.loop-i-test.true c.loop-i.invariant c.in_ok-resume.ensures

pub returns : goal.returns
returns g c = each_ends (resumes (core_course g.S.Service.meaning)) _ c.loop-i.i c.loop-i.world _ c.loop-i-test.false c.loop-i.invariant
