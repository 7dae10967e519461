use Rattle.std.proofs.Common.{◌∙◌, false}
use Rattle.log_lane.specs.Lane.{lane_put, lane_read, in_lane}
use Rattle.node_course.proofs.Kept.{Keeps, keeps-open}
use Rattle.node_course.proofs.course.Course.open.Goals as goal

pub invariant_of-result : goal.invariant_of-result
invariant_of-result g c =
    let p = g.P.GroupLife in
    let j = c.args.journal in
    let lane = c.put_all.new.lane in
    let k : Keeps g.S.Service.meaning p.opening p.restored p.lane j.number j.events.items c.args.core.node c.args.core.broken false (lane_put lane) (lane_read lane) (in_lane lane) =
    keeps-open g.S.Service.meaning p.opening p.restored p.lane j.number j.events.items c.args.core.node c.args.core.broken c.restored.result c.book.result.now (lane_put c.args.lane) c.in-Ok.texts.items (lane_put lane) (lane_read lane) (in_lane lane)
    c.requires.journal c.requires.core.0 c.requires.core.1 c.requires.opening.0 c.requires.opening.1 c.requires.few.0 c.restored.ensures c.book.ensures c.in-Ok.ensures c.requires.lane.1.0 c.put_all.ensures.put (c.put_all.ensures.lane ∙ c.requires.lane.0) in record {
      numbered = c.requires.number;
      kept = k.kept;
      restored = k.restored;
      few = k.few;
      put = k.put;
      firm = k.firm;
      needs = k.needs;
      released = k.released;
      named = k.named;
    }
