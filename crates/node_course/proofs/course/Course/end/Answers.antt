use Rattle.std.proofs.Common.{◌∙◌, sym}
use Rattle.log_lane.specs.Lane.{lane_put, lane_read, in_lane}
use Rattle.node_course.proofs.Kept.{Keeps, keeps-end}
use Rattle.node_course.proofs.course.Course.end.Goals as goal

pub invariant_of-self : goal.invariant_of-self
invariant_of-self g c =
    let s = c.args.self.now in
    let p = g.P.GroupLife in
    let was : Keeps g.S.Service.meaning p.opening p.restored p.lane s.journal.number s.journal.events.items s.core.node s.core.broken s.stuck (lane_put s.lane) (lane_read s.lane) (in_lane s.lane) =
    record { kept = s.kept; restored = s.restored; few = s.few; put = s.put; firm = s.firm; needs = s.needs; released = s.released; named = s.named } in
    let k = keeps-end g.S.Service.meaning p.opening p.restored p.lane s.journal.number c.note.new.self.number s.journal.events.items c.note.new.self.events.items s.core.node s.core.broken s.stuck (lane_put s.lane) (lane_read s.lane) (in_lane s.lane) c.note.ensures.number c.note.ensures.events was in record {
      numbered = s.numbered ∙ sym c.note.ensures.number;
      kept = k.kept;
      restored = k.restored;
      few = k.few;
      put = k.put;
      firm = k.firm;
      needs = k.needs;
      released = k.released;
      named = k.named;
    }
