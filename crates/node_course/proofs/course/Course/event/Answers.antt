use Rattle.std.proofs.Common.{sym, ◌∙◌, false, append-nil}
use Rattle.log_lane.specs.Lane.{lane_put, lane_read, in_lane}
use Rattle.node_played.proofs.Grown.{texts_are, room_for}
use Rattle.node_course.proofs.Kept.{Keeps, keeps-event}
use Rattle.node_course.proofs.course.Course.event.Goals as goal

pub invariant_of-self-2 : goal.invariant_of-self-2
invariant_of-self-2 g c =
    let s = c.args.self.now in
    let p = g.P.GroupLife in
    let core = c.step.new.self in
    let lane = c.put_all.new.lane in
    let texts = texts_are _ _ _ _ _ c.made-made.ensures c.book.ensures c.in-Ok-texts_behind.ensures in
    let was : Keeps g.S.Service.meaning p.opening p.restored p.lane s.journal.number s.journal.events.items s.core.node s.core.broken false (lane_put s.lane) (lane_read s.lane) (in_lane s.lane) =
    record { kept = λ _. s.kept c.requires.whole.0; restored = s.restored; few = s.few; put = s.put; firm = s.firm; needs = s.needs; released = s.released; named = s.named } in
    let k = keeps-event g.S.Service.meaning p.opening p.restored p.lane s.journal.number c.note.new.self.number s.journal.events.items c.note.new.self.events.items s.core.node core.node s.core.broken core.broken (lane_put s.lane) (lane_put lane) (lane_read s.lane) (lane_read lane) (in_lane s.lane) (in_lane lane) c.note.ensures.number was c.args.event _ c.note.ensures.events c.in-Ok.ensures.broken c.in-Ok.ensures.node c.put_all.ensures.put texts c.requires.read c.put_all.ensures.same.0 c.put_all.ensures.lane in record {
      numbered = s.numbered ∙ sym c.note.ensures.number;
      kept = k.kept;
      restored = k.restored;
      few = k.few;
      put = k.put;
      firm = k.firm;
      needs = k.needs;
      released = k.released;
      named = k.named;
    }

pub put_all-requires : goal.put_all-requires
put_all-requires g c =
    room_for g.S.Service.meaning _ _ c.args.event _ _ c.in-Ok.ensures.node (texts_are _ _ _ _ _ c.made-made.ensures c.book.ensures c.in-Ok-texts_behind.ensures) c.requires.room

pub returns-in_default-clause-events : goal.returns-in_default-clause-events
returns-in_default-clause-events g c = (0, sym (append-nil c.args.self.now.journal.events.items))

pub returns-in_default-texts_behind-clause-events : goal.returns-in_default-texts_behind-clause-events
returns-in_default-texts_behind-clause-events g c = (0, sym (append-nil c.args.self.now.journal.events.items))

pub returns-in_err-note-clause-events : goal.returns-in_err-note-clause-events
returns-in_err-note-clause-events g c = (1, c.note.ensures.events)

pub returns-clause-events : goal.returns-clause-events
returns-clause-events g c = (1, c.note.ensures.events)
