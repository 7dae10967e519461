use Rattle.std.proofs.Common.{◌∙◌, false, sym, subst}
use Rattle.log_lane.specs.Lane.{lane_put, lane_read, in_lane}
use Rattle.trail.specs.declared.event.Addressed.{Addressed}
use Rattle.group_ends.specs.Ports.{ends, IsPosted}
use Rattle.group_ends.proofs.Offering.{carries-front}
use Rattle.group_ends.proofs.Seated.{same-posted}
use Rattle.node_played.proofs.Grown.{releases}
use Rattle.node_course.proofs.Kept.{Keeps, keeps-posted}
use Rattle.node_course.proofs.course.Course.send.Goals as goal

pub invariant_of-self-2 : goal.invariant_of-self-2
invariant_of-self-2 g c =
    let s = c.args.self.now in
    let p = g.P.GroupLife in
    let core = c.release.new.self in
    let es = s.journal.events.items in
    let new = c.post.new.journal.events.items in
    let targets = ends c.args.ports.now.items in
    let a : Addressed = c.addressed_of.result in
    let posted : IsPosted a targets es new = subst (λ (x : Addressed). IsPosted x targets es new) c.in-Ok.ensures c.post.ensures.posted in
    let old = s.kept c.requires.whole.0 in
    let may = releases s.core.node _ a c.in-Some.held old.1 c.in-Some.ensures.held (sym c.addressed_of.ensures.to) (sym c.addressed_of.ensures.message) in
    let was : Keeps g.S.Service.meaning p.opening p.restored p.lane s.journal.number es s.core.node s.core.broken false (lane_put s.lane) (lane_read s.lane) (in_lane s.lane) =
    record { kept = λ _. old; restored = s.restored; few = s.few; put = s.put; firm = s.firm; needs = s.needs; released = s.released; named = s.named } in
    let k = keeps-posted g.S.Service.meaning p.opening p.restored p.lane s.journal.number c.post.new.journal.number es new s.core.node core.node s.core.broken core.broken (lane_put s.lane) (lane_put s.lane) (lane_read s.lane) (lane_read s.lane) (in_lane s.lane) (in_lane s.lane) c.post.ensures.number was a targets posted may c.release.ensures.broken c.release.ensures.node in record {
      numbered = s.numbered ∙ sym c.post.ensures.number;
      kept = k.kept;
      restored = k.restored;
      few = k.few;
      put = k.put;
      firm = k.firm;
      needs = k.needs;
      released = k.released;
      named = k.named;
    }

pub returns-in_default-clause-first : goal.returns-in_default-clause-first
returns-in_default-clause-first g c = carries-front c.args.self.now.journal.events.items c.args.ports.now.items c.requires.carries

pub returns-in_default-of-clause-first : goal.returns-in_default-of-clause-first
returns-in_default-of-clause-first g c = carries-front c.args.self.now.journal.events.items c.args.ports.now.items c.requires.carries

pub returns-in_err-post-clause-came : goal.returns-in_err-post-clause-came
returns-in_err-post-clause-came g c =
    let es = c.args.self.now.journal.events.items in
    let new = c.post.new.journal.events.items in
    let targets = ends c.args.ports.now.items in
    let a : Addressed = c.addressed_of.result in
    let posted : IsPosted a targets es new = subst (λ (x : Addressed). IsPosted x targets es new) c.in-Ok.ensures c.post.ensures.posted in
    same-posted es new a targets posted

pub returns-clause-first : goal.returns-clause-first
returns-clause-first g c = carries-front c.post.new.journal.events.items c.post.new.ports.items c.in_ok-post.ensures.ok

pub returns-clause-came : goal.returns-clause-came
returns-clause-came g c =
    let es = c.args.self.now.journal.events.items in
    let new = c.post.new.journal.events.items in
    let targets = ends c.args.ports.now.items in
    let a : Addressed = c.addressed_of.result in
    let posted : IsPosted a targets es new = subst (λ (x : Addressed). IsPosted x targets es new) c.in-Ok.ensures c.post.ensures.posted in
    same-posted es new a targets posted

pub returns-clause-ok : goal.returns-clause-ok
returns-clause-ok g c =
    let es = c.args.self.now.journal.events.items in
    let new = c.post.new.journal.events.items in
    let targets = ends c.args.ports.now.items in
    let a : Addressed = c.addressed_of.result in
    let posted : IsPosted a targets es new = subst (λ (x : Addressed). IsPosted x targets es new) c.in-Ok.ensures c.post.ensures.posted in
    (a, posted)
