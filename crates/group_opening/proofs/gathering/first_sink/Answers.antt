use Rattle.std.proofs.Common.{◌+◌, ◌≤◌, vec_len, vec_capacity}
use Rattle.group_opening.proofs.Berthing.{ok-of, room-for}
use Rattle.group_opening.proofs.Lending.{rest-sink-first}
use Rattle.group_opening.proofs.gathering.first_sink.Goals as goal

pub push_reserved-requires : goal.push_reserved-requires
push_reserved-requires g c =
    room-for (vec_len c.reserve.new.self) c.args.count (vec_capacity c.reserve.new.self)
    (ok-of (vec_len c.reserve.new.self + (c.args.count + 1) ≤ vec_capacity c.reserve.new.self) c.reserve.result c.is_err.result c.is_err.ensures.value c.if-is_err.false c.reserve.ensures.ok)

pub returns-clause-back : goal.returns-clause-back
returns-clause-back g c =
    let t = g.T.TrailRoom in
    let s = c.args.settings.now in
    rest-sink-first s.dir c.as_slice-dir.result.now c.new.result (t.kept c.args.trails.now) (t.kept c.take_trail.new.trails) (t.taken c.args.trails.now) (t.taken c.take_trail.new.trails) c.as_slice-dir.ensures c.new.ensures
    c.take_trail.ensures.others c.take_trail.ensures.others_taken c.args.count c.in-Err.ensures.back
