use Rattle.std.proofs.lemmas.Result.{err_from_is_err_and}
use Rattle.smart_base.specs.ViewBytes.{members_at}
use Rattle.smart_base.proofs.ViewLaws.{member-goes-on, member-ends, members-done}
use Rattle.smart_base.proofs.view_bytes.take_members.Goals as goal

pub returns-in_err-member : goal.returns-in_err-member
returns-in_err-member c =
    let p = err_from_is_err_and c.from_residual.result c.from_residual.ensures.1 in
    rw (p.1, p.2)
    (member-ends c.in_err-member.field-0.0.at c.loop-turn.list c.loop-turn.last c.args.count c.loop-turn.turn c.loop-turn.cut
    (members_at 0 c.args.count c.args.cut.now) c.loop-turn-test.true c.in_err-member.ensures c.loop-turn.invariant)

pub loop-turn-preserved : goal.loop-turn-preserved
loop-turn-preserved c =
    rw (c.in_ok-push.ensures.ok, c.new.ensures)
    (member-goes-on c.loop-turn.list c.loop-turn.last c.args.count c.loop-turn.turn c.loop-turn.cut c.in_ok-member.member c.take_above.new.cut
    (members_at 0 c.args.count c.args.cut.now) c.loop-turn-test.true c.in_ok-member.ensures c.loop-turn.invariant)

pub returns : goal.returns
returns c =
    members-done c.loop-turn.list c.loop-turn.last c.args.count c.loop-turn.turn c.loop-turn.cut (members_at 0 c.args.count c.args.cut.now)
    c.loop-turn-test.false c.loop-turn.invariant
