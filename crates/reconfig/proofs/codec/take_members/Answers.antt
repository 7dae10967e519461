use Rattle.std.proofs.lemmas.Result.{err_from_is_err_and}
use Rattle.smart_base.specs.Cuts.{times_at}
use Rattle.smart_base.specs.Laws.{goes_on, ends, is_done}
use Rattle.smart_base.specs.declared.fault.ReadError.TheVariants as errors
use Rattle.reconfig.specs.Changes.{member_at}
use Rattle.reconfig.proofs.codec.take_members.Goals as goal

pub returns-in_err-member : goal.returns-in_err-member
returns-in_err-member c =
    let p = err_from_is_err_and c.from_residual.result c.from_residual.ensures.1 in
    rw (p.1, p.2)
    (ends (errors.Unread c.in_err-member.field-0.0.at) member_at c.loop-turn.list c.args.count c.loop-turn.turn c.loop-turn.cut
    (times_at member_at c.args.count c.args.cut.now) c.loop-turn-test.true c.in_err-member.ensures c.loop-turn.invariant)

pub loop-turn-preserved : goal.loop-turn-preserved
loop-turn-preserved c =
    rw c.in_ok-push.ensures.ok
    (goes_on member_at c.loop-turn.list c.args.count c.loop-turn.turn c.loop-turn.cut c.in_ok-member.member c.take_member.new.cut
    (times_at member_at c.args.count c.args.cut.now) c.loop-turn-test.true c.in_ok-member.ensures c.loop-turn.invariant)

pub returns : goal.returns
returns c =
    is_done member_at c.loop-turn.list c.args.count c.loop-turn.turn c.loop-turn.cut (times_at member_at c.args.count c.args.cut.now)
    c.loop-turn-test.false c.loop-turn.invariant
