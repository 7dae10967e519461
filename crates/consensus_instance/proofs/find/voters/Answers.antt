use Rattle.std.proofs.Common.{◌∙◌, sym}
use Rattle.node_rules.specs.Votes.{has_vote}
use Rattle.consensus_instance.proofs.Lists.{found_more, found_same}
use Rattle.consensus_instance.proofs.find.voters.Goals.{then-has_vote+in_ok-push, else-has_vote}
use Rattle.consensus_instance.proofs.find.voters.Goals as goal

pub loop-member-preserved : goal.loop-member-preserved
loop-member-preserved c =
    let p = has_vote c.args.arrivals.now c.args.kind c.args.slot.now c.args.digest.now in
    elim c.if-has_vote.branch [
      | then-has_vote+in_ok-push w ↦ found_more p c.args.members.now c.loop-member.found c.if-has_vote.found _ c.loop-member.member-index c.member-item.result c.loop-member-test.true c.member-item.is (sym c.has_vote.ensures ∙ w.if-has_vote.true) (w.found-is ∙ w.in_ok-push.ensures.ok) c.loop-member.invariant
      | else-has_vote w ↦ found_same p c.args.members.now c.loop-member.found c.if-has_vote.found _ c.loop-member.member-index c.member-item.result c.loop-member-test.true c.member-item.is (sym c.has_vote.ensures ∙ w.if-has_vote.false) w.found-is c.loop-member.invariant
    ]
