use Rattle.std.proofs.Common.{◌∙◌, sym}
use Rattle.node_rules.specs.Rules.{has_signed}
use Rattle.consensus_instance.proofs.Lists.{found_more, found_same}
use Rattle.node_votes.proofs.decisions.signers.Goals.{then-has_signed+in_ok-push, else-has_signed}
use Rattle.node_votes.proofs.decisions.signers.Goals as goal

pub loop-member-preserved : goal.loop-member-preserved
loop-member-preserved c =
    let p = has_signed c.args.votes.now in
    elim c.if-has_signed.branch [
      | then-has_signed+in_ok-push w ↦ found_more p c.args.members.now c.loop-member.found c.if-has_signed.found _ c.loop-member.member-index c.member-item.result c.loop-member-test.true c.member-item.is (sym c.has_signed.ensures ∙ w.if-has_signed.true) (w.found-is ∙ w.in_ok-push.ensures.ok) c.loop-member.invariant
      | else-has_signed w ↦ found_same p c.args.members.now c.loop-member.found c.if-has_signed.found _ c.loop-member.member-index c.member-item.result c.loop-member-test.true c.member-item.is (sym c.has_signed.ensures ∙ w.if-has_signed.false) w.found-is c.loop-member.invariant
    ]
