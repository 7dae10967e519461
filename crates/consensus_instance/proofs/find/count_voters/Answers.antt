use Rattle.std.proofs.Common.{◌∙◌, sym, arith, ap, length}
use Rattle.node_rules.specs.Votes.{has_vote}
use Rattle.consensus_instance.proofs.Lists.{filter_keeps, filter_passes}
use Rattle.consensus_instance.proofs.find.count_voters.Goals.{then-has_vote, else-has_vote}
use Rattle.consensus_instance.proofs.find.count_voters.Goals as goal

pub loop-member-preserved : goal.loop-member-preserved
loop-member-preserved c =
    let p = has_vote c.args.arrivals.now c.args.kind c.args.slot.now c.args.digest.now in
    elim c.if-has_vote.branch [
      | then-has_vote w ↦
          let kept = filter_keeps p c.args.members.now c.loop-member.member-index c.member-item.result c.loop-member-test.true c.member-item.is (sym c.has_vote.ensures ∙ w.if-has_vote.true) in
          record {
            all = omega (arith, w.count-is, ap length kept, c.loop-member.invariant.all);
            small = omega (arith, w.count-is, c.loop-member.invariant.small);
          }
      | else-has_vote w ↦
          let passed = filter_passes p c.args.members.now c.loop-member.member-index c.member-item.result c.loop-member-test.true c.member-item.is (sym c.has_vote.ensures ∙ w.if-has_vote.false) in
          record {
            all = omega (arith, w.count-is, ap length passed, c.loop-member.invariant.all);
            small = omega (arith, w.count-is, c.loop-member.invariant.small);
          }
    ]
