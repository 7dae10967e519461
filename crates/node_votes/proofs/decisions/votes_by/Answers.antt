use Rattle.std.proofs.Common.{ℕ, ◌==◌, find, List}
use Rattle.smart_statements.specs.Forms.{SignedBy}
use Rattle.smart_statements.specs.declared.statement.Ballot.{Ballot}
use Rattle.node_votes.proofs.Shown.{picked_more, picked_few}
use Rattle.node_votes.proofs.decisions.votes_by.Goals as goal

pub loop-member-preserved : goal.loop-member-preserved
loop-member-preserved c = record {
  all = picked_more (λ (member : ℕ). find (λ (b : SignedBy Ballot). b.signer == member) c.args.votes.now) c.args.members.now c.loop-member.list c.add_vote.new.list _ c.loop-member.member-index
      c.member-item.result c.loop-member-test.true c.member-item.is c.in_ok-add_vote.ensures c.loop-member.invariant.all;
  small = picked_few c.loop-member.list c.add_vote.new.list (find (λ (b : SignedBy Ballot). b.signer == c.member-item.result) c.args.votes.now) c.loop-member.member-index c.in_ok-add_vote.ensures
      c.loop-member.invariant.small;
}
