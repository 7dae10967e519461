use Rattle.std.proofs.Common.{◌≡◌, drop}
use Rattle.node_rules.specs.Votes.{first_vote}
use Rattle.consensus_instance.proofs.find.first_vote.Given as goal

-- the first of those left is the first of all
abbrev pub invariant-loop-message : goal.invariant-loop-message
invariant-loop-message l = first_vote (drop l.message-index l.arrivals) l.kind l.slot l.digest l.member ≡ first_vote l.arrivals l.kind l.slot l.digest l.member
