use Rattle.std.proofs.Common.{◌≡◌, ◌++◌, drop}
use Rattle.std.specs.Prelude.{filter}
use Rattle.node_rules.specs.Rules.{has_signed}
use Rattle.node_votes.proofs.decisions.signers.Given as goal

-- the signers so far and those of the members left are the signers
abbrev pub invariant-loop-member : goal.invariant-loop-member
invariant-loop-member l = l.found ++ filter (has_signed l.votes) (drop l.member-index l.members) ≡ filter (has_signed l.votes) l.members
