use Rattle.std.proofs.Common.{◌≡◌, ◌++◌, ◌≤◌, ◌==◌, drop, length, find}
use Rattle.std.specs.Prelude.{filter_map}
use Rattle.smart_statements.specs.Forms.{SignedBy}
use Rattle.smart_statements.specs.declared.statement.Ballot.{Ballot}
use Rattle.node_votes.proofs.decisions.votes_by.Given as goal

-- the votes so far and those of the members left are all
abbrev pub invariant-loop-member : goal.invariant-loop-member
invariant-loop-member l = record {
  all : l.list ++ filter_map (λ member. find (λ (b : SignedBy Ballot). b.signer == member) l.votes) (drop l.member-index l.members)
      ≡ filter_map (λ member. find (λ (b : SignedBy Ballot). b.signer == member) l.votes) l.members;
  small : length l.list ≤ l.member-index;
}
