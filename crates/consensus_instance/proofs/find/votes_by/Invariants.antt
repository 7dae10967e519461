use Rattle.std.proofs.Common.{◌≡◌, ◌++◌, ◌≤◌, drop, length}
use Rattle.std.specs.Prelude.{filter_map}
use Rattle.node_rules.specs.Votes.{first_vote}
use Rattle.consensus_instance.proofs.find.votes_by.Given as goal

-- the votes so far and those of the members left are all
abbrev pub invariant-loop-member : goal.invariant-loop-member
invariant-loop-member l = record {
  all : l.votes ++ filter_map (first_vote l.arrivals l.kind l.slot l.digest) (drop l.member-index l.members) ≡ filter_map (first_vote l.arrivals l.kind l.slot l.digest) l.members;
  small : length l.votes ≤ l.member-index;
}
