use Rattle.std.proofs.Common.{◌≡◌, ◌+◌, ◌≤◌, drop, length}
use Rattle.std.specs.Prelude.{filter}
use Rattle.std.specs.List.{list_any}
use Rattle.node_rules.specs.Votes.{is_vote}
use Rattle.consensus_instance.proofs.find.count_voters.Given as goal

-- the voters so far and those of the members left are all
abbrev pub invariant-loop-member : goal.invariant-loop-member
invariant-loop-member l = record {
  all : l.count + length (filter (λ member. list_any (is_vote l.kind member l.slot l.digest) l.arrivals) (drop l.member-index l.members)) ≡ length (filter (λ member. list_any (is_vote l.kind member l.slot l.digest) l.arrivals) l.members);
  small : l.count ≤ l.member-index;
}
