use Rattle.std.proofs.Common.{◌≡◌, ◌++◌, drop}
use Rattle.std.specs.Prelude.{filter}
use Rattle.std.specs.List.{list_any}
use Rattle.node_rules.specs.Votes.{is_vote}
use Rattle.consensus_instance.proofs.find.voters.Given as goal

-- the voters so far and those of the members left are the voters
abbrev pub invariant-loop-member : goal.invariant-loop-member
invariant-loop-member l = l.found ++ filter (λ member. list_any (is_vote l.kind member l.slot l.digest) l.arrivals) (drop l.member-index l.members) ≡ filter (λ member. list_any (is_vote l.kind member l.slot l.digest) l.arrivals) l.members
