use Rattle.std.proofs.Common.{◌≡◌, ◌++◌, ◌≤◌, drop, length}
use Rattle.std.specs.Prelude.{filter}
use Rattle.world_injections.specs.Sizes.{is_early}
use Rattle.world_injections.proofs.injection.early_accepts.Given as goal

-- those so far and those left are all
abbrev pub invariant-loop-vote : goal.invariant-loop-vote
invariant-loop-vote l = record {
  all : l.list ++ filter is_early (drop l.vote-index l.votes) ≡ filter is_early l.votes;
  count : length l.list ≤ l.vote-index;
}
