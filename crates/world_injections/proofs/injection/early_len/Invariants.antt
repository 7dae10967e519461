use Rattle.std.proofs.Common.{◌≡◌, ◌+◌, ◌*◌, ◌^◌, ◌≤◌, drop, length}
use Rattle.std.specs.Prelude.{filter}
use Rattle.std.specs.List.{flat_map}
use Rattle.smart_statements.specs.Kinds.{ballots}
use Rattle.smart_statements.specs.Spelling.{signed}
use Rattle.world_injections.specs.Sizes.{is_early}
use Rattle.world_injections.proofs.injection.early_len.Given as goal

-- the bytes so far and those of the votes left are all
abbrev pub invariant-loop-vote : goal.invariant-loop-vote
invariant-loop-vote l = record {
  all : l.bytes + length (flat_map (signed ballots) (filter is_early (drop l.vote-index l.votes))) ≡ length (flat_map (signed ballots) (filter is_early l.votes));
  small : l.bytes ≤ l.vote-index * 2 ^ 33;
}
