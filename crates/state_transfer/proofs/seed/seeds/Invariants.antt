use Rattle.std.proofs.Common.{◌≡◌}
use Rattle.state_transfer.specs.Seeds.{seeds_to}
use Rattle.state_transfer.proofs.seed.seeds.Given as goal

-- the parts of the numbers so far
abbrev pub invariant-loop-index : goal.invariant-loop-index
invariant-loop-index l = l.parts ≡ seeds_to l.place l.snapshot l.index
