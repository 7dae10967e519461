use Rattle.std.proofs.Common.{◌≡◌, ◌+◌, length}
use Rattle.benches.proofs.bytes.proposal.Given as goal

-- a request stands for each number so far
abbrev pub invariant-loop-number : goal.invariant-loop-number
invariant-loop-number l = length l.list + 1 ≡ l.number
