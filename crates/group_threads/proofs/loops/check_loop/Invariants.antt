use Rattle.std.proofs.Common.{◌≤◌}
use Rattle.group_threads.proofs.loops.check_loop.Given as goal

abbrev pub invariant-loop : goal.invariant-loop
invariant-loop g l = l.fn.checker.last ≤ l.checker.last
