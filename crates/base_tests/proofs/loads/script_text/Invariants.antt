use Rattle.std.proofs.Common.{length}
use Rattle.base_tests.proofs.loads.script_text.Given as goal

-- the number of lines left falls
abbrev pub decreases-loop-line : goal.decreases-loop-line
decreases-loop-line l = length l.script
