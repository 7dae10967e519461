use Rattle.std.proofs.Common.{take}
use Rattle.std.specs.List.{All}
use Rattle.group_parties.specs.Manned.{IsWholeDesk}
use Rattle.group_parties.proofs.running.are_whole.Given as goal

abbrev pub invariant-loop-runner : goal.invariant-loop-runner
invariant-loop-runner g l = All (λ r. IsWholeDesk r.desk) (take l.runner-index l.runners)
