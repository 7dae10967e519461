use Rattle.std.proofs.Common.{◌≡◌, None, length}
use Rattle.smart_top.proofs.Loading.{LeadsOn}
use Rattle.smart_top.proofs.load.play_load.Given as goal

-- no line was refused, and the lines that are left lead to the end of the load
abbrev pub invariant-taking : goal.invariant-taking
invariant-taking l =
    record {
      going : l.script.refused ≡ None;
      leads : LeadsOn l.fn.count l.script l.lines;
    }

abbrev pub decreases-taking : goal.decreases-taking
decreases-taking l = length l.lines
