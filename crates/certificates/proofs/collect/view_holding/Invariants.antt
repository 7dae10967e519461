use Rattle.std.specs.Option.{option_copied}
use Rattle.certificates.proofs.Reported.{Found}
use Rattle.certificates.proofs.collect.view_holding.Given as goal

-- the view is the last of those left that start in time, else the last one found
abbrev pub invariant-loop-view : goal.invariant-loop-view
invariant-loop-view l = Found l.views l.place l.view-index (option_copied l.found)
