use Rattle.std.proofs.Common.{◌≡◌, drop}
use Rattle.node_rules.specs.Transfers.{go_on}
use Rattle.node_replica.proofs.install.go_on.Given as goal

-- what is left goes on exactly where all does
abbrev pub invariant-loop-i : goal.invariant-loop-i
invariant-loop-i l = go_on l.place (drop l.i l.known) (drop l.i l.views) ≡ go_on l.place l.known l.views
