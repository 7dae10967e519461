use Rattle.std.proofs.Common.{◌≡◌}
use Rattle.group_links.specs.Link.{in_link}
use Rattle.lane_tests.proofs.links.send_all.Given as goal

abbrev pub invariant-loop : goal.invariant-loop
invariant-loop g l = in_link l.inward ≡ in_link l.initial.inward
