use Rattle.std.proofs.Common.{◌≡◌}
use Rattle.group_links.specs.Link.{out_link}
use Rattle.lane_tests.proofs.links.poll_all.Given as goal

abbrev pub invariant-loop : goal.invariant-loop
invariant-loop g l = out_link l.outward ≡ out_link l.initial.outward
