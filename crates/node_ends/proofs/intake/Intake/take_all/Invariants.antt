use Rattle.std.proofs.Common.{◌≡◌, ◌≤◌, false}
use Rattle.group_links.specs.Link.{in_link}
use Rattle.node_ends.specs.Intakes.{Reads}
use Rattle.node_ends.proofs.intake.Intake.take_all.Given as goal

abbrev pub invariant-loop : goal.invariant-loop
invariant-loop g l = record {
  link : in_link l.self.link ≡ in_link l.fn.self.link;
  reads : Reads (g.I.Source.left l.fn.input) (g.I.Source.left l.input) false l.fn.self l.self;
  later : g.I.Source.faults l.fn.input ≤ g.I.Source.faults l.input;
}
