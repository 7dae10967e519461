use Rattle.std.proofs.Common.{◌≡◌, ◌≤◌, true}
use Rattle.group_links.specs.Link.{link_heard_put, out_link}
use Rattle.node_ends.specs.Outlets.{Writes}
use Rattle.node_ends.proofs.outlet.Outlet.drain.Given as goal

abbrev pub invariant-loop : goal.invariant-loop
invariant-loop g l = record {
  link : out_link l.self.link ≡ out_link l.fn.self.link;
  heard : link_heard_put l.self.link ≡ link_heard_put l.fn.self.link;
  wrote : Writes (g.O.Sink.written l.fn.output) (g.O.Sink.written l.output) true l.fn.self l.self;
  later : g.O.Sink.faults l.fn.output ≤ g.O.Sink.faults l.output;
}
