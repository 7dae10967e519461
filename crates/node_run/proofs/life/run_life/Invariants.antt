use Rattle.log_lane.specs.Lane.{in_lane}
use Rattle.group_links.specs.Link.{in_link}
use Rattle.node_run.proofs.life.run_life.Given as goal

abbrev pub ghosts-run_named : goal.ghosts-run_named
ghosts-run_named g a = record {
  lane = in_lane a.wires.lane_in;
  restored = a.store.plan.restored;
  opening = λ _. a.core.node;
  arriving = in_link a.wires.arriving_in;
  leaving = in_link a.wires.leaving_in;
  head = a.head.now;
  entries = a.entries.now;
  begun = g.O.Sink.written a.sink;
  failures = g.O.Sink.faults a.sink;
}
