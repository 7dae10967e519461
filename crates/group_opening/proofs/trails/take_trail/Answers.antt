use Rattle.group_opening.proofs.trails.take_trail.Goals as goal

pub returns-in-Ok-clause-headed : goal.returns-in-Ok-clause-headed
returns-in-Ok-clause-headed g c = record {
  held = record { before = g.T.Sink.Sink.faults c.in_ok-sink.sink; is = c.in_ok-sink.ensures.taken; later = c.write_head.ensures.cause.later };
  begun = c.in_ok-sink.sink;
  empty = c.in_ok-sink.ensures.empty;
  text = c.in-Ok.ensures.ok;
}
