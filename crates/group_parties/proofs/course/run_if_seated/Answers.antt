use Rattle.group_client.specs.Loops.{Output}
use Rattle.group_parties.proofs.Muted.{course-none}
use Rattle.group_parties.proofs.course.run_if_seated.Goals as goal

pub returns-then-not-seated-clause-made : goal.returns-then-not-seated-clause-made
returns-then-not-seated-clause-made g c =
    let out : Output = record { written = g.W.Sink.written c.args.output.now; faults = g.W.Sink.faults c.args.output.now; wants = g.W.Sink.wants c.args.output.now } in
    course-none (g.P.Owner.head 0) c.args.settings.now.asks c.args.settings.now.turns c.args.seat.now.client c.args.seat.now.journal.events.items out c.requires.fresh.1.1.0
