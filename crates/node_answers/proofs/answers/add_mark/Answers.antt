use Rattle.node_answers.specs.Answering.{made_past}
use Rattle.node_answers.proofs.Answering.{added_none}
use Rattle.node_answers.proofs.answers.add_mark.Goals as goal

pub returns-then-skipped-gt0-clause-found : goal.returns-then-skipped-gt0-clause-found
returns-then-skipped-gt0-clause-found c =
    added_none c.args.found.now (made_past c.args.place c.args.entry.now) c.in-Some.mark.now c.args.skipped c.in-Some.ensures c.if-skipped-gt0.true
