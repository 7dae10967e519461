use Rattle.std.proofs.Common.{◌∙◌}
use Rattle.node_answers.proofs.Answering.{counted}
use Rattle.node_answers.proofs.answers.count_past.Goals as goal

pub returns : goal.returns
returns c = c.count_made.ensures ∙ counted c.args.place c.args.entries.now
