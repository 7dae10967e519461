use Rattle.group_wires.proofs.Came.{came-of}
use Rattle.group_wires.proofs.laws.what_comes_was_sent.Goals as goal

pub returns : goal.returns
returns c = came-of
