use Rattle.group_wires.proofs.Apart.{all-apart, members-apart}
use Rattle.group_wires.proofs.laws.ends_are_apart.Goals as goal

pub returns-clause-all : goal.returns-clause-all
returns-clause-all c = all-apart

pub returns-clause-others : goal.returns-clause-others
returns-clause-others c = members-apart
