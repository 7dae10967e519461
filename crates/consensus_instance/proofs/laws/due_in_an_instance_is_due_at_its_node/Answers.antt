use Rattle.consensus_instance.proofs.Entries.{due_write, due_accept}
use Rattle.consensus_instance.proofs.laws.due_in_an_instance_is_due_at_its_node.Goals as goal

pub returns-clause-write : goal.returns-clause-write
returns-clause-write g c = λ n i has. due_write n i has

pub returns-clause-accept : goal.returns-clause-accept
returns-clause-accept g c = λ n i has. due_accept n i has
