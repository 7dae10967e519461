use Rattle.node_rules.proofs.Entries.{few_by_step, few_by_core}
use Rattle.node_laws.proofs.laws.an_event_makes_few_entries.Goals as goal

pub returns-clause-node : goal.returns-clause-node
returns-clause-node g c = λ m n event. few_by_step m n event

pub returns-clause-core : goal.returns-clause-core
returns-clause-core g c = λ m core event. few_by_core m core event
