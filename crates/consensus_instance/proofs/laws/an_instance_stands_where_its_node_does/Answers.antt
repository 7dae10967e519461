use Rattle.consensus_instance.proofs.Entries.{same_regency, same_start, same_synced, same_open, same_slot_open, same_bound, same_unbound}
use Rattle.consensus_instance.proofs.laws.an_instance_stands_where_its_node_does.Goals as goal

pub returns-clause-regency : goal.returns-clause-regency
returns-clause-regency g c = λ n i has. same_regency n i has

pub returns-clause-start : goal.returns-clause-start
returns-clause-start g c = λ n i has. same_start n i has

pub returns-clause-synced : goal.returns-clause-synced
returns-clause-synced g c = λ n i has. same_synced n i has

pub returns-clause-open : goal.returns-clause-open
returns-clause-open g c = λ n i has. same_open n i has

pub returns-clause-open_slot : goal.returns-clause-open_slot
returns-clause-open_slot g c = λ n i has. same_slot_open n i has

pub returns-clause-bound : goal.returns-clause-bound
returns-clause-bound g c = λ n i place has. same_bound n i has place

pub returns-clause-unbound : goal.returns-clause-unbound
returns-clause-unbound g c = λ n i p has. same_unbound n i has p
