use Rattle.store_laws.proofs.Restores.{next_restores}
use Rattle.store_laws.proofs.Goes.{own_leaves}
use Rattle.store_laws.proofs.Aims.{switching_begins, switching_goes, either_new}
use Rattle.store_laws.proofs.laws.a_switch_keeps_or_gives.Goals as goal

pub returns-clause-begins : goal.returns-clause-begins
returns-clause-begins c = switching_begins

pub returns-clause-goes : goal.returns-clause-goes
returns-clause-goes c = switching_goes

pub returns-clause-crash : goal.returns-clause-crash
returns-clause-crash c = λ kept next s a w own images may. either_new kept next a images w (next_restores images a.kept a.stake (own_leaves s a own images may))
