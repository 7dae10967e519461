use Rattle.store_laws.proofs.Restores.{next_restores}
use Rattle.store_laws.proofs.Goes.{own_leaves}
use Rattle.store_laws.proofs.laws.a_crash_leaves_a_store.Goals as goal

pub returns-clause-lives : goal.returns-clause-lives
returns-clause-lives c = own_leaves

pub returns-clause-either : goal.returns-clause-either
returns-clause-either c = λ s a own images may. next_restores images a.kept a.stake (own_leaves s a own images may)
