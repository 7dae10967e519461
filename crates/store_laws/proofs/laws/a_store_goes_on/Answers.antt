use Rattle.store_laws.specs.Lives.{StoreNext}
use Rattle.store_laws.specs.Stands.{OwnRests}
use Rattle.store_laws.proofs.Goes.{own_begins, goes}
use Rattle.store_laws.proofs.laws.a_store_goes_on.Goals as goal

pub returns-clause-begins : goal.returns-clause-begins
returns-clause-begins c = own_begins

pub returns-clause-goes : goal.returns-clause-goes
returns-clause-goes c = goes StoreNext OwnRests
