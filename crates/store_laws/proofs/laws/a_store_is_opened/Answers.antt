use Rattle.store_laws.proofs.Restores.{store_restores}
use Rattle.store_laws.proofs.Crashes.{empty_wire}
use Rattle.store_laws.proofs.Goes.{own_opened}
use Rattle.store_laws.proofs.laws.a_store_is_opened.Goals as goal

pub returns-clause-restores : goal.returns-clause-restores
returns-clause-restores c = store_restores

pub returns-clause-opened : goal.returns-clause-opened
returns-clause-opened c = own_opened

pub returns-clause-empty : goal.returns-clause-empty
returns-clause-empty c = empty_wire
