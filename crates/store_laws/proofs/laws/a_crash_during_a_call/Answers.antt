use Rattle.store_laws.specs.Lives.{StoreNext}
use Rattle.store_laws.specs.Stands.{OwnRests}
use Rattle.store_laws.proofs.Goes.{sync_during, crash_during, own_still}
use Rattle.store_laws.proofs.laws.a_crash_during_a_call.Goals as goal

pub returns-clause-during : goal.returns-clause-during
returns-clause-during c = crash_during StoreNext OwnRests own_still

pub returns-clause-sync : goal.returns-clause-sync
returns-clause-sync c = sync_during StoreNext OwnRests
