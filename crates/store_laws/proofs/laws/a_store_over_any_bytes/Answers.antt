use Rattle.store_laws.specs.Lives.{Either}
use Rattle.store_laws.specs.Stands.{AnyRests}
use Rattle.store_laws.proofs.Goes.{goes, sync_during, crash_during}
use Rattle.store_laws.proofs.Any.{any_still}
use Rattle.store_laws.proofs.AnyGoes.{any_opened, any_leaves, any_begins}
use Rattle.store_laws.proofs.laws.a_store_over_any_bytes.Goals as goal

pub returns-clause-opened : goal.returns-clause-opened
returns-clause-opened c = any_opened

pub returns-clause-crash : goal.returns-clause-crash
returns-clause-crash c = any_leaves

pub returns-clause-during : goal.returns-clause-during
returns-clause-during c = crash_during Either AnyRests any_still

pub returns-clause-sync : goal.returns-clause-sync
returns-clause-sync c = sync_during Either AnyRests

pub returns-clause-begins : goal.returns-clause-begins
returns-clause-begins c = any_begins

pub returns-clause-goes : goal.returns-clause-goes
returns-clause-goes c = goes Either AnyRests
