use Rattle.store_laws.specs.Asked.{IsOneOf}
use Rattle.store_laws.proofs.Asked.{snapshots_opened, snapshots_called, snapshots_given, snapshots_asked, snapshots_left}
use Rattle.store_laws.proofs.laws.a_store_keeps_what_was_asked.Goals as goal

pub returns-clause-opened : goal.returns-clause-opened
returns-clause-opened c = λ all. snapshots_opened (IsOneOf all)

pub returns-clause-called : goal.returns-clause-called
returns-clause-called c = λ all. snapshots_called (IsOneOf all)

pub returns-clause-given : goal.returns-clause-given
returns-clause-given c = λ all. snapshots_given (IsOneOf all)

pub returns-clause-asked : goal.returns-clause-asked
returns-clause-asked c = λ all. snapshots_asked (IsOneOf all)

pub returns-clause-left : goal.returns-clause-left
returns-clause-left c = λ all. snapshots_left (IsOneOf all)
