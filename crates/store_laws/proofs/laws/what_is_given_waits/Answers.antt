use Rattle.store_laws.proofs.Given.{own_given, own_asked, any_given, any_asked}
use Rattle.store_laws.proofs.laws.what_is_given_waits.Goals as goal

pub returns-clause-given : goal.returns-clause-given
returns-clause-given c = own_given

pub returns-clause-asked : goal.returns-clause-asked
returns-clause-asked c = own_asked

pub returns-clause-any_given : goal.returns-clause-any_given
returns-clause-any_given c = any_given

pub returns-clause-any_asked : goal.returns-clause-any_asked
returns-clause-any_asked c = any_asked
