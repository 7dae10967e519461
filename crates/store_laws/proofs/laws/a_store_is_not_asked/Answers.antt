use Rattle.std.proofs.Common.{refl}
use Rattle.store_laws.specs.Lives.{no_bytes}
use Rattle.store_laws.proofs.Unswitched.{unswitched_opened, unswitched_called, unswitched_given, unswitched_crash, unswitched_spells, nothing_at_rest}
use Rattle.store_laws.proofs.laws.a_store_is_not_asked.Goals as goal

pub returns-clause-opened : goal.returns-clause-opened
returns-clause-opened c = unswitched_opened no_bytes refl refl refl

pub returns-clause-called : goal.returns-clause-called
returns-clause-called c = unswitched_called

pub returns-clause-given : goal.returns-clause-given
returns-clause-given c = unswitched_given

pub returns-clause-crash : goal.returns-clause-crash
returns-clause-crash c = unswitched_crash

pub returns-clause-spells : goal.returns-clause-spells
returns-clause-spells c = unswitched_spells

pub returns-clause-rests : goal.returns-clause-rests
returns-clause-rests c = nothing_at_rest
