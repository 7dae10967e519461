use Rattle.checkpoint_store.proofs.Resting.{may_fill, may_open, closed_nothing}
use Rattle.checkpoint_store.proofs.laws.what_may_be_filled_and_opened.Goals as goal

pub returns-clause-shut : goal.returns-clause-shut
returns-clause-shut c = may_fill

pub returns-clause-full : goal.returns-clause-full
returns-clause-full c = λ odd cells next has other s. may_open odd cells next s.0

pub returns-clause-closed : goal.returns-clause-closed
returns-clause-closed c = closed_nothing
