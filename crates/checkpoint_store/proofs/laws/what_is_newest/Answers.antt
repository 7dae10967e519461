use Rattle.std.proofs.Common.{refl}
use Rattle.checkpoint_store.specs.Slots.{is_odd}
use Rattle.checkpoint_store.proofs.Newest.{open_newest, closed_newest, greatest}
use Rattle.checkpoint_store.proofs.laws.what_is_newest.Goals as goal

pub returns-clause-open : goal.returns-clause-open
returns-clause-open c = λ x own other. open_newest (is_odd x.generation) x own other refl

pub returns-clause-closed : goal.returns-clause-closed
returns-clause-closed c = λ generation. closed_newest (is_odd generation)

pub returns-clause-greatest : goal.returns-clause-greatest
returns-clause-greatest c = greatest
