use Rattle.checkpoint_store.proofs.Resting.{idle_settled}
use Rattle.checkpoint_store.proofs.laws.nothing_is_pending.Goals as goal

pub returns : goal.returns
returns c = idle_settled
