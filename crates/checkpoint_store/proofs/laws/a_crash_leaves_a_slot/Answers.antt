use Rattle.checkpoint_store.proofs.Phases.{leaves}
use Rattle.checkpoint_store.proofs.laws.a_crash_leaves_a_slot.Goals as goal

pub returns : goal.returns
returns c = leaves
