use Rattle.request_pool.proofs.Sound.{sound_after, sound_settled}
use Rattle.request_pool.proofs.laws.a_pool_stays_sound.Goals as goal

pub returns-clause-offered : goal.returns-clause-offered
returns-clause-offered c = sound_after

pub returns-clause-settled : goal.returns-clause-settled
returns-clause-settled c = sound_settled
