use Rattle.world_laws.proofs.Rests.{rest_is_kept}
use Rattle.world_laws.proofs.rest.rest_is_kept.Goals as goal

pub returns : goal.returns
returns g c = λ f w. rest_is_kept f w
