use Rattle.world_laws.proofs.Rests.{rest_is_reached}
use Rattle.world_laws.proofs.rest.rest_is_reached.Goals as goal

pub returns : goal.returns
returns g c = λ f k w. rest_is_reached f k w
