use Rattle.smart_keys.proofs.Tags.{is_tag-hmac}
use Rattle.smart_keys.proofs.laws.what_a_sealer_makes_is_verified.Goals as goal

pub returns : goal.returns
returns c = is_tag-hmac
