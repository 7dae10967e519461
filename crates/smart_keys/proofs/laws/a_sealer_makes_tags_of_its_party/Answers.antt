use Rattle.smart_keys.proofs.Tags.{tag_of-key_of}
use Rattle.smart_keys.proofs.laws.a_sealer_makes_tags_of_its_party.Goals as goal

pub returns : goal.returns
returns c = tag_of-key_of
