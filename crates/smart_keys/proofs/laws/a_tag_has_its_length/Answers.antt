use Rattle.smart_keys.proofs.Tags.{tag_of-length}
use Rattle.smart_keys.proofs.laws.a_tag_has_its_length.Goals as goal

pub returns : goal.returns
returns c = tag_of-length
