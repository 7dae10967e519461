use Rattle.smart_keys.proofs.Tags.{is_tag-tag_of}
use Rattle.smart_keys.proofs.laws.a_made_tag_is_verified.Goals as goal

pub returns : goal.returns
returns c = is_tag-tag_of
