use Rattle.smart_keys.proofs.Tags.{is_tag-equal}
use Rattle.smart_keys.proofs.laws.no_other_tag_is_verified.Goals as goal

pub returns : goal.returns
returns c = is_tag-equal
