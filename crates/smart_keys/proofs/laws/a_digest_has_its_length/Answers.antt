use Rattle.smart_keys.proofs.Digests.{digest-length}
use Rattle.smart_keys.proofs.laws.a_digest_has_its_length.Goals as goal

pub returns : goal.returns
returns c = digest-length
