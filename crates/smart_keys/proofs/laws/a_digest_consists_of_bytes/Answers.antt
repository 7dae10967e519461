use Rattle.smart_keys.proofs.Digests.{digest-bytes}
use Rattle.smart_keys.proofs.laws.a_digest_consists_of_bytes.Goals as goal

pub returns : goal.returns
returns c = digest-bytes
