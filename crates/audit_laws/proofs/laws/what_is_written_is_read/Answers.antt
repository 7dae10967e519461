use Rattle.audit_laws.proofs.Rereading.{written-read}
use Rattle.audit_laws.proofs.laws.what_is_written_is_read.Goals as goal

pub returns : goal.returns
returns c = written-read
