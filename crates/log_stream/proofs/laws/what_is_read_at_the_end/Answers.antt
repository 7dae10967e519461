use Rattle.log_stream.proofs.Places.{has_read}
use Rattle.log_stream.proofs.laws.what_is_read_at_the_end.Goals as goal

pub returns : goal.returns
returns c = λ bytes reader r ended. has_read bytes reader r (reader.over ended) ended
