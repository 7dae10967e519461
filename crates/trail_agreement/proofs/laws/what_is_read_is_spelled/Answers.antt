use Rattle.trail_agreement.proofs.Reading.{are_spelled}
use Rattle.trail_agreement.proofs.laws.what_is_read_is_spelled.Goals as goal

pub returns : goal.returns
returns c = are_spelled
