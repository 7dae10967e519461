use Rattle.frame_stream.proofs.Cutting.{one-cut, in-pieces}
use Rattle.frame_stream.proofs.laws.frames_are_those_of_all_bytes.Goals as goal

pub returns-clause-one : goal.returns-clause-one
returns-clause-one c = one-cut

pub returns-clause-pieces : goal.returns-clause-pieces
returns-clause-pieces c = in-pieces
