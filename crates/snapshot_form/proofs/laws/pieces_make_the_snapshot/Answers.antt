use Rattle.snapshot_form.proofs.Joined.{all_joined}
use Rattle.snapshot_form.proofs.laws.pieces_make_the_snapshot.Goals as goal

pub returns : goal.returns
returns c = all_joined
