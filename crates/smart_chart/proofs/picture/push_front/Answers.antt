use Rattle.smart_chart.proofs.Pieces.{two}
use Rattle.smart_chart.proofs.picture.push_front.Goals as goal

pub returns : goal.returns
returns c = two _ _ _ _ _ (rw c.front_of.ensures at c.in_ok-push_text.ensures) c.in_ok-push_str.ensures.bytes
