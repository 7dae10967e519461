use Rattle.smart_chart.proofs.Pieces.{two}
use Rattle.smart_chart.proofs.picture.push_label.Goals as goal

pub returns : goal.returns
returns c = two _ _ _ _ _ c.in_ok-push_label_head.ensures (rw c.as_bytes.ensures.value at c.in_ok-push_front.ensures)
