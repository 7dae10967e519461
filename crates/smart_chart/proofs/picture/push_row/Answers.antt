use Rattle.smart_chart.proofs.Pieces.{two}
use Rattle.smart_chart.proofs.picture.push_row.Goals as goal

pub returns : goal.returns
returns c = two _ _ _ _ _ c.in_ok-push_row_head.ensures c.in_ok-push_front.ensures
