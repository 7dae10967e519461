use Rattle.smart_view.proofs.Faults.{f_past_10}
use Rattle.smart_view.proofs.laws.no_view_bears_more_than_10_faults.Goals as goal

pub returns : goal.returns
returns c = f_past_10
