use Rattle.trail_agreement.proofs.Apps.{one_list, one_list_but}
use Rattle.trail_agreement.proofs.laws.recorded_runs_deliver_one_list.Goals as goal

pub returns : goal.returns
returns c = record { all = one_list; excused = one_list_but }
