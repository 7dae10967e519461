use Rattle.reconfig.proofs.Faults.{valid, number_is, start_is, faulty_is, members_are}
use Rattle.reconfig.proofs.laws.a_change_begins_the_next_view.Goals as goal

pub returns : goal.returns
returns c = record { valid = valid; number = number_is; start = start_is; faulty = faulty_is; members = members_are }
