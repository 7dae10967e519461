use Rattle.reconfig.proofs.Faults.{cause_of, is_refused, has_none, view_begins}
use Rattle.reconfig.proofs.laws.a_change_is_refused_for_its_first_fault.Goals as goal

pub returns : goal.returns
returns c = record { cause = cause_of; refused = is_refused; without = has_none; begins = view_begins }
