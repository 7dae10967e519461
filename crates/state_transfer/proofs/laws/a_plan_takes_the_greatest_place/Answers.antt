use Rattle.state_transfer.proofs.Plans.{is_plan, is_none_enough, numbers_are}
use Rattle.state_transfer.proofs.laws.a_plan_takes_the_greatest_place.Goals as goal

pub returns : goal.returns
returns c = record { some = is_plan; none = is_none_enough; numbers = numbers_are }
