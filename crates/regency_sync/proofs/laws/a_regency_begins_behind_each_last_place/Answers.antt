use Rattle.std.proofs.Common.{◌+◌, refl, arith}
use Rattle.regency_sync.specs.Choices.{greatest_last, choice}
use Rattle.regency_sync.proofs.Choices.{last_above, last_least}
use Rattle.regency_sync.proofs.laws.a_regency_begins_behind_each_last_place.Goals as goal

pub returns-clause-above : goal.returns-clause-above
unfolding choice
returns-clause-above c = λ reports. last_above reports (greatest_last reports + 1) (omega arith)

pub returns-clause-least : goal.returns-clause-least
unfolding choice
returns-clause-least c = λ reports place some all. last_least reports place some all

pub returns-clause-none : goal.returns-clause-none
unfolding choice
returns-clause-none c = refl
