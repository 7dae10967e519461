use Rattle.state_marks.proofs.Certified.{certified_exact, none_exact}
use Rattle.state_marks.proofs.laws.the_greatest_place_is_certified.Goals as goal

pub returns : goal.returns
returns c = record { some = certified_exact; none = none_exact }
