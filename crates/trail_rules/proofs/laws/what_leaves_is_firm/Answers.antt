use Rattle.trail_rules.proofs.Grows.{need-firm}
use Rattle.trail_rules.proofs.laws.what_leaves_is_firm.Goals as goal

pub returns : goal.returns
returns g c = need-firm
