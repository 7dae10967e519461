use Rattle.reconfig.proofs.ViewLists.{numbered, all_spent, some_left}
use Rattle.reconfig.proofs.laws.views_are_numbered_from_0.Goals as goal

pub returns : goal.returns
returns c = record { next = numbered; spent = all_spent; left = some_left }
