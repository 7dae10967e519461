use Rattle.member_store.proofs.Fronts.{front_count}
use Rattle.member_store.proofs.laws.a_front_is_counted.Goals as goal

pub returns : goal.returns
returns c = front_count
