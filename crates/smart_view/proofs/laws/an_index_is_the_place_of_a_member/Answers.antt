use Rattle.smart_view.proofs.Members.{index_of-cases}
use Rattle.smart_view.proofs.laws.an_index_is_the_place_of_a_member.Goals as goal

pub returns : goal.returns
returns c = index_of-cases
