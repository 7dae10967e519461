use Rattle.state_transfer.proofs.Whole.{given_wanted}
use Rattle.state_transfer.proofs.laws.what_a_seeder_gives_is_wanted.Goals as goal

pub returns : goal.returns
returns c = given_wanted
