use Rattle.node_laws.proofs.Resting.{certified_exact}
use Rattle.node_laws.proofs.Damage.{all_certified, back, begun, decoded, first_exact, fits, in_turn, lawful, placed, read, rest, within}
use Rattle.node_laws.proofs.laws.what_is_undamaged_is_lawful.Goals as goal

pub returns-clause-decoded : goal.returns-clause-decoded
returns-clause-decoded c = λ secret opening g restored none. decoded secret opening g restored none

pub returns-clause-read : goal.returns-clause-read
returns-clause-read c = λ secret opening g restored bytes none. read secret opening g restored bytes none

pub returns-clause-fits : goal.returns-clause-fits
returns-clause-fits c = λ secret opening g restored bytes none. fits secret opening g restored bytes none

pub returns-clause-begun : goal.returns-clause-begun
returns-clause-begun c = λ secret opening g restored none. begun secret opening g restored none

pub returns-clause-lawful : goal.returns-clause-lawful
returns-clause-lawful c = λ secret opening g restored none. lawful secret opening g restored none

pub returns-clause-rest : goal.returns-clause-rest
returns-clause-rest c = λ secret opening g restored none. rest secret opening g restored none

pub returns-clause-certified : goal.returns-clause-certified
returns-clause-certified c = λ secret opening g restored none. all_certified secret opening g restored none

pub returns-clause-exact : goal.returns-clause-exact
returns-clause-exact c = λ secret views e. certified_exact secret views e

pub returns-clause-back : goal.returns-clause-back
returns-clause-back c = λ secret opening g entries fit begins laws all. back secret opening g entries fit begins laws all

pub returns-clause-first : goal.returns-clause-first
returns-clause-first c = λ secret opening g restored number. first_exact secret opening g restored number

pub returns-clause-within : goal.returns-clause-within
returns-clause-within c = λ secret opening g restored number some. within secret opening g restored number some

pub returns-clause-turn : goal.returns-clause-turn
returns-clause-turn c = λ secret opening g restored none. in_turn secret opening g restored none

pub returns-clause-placed : goal.returns-clause-placed
returns-clause-placed c = λ secret views d rest. placed secret views d rest
