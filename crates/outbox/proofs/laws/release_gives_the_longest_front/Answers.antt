use Rattle.outbox.proofs.Releases.{given_all, left_all, ends_all, longest_all}
use Rattle.outbox.proofs.laws.release_gives_the_longest_front.Goals as goal

pub returns-clause-given : goal.returns-clause-given
returns-clause-given c = given_all

pub returns-clause-rest : goal.returns-clause-rest
returns-clause-rest c = left_all

pub returns-clause-ends : goal.returns-clause-ends
returns-clause-ends c = ends_all

pub returns-clause-longest : goal.returns-clause-longest
returns-clause-longest c = longest_all
