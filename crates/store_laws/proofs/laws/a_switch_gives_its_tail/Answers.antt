use Rattle.store_laws.proofs.Tails.{tail_begins, tail_goes, tail_ends, tail_crash, tail_during, switched_crash}
use Rattle.store_laws.proofs.laws.a_switch_gives_its_tail.Goals as goal

pub returns-clause-begins : goal.returns-clause-begins
returns-clause-begins c = tail_begins

pub returns-clause-goes : goal.returns-clause-goes
returns-clause-goes c = tail_goes

pub returns-clause-ends : goal.returns-clause-ends
returns-clause-ends c = tail_ends

pub returns-clause-crash : goal.returns-clause-crash
returns-clause-crash c = tail_crash

pub returns-clause-during : goal.returns-clause-during
returns-clause-during c = λ kept next before s a tail call left fits w runs images may. tail_during kept next before s a tail call images left fits w runs may

pub returns-clause-after : goal.returns-clause-after
returns-clause-after c = switched_crash
