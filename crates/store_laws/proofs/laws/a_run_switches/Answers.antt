use Rattle.store_laws.proofs.SwitchRuns.{call_comes, call_restores, run_comes, run_goes, run_switches}
use Rattle.store_laws.proofs.laws.a_run_switches.Goals as goal

pub returns-clause-goes : goal.returns-clause-goes
returns-clause-goes c = λ stops from snapshot tail. call_comes from snapshot tail stops

pub returns-clause-leaves : goal.returns-clause-leaves
returns-clause-leaves c = λ stops from snapshot tail. call_restores from snapshot tail stops

pub returns-clause-comes : goal.returns-clause-comes
returns-clause-comes c = λ stops from snapshot tail. run_comes from snapshot tail stops

pub returns-clause-stays : goal.returns-clause-stays
returns-clause-stays c = λ stops from snapshot tail. run_goes from snapshot tail stops

pub returns-clause-ends : goal.returns-clause-ends
returns-clause-ends c = λ stops from snapshot tail. run_switches from snapshot tail stops
