use Rattle.store_laws.proofs.Moments.{own_call_goes, own_call_leaves, own_call_restores, any_call_goes, any_call_leaves}
use Rattle.store_laws.proofs.laws.a_crash_at_any_moment.Goals as goal

pub returns-clause-goes : goal.returns-clause-goes
returns-clause-goes c = own_call_goes

pub returns-clause-leaves : goal.returns-clause-leaves
returns-clause-leaves c = own_call_leaves

pub returns-clause-restores : goal.returns-clause-restores
returns-clause-restores c = own_call_restores

pub returns-clause-any_goes : goal.returns-clause-any_goes
returns-clause-any_goes c = any_call_goes

pub returns-clause-any_restores : goal.returns-clause-any_restores
returns-clause-any_restores c = any_call_leaves
