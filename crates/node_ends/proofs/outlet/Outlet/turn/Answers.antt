use Rattle.node_ends.proofs.Written.{writes-none, writes-one}
use Rattle.node_ends.proofs.outlet.Outlet.turn.Goals as goal

pub returns-in_default-clause-wrote : goal.returns-in_default-clause-wrote
returns-in_default-clause-wrote g c = writes-none _ _ _ _ c.in_default.ensures.taken.0

pub returns-in-Ok-clause-wrote : goal.returns-in-Ok-clause-wrote
returns-in-Ok-clause-wrote g c =
    writes-one _ _ _ _ c.in-Some.payload c.in-Some.ensures.taken (rw c.as_slice.ensures at c.in-Ok.ensures.ok)
