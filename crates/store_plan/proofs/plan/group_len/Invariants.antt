use Rattle.std.specs.Prelude.{◌≡◌, ◌++◌, take, drop}
use Rattle.store_laws.specs.States.{group_of}
use Rattle.store_plan.proofs.plan.group_len.Given as goal

abbrev pub invariant-loop-i : goal.invariant-loop-i
invariant-loop-i g l = take l.i l.entries ++ group_of g.E.Stops.stops (drop l.i l.entries) ≡ group_of g.E.Stops.stops l.entries
