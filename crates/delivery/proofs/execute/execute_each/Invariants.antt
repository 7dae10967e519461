use Rattle.std.proofs.Common.{◌≡◌, ◌++◌, drop}
use Rattle.replica_rules.specs.Replicas.{execute_all, lines_of}
use Rattle.delivery.specs.Moves.{IsMoved}
use Rattle.delivery.proofs.execute.execute_each.Given as goal

-- what was executed so far and what is left are all
abbrev pub invariant-loop-i : goal.invariant-loop-i
invariant-loop-i g l = record {
  state : execute_all g.S.Service.meaning l.replica l.i (drop l.i l.batch) ≡ execute_all g.S.Service.meaning l.fn.replica 0 l.batch;
  place : l.replica.place ≡ l.fn.replica.place;
  valid : g.S.Service.valid l.fn.replica.service → g.S.Service.valid l.replica.service;
  lines : l.lines ++ lines_of g.S.Service.meaning l.replica l.i (drop l.i l.batch) ≡ lines_of g.S.Service.meaning l.fn.replica 0 l.batch;
  moved : IsMoved l.fn.replica.views l.replica.views l.moved;
}
