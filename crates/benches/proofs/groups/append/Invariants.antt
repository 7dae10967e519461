use Rattle.batch_log.specs.Jobs.{IsIdle, IsUnderWay}
use Rattle.benches.proofs.groups.append.Given as goal

abbrev pub invariant-loop : goal.invariant-loop
invariant-loop g l = record {
  idle : IsIdle l.log.job;
  stands : g.D.Disk.told → IsUnderWay (g.D.Disk.cells l.log.device) l.log.end l.log.job;
}
