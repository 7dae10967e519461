use Rattle.std.proofs.Common.{◌≤◌}
use Rattle.durable_store.specs.Disks.{NoneFell}
use Rattle.log_lane.specs.Lane.{lane_taken}
use Rattle.group_threads.specs.Desks.{MayWork}
use Rattle.node_endings.specs.Rounds.{RoundsOf}
use Rattle.group_threads.proofs.loops.log_loop.Given as goal

abbrev pub invariant-loop : goal.invariant-loop
invariant-loop g l = record {
  work : MayWork g.D.Disk.told g.D.Disk.cells l.worker.faulty l.worker.store;
  rose : l.fn.worker.store.plan.firm ≤ l.worker.store.plan.firm;
  later : NoneFell g.D.Disk.faults l.fn.worker.store.disks l.worker.store.disks;
  rounds : RoundsOf g.D.Disk.told g.D.Disk.remembers g.D.Disk.cells g.D.Disk.moment g.D.Disk.left_since g.E.Stops.stops g.S.Service.meaning (g.P.GroupLife.opening g.M.Numbered.number) g.H.Home.restored l.worker.faulty (lane_taken l.fn.worker.lane) (lane_taken l.worker.lane) l.fn.worker.store l.worker.store;
}
