use Rattle.std.proofs.Common.{◌≡◌, ◌+◌, ◌-◌, ◌≤◌, cond}
use Rattle.log_stream.specs.Windows.{OnlyRead}
use Rattle.log_stream.specs.Stream.{Reads}
use Rattle.log_stream.proofs.reader.LogReader.next.Given as goal

abbrev pub invariant-loop-self : goal.invariant-loop-self
invariant-loop-self g l = record {
  reads : g.D.Disk.told → Reads (g.D.Disk.cells l.device).now l.self;
  restored : l.self.restored ≡ l.fn.self.restored;
  still : g.D.Disk.told → OnlyRead g.D.Disk.cells g.D.Disk.moment g.D.Disk.left_since l.fn.device l.device;
  faults : g.D.Disk.faults l.fn.device ≤ g.D.Disk.faults l.device;
  wants : g.D.Disk.wants l.fn.device ≤ g.D.Disk.wants l.device;
}

abbrev pub decreases-loop-self : goal.decreases-loop-self
decreases-loop-self g l = (l.self.length - l.self.end) + cond l.self.ended 0 1
