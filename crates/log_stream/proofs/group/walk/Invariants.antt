use Rattle.std.proofs.Common.{◌+◌, ◌*◌, ◌≤◌}
use Rattle.log_stream.specs.Windows.{OnlyRead, Shows}
use Rattle.log_stream.proofs.Walks.{Come}
use Rattle.log_stream.proofs.group.walk.Given as goal

abbrev pub invariant-loop-left : goal.invariant-loop-left
invariant-loop-left g l = record {
  order : l.at ≤ l.to;
  far : l.start + 4 * l.count ≤ l.at + 4 * l.left;
  come : g.D.Disk.told → Come (g.D.Disk.cells l.fn.device).now l.start l.at l.count l.left;
  shows : g.D.Disk.told → Shows (g.D.Disk.cells l.device).now l.window;
  still : g.D.Disk.told → OnlyRead g.D.Disk.cells g.D.Disk.moment g.D.Disk.left_since l.fn.device l.device;
  faults : g.D.Disk.faults l.fn.device ≤ g.D.Disk.faults l.device;
  wants : g.D.Disk.wants l.fn.device ≤ g.D.Disk.wants l.device;
}

abbrev pub decreases-loop-left : goal.decreases-loop-left
decreases-loop-left g l = l.left
