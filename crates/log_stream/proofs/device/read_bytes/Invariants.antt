use Rattle.std.proofs.Common.{◌≡◌, ◌-◌, ◌≤◌, take, drop}
use Rattle.log_stream.specs.Windows.{OnlyRead}
use Rattle.log_stream.proofs.device.read_bytes.Given as goal

abbrev pub invariant-loop-done : goal.invariant-loop-done
invariant-loop-done g l = record {
  within : l.done ≤ l.count;
  read : g.D.Disk.told → l.bytes.items ≡ take l.done (drop l.at (g.D.Disk.cells l.fn.device).now);
  still : g.D.Disk.told → OnlyRead g.D.Disk.cells g.D.Disk.moment g.D.Disk.left_since l.fn.device l.device;
  faults : g.D.Disk.faults l.fn.device ≤ g.D.Disk.faults l.device;
  wants : g.D.Disk.wants l.fn.device ≤ g.D.Disk.wants l.device;
}

abbrev pub decreases-loop-done : goal.decreases-loop-done
decreases-loop-done g l = l.count - l.done
