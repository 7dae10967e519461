use Rattle.std.proofs.Common.{◌≡◌, ◌+◌, ◌-◌, ◌^◌, ◌++◌, length}
use Rattle.store_form.specs.declared.ends.State.TheVariants.{Open}
use Rattle.durable_store.specs.Disks.{AreSame, NoneFell, TimeWent}
use Rattle.durable_store.specs.Streams.{Opens, entries_to_come}
use Rattle.durable_store.proofs.reopening.read_entries.Given as goal

abbrev pub invariant-loop-entries : goal.invariant-loop-entries
invariant-loop-entries g l = record {
  is_open : l.opening.state ≡ Open;
  opens : g.D.Disk.told → Opens g.D.Disk.cells l.opening;
  came : g.D.Disk.told → entries_to_come g.D.Disk.cells l.fn.opening ≡ l.entries ++ entries_to_come g.D.Disk.cells l.opening;
  count : l.opening.reader.restored ≡ l.fn.opening.reader.restored + length l.entries;
  present : l.opening.present ≡ l.fn.opening.present;
  same : g.D.Disk.told → AreSame g.D.Disk.cells l.fn.opening.disks l.opening.disks;
  time : g.D.Disk.told → TimeWent g.D.Disk.moment g.D.Disk.left_since g.D.Disk.cells l.fn.opening.disks l.opening.disks;
  falls : NoneFell g.D.Disk.faults l.fn.opening.disks l.opening.disks;
  wants : NoneFell g.D.Disk.wants l.fn.opening.disks l.opening.disks;
}

abbrev pub decreases-loop-entries : goal.decreases-loop-entries
decreases-loop-entries g l = 2 ^ 64 - l.opening.reader.restored
