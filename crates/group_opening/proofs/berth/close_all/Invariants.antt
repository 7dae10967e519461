use Rattle.std.proofs.Common.{ℕ, ◌+◌, ◌≤◌, vec_len}
use Rattle.store_laws.specs.Restored.{Images}
use Rattle.group_opening.specs.Berths.{AllHeld, AllHold}
use Rattle.group_opening.specs.Rooms.{IsReturned}
use Rattle.group_opening.proofs.Opening.{AreHolding}
use Rattle.group_opening.proofs.Ranges.{change}
use Rattle.group_opening.proofs.berth.close_all.Given as goal

abbrev pub invariant-loop-berth : goal.invariant-loop-berth
invariant-loop-berth g l =
    let m = g.M.DiskRoom in record {
      held : AllHeld (m.taken l.room) g.M.Disk.Disk.faults l.dir 1 l.berths.items;
      few : vec_len l.berths ≤ vec_len l.fn.berths;
      holds : (images : ℕ → Images) → g.M.Disk.Disk.told → AllHold g.M.Disk.Disk.cells images 1 l.fn.berths.items → AreHolding g.M.Disk.Disk.cells images l.dir (m.cells l.room) (vec_len l.fn.berths) l.berths.items;
      later : m.faults l.initial.room ≤ m.faults l.room;
      returned : IsReturned l.dir (vec_len l.berths + 1) (vec_len l.fn.berths + 1) 4 (change (m.cells l.fn.room) (m.cells l.room) (m.taken l.fn.room) (m.taken l.room));
    }

abbrev pub decreases-loop-berth : goal.decreases-loop-berth
decreases-loop-berth g l = vec_len l.berths
