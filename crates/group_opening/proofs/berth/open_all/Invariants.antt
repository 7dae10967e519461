use Rattle.std.proofs.Common.{◌≡◌, ◌≤◌, ◌<◌, ◌+◌, vec_len, vec_capacity}
use Rattle.disk_model.specs.Rooms.{Address}
use Rattle.member_opening.specs.Devices.{images_at}
use Rattle.group_opening.specs.Berths.{AllHeld, AllHold, AreBerths}
use Rattle.group_opening.specs.Rooms.{IsLent}
use Rattle.group_opening.proofs.Ranges.{change}
use Rattle.group_opening.proofs.berth.open_all.Given as goal

abbrev pub invariant-loop-before : goal.invariant-loop-before
invariant-loop-before g l =
    let d = g.M.Disk.Disk in record {
      berths : AreBerths g.S.Service.meaning d.told d.cells (λ member. images_at (g.M.DiskRoom.cells l.fn.room) l.group.dir member) l.group 1 l.berths.items;
      many : vec_len l.berths ≡ l.before;
      room : l.group.members ≤ vec_capacity l.berths;
      held : AllHeld (g.M.DiskRoom.taken l.room) d.faults l.group.dir 1 l.berths.items;
      hold : d.told → AllHold d.cells (λ member. images_at (g.M.DiskRoom.cells l.fn.room) l.group.dir member) 1 l.berths.items;
      kept : (other : Address) → l.before < other.member → g.M.DiskRoom.cells l.room other ≡ g.M.DiskRoom.cells l.fn.room other;
      later : g.M.DiskRoom.faults l.fn.room ≤ g.M.DiskRoom.faults l.room;
      lent : IsLent l.group.dir 1 (l.before + 1) 4 (change (g.M.DiskRoom.cells l.fn.room) (g.M.DiskRoom.cells l.room) (g.M.DiskRoom.taken l.fn.room) (g.M.DiskRoom.taken l.room));
    }
