use Rattle.std.proofs.Common.{◌≡◌, ◌∙◌, refl, sym}
use Rattle.disk_model.specs.Cells.{Cells}
use Rattle.durable_store.specs.Disks.{contents}
use Rattle.member_opening.specs.Devices.{images_at}
use Rattle.durable_store.proofs.Faults.{rose_after}
use Rattle.member_opening.specs.Rooms.{Room}
use Rattle.node_run.specs.Members.{KeepsRoom, Run}
use Rattle.node_run.specs.declared.status.NodeStatus.TheVariants as ends
use Rattle.node_run.proofs.Refused.{for-room, room-else, room-failed}
use Rattle.member_opening.proofs.Held.{held-still}
use Rattle.node_run.proofs.Running.{keeps-room, not-had, run-end}
use Rattle.node_run.proofs.member.run_member.Goals as goal

pub put_back-requires : goal.put_back-requires
put_back-requires g c = held-still _ _ _ _ _ _ c.in-Ok.ensures.held c.over_disks-disks.ensures.later

-- ---- a run over devices that were taken

pub returns-in-Ok-clause-ended : goal.returns-in-Ok-clause-ended
returns-in-Ok-clause-ended g c =
    let r : Run g.row.S.Denot =
    record {
      meaning = g.S.Service.meaning;
      settings = c.args.settings.now;
      disk = g.row.M-Disk.Denot;
      told = g.M.Disk.Disk.told;
      remembers = g.M.Disk.Disk.remembers;
      cells = g.M.Disk.Disk.cells;
      moment = g.M.Disk.Disk.moment;
      left_since = g.M.Disk.Disk.left_since;
      images = contents g.M.Disk.Disk.cells c.in-Ok.disks;
      left_before = g.I.Source.left c.args.input.now;
      left_after = g.I.Source.left c.over_disks-disks.new.input;
      written_before = g.W.Sink.written c.args.output.now;
      written_after = g.W.Sink.written c.over_disks-disks.new.output;
      sink = g.row.T-Sink.Denot;
      text_of = g.T.Sink.Sink.written;
      trails = record {
        before = g.T.TrailRoom.kept c.args.trails.now;
        after = g.T.TrailRoom.kept c.over_disks-disks.new.trails;
        taken_before = g.T.TrailRoom.taken c.args.trails.now;
        taken_after = g.T.TrailRoom.taken c.over_disks-disks.new.trails;
      };
    } in
    let room : Room Cells =
    record {
      before = g.M.DiskRoom.cells c.args.room.now;
      after = g.M.DiskRoom.cells c.put_back.new.room;
      taken_before = g.M.DiskRoom.taken c.args.room.now;
      taken_after = g.M.DiskRoom.taken c.put_back.new.room;
    } in
    let had : g.M.Disk.Disk.told → contents g.M.Disk.Disk.cells c.in-Ok.disks ≡ images_at (g.M.DiskRoom.cells c.args.room.now) c.args.settings.now.dir c.args.settings.now.member = rw c.as_slice-dir.ensures at c.in-Ok.ensures.contents in
    let keeps = keeps-room c.args.settings.now (g.M.DiskRoom.cells c.args.room.now) (g.M.DiskRoom.cells c.take_devices.new.room) (g.M.DiskRoom.cells c.put_back.new.room)
    (g.M.DiskRoom.taken c.args.room.now) (g.M.DiskRoom.taken c.take_devices.new.room) (g.M.DiskRoom.taken c.put_back.new.room)
    (rw c.as_slice-dir.ensures at c.in-Ok.ensures.beside) (rw c.as_slice-dir.ensures at c.put_back.ensures.beside)
    (rw c.as_slice-dir.ensures at c.in-Ok.ensures.beside_taken) (rw c.as_slice-dir.ensures at c.put_back.ensures.beside_taken)
    (rw c.as_slice-dir.ensures at c.in-Ok.ensures.free) (rw c.as_slice-dir.ensures at c.put_back.ensures.back) in
    run-end r (images_at (g.M.DiskRoom.cells c.args.room.now) c.args.settings.now.dir c.args.settings.now.member) had room keeps c.in-Ok.disks had (rw c.as_slice-dir.ensures at c.in-Ok.ensures.within)
    c.over_disks-disks.result.disks (rw c.as_slice-dir.ensures at c.put_back.ensures.cells) c.over_disks-disks.result.status c.over_disks-disks.ensures.ended

pub returns-in-Ok-clause-disk : goal.returns-in-Ok-clause-disk
returns-in-Ok-clause-disk g c e = rose_after _ _ _ c.in-Ok.ensures.cause.later (c.put_back.ensures.rose c.in-Ok.disks c.in-Ok.ensures.held (c.over_disks-disks.ensures.disk e))

-- ---- devices that could not be taken

pub returns-in-Err-clause-ended : goal.returns-in-Err-clause-ended
returns-in-Err-clause-ended g c =
    let r : Run g.row.S.Denot =
    record {
      meaning = g.S.Service.meaning;
      settings = c.args.settings.now;
      disk = g.row.M-Disk.Denot;
      told = g.M.Disk.Disk.told;
      remembers = g.M.Disk.Disk.remembers;
      cells = g.M.Disk.Disk.cells;
      moment = g.M.Disk.Disk.moment;
      left_since = g.M.Disk.Disk.left_since;
      images = images_at (g.M.DiskRoom.cells c.args.room.now) c.args.settings.now.dir c.args.settings.now.member;
      left_before = g.I.Source.left c.args.input.now;
      left_after = g.I.Source.left c.args.input.now;
      written_before = g.W.Sink.written c.args.output.now;
      written_after = g.W.Sink.written c.args.output.now;
      sink = g.row.T-Sink.Denot;
      text_of = g.T.Sink.Sink.written;
      trails = record {
        before = g.T.TrailRoom.kept c.args.trails.now;
        after = g.T.TrailRoom.kept c.args.trails.now;
        taken_before = g.T.TrailRoom.taken c.args.trails.now;
        taken_after = g.T.TrailRoom.taken c.args.trails.now;
      };
    } in
    let room : Room Cells =
    record {
      before = g.M.DiskRoom.cells c.args.room.now;
      after = g.M.DiskRoom.cells c.take_devices.new.room;
      taken_before = g.M.DiskRoom.taken c.args.room.now;
      taken_after = g.M.DiskRoom.taken c.take_devices.new.room;
    } in
    let keeps : KeepsRoom c.args.settings.now room = record {
      beside = rw c.as_slice-dir.ensures at c.in-Err.ensures.beside;
      beside_taken = rw c.as_slice-dir.ensures at c.in-Err.ensures.beside_taken;
      back = rw c.as_slice-dir.ensures at c.in-Err.ensures.back;
    } in
    not-had r room c.room_status.result c.in-Err.fault c.room_status.ensures keeps (rw c.as_slice-dir.ensures at c.in-Err.ensures.torn) (for-room r c.room_status.result refl refl (record { kept = refl; taken = refl }) c.in-Err.fault c.room_status.ensures)

pub returns-in-Err-clause-read : goal.returns-in-Err-clause-read
returns-in-Err-clause-read g c e = absurd (room-else c.in-Err.fault ends.ReadFault (λ e. cc) (λ e. cc) (sym c.room_status.ensures ∙ e))

pub returns-in-Err-clause-write : goal.returns-in-Err-clause-write
returns-in-Err-clause-write g c e = absurd (room-else c.in-Err.fault ends.WriteFault (λ e. cc) (λ e. cc) (sym c.room_status.ensures ∙ e))

pub returns-in-Err-clause-trail : goal.returns-in-Err-clause-trail
returns-in-Err-clause-trail g c e = absurd (room-else c.in-Err.fault ends.TrailFault (λ e. cc) (λ e. cc) (sym c.room_status.ensures ∙ e))

pub returns-in-Err-clause-disk : goal.returns-in-Err-clause-disk
returns-in-Err-clause-disk g c e = room-failed _ _ c.in-Err.fault c.in-Err.ensures.cause (sym c.room_status.ensures ∙ e)
