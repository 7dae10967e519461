use Rattle.std.proofs.Common.{◌∙◌, ◌+◌, refl, sym, subst}
use Rattle.durable_store.proofs.Faults.{rose_after}
use Rattle.app_count.specs.Counts.{counting}
use Rattle.app_count.specs.declared.Count.{Count}
use Rattle.member_opening.specs.Devices.{images_at}
use Rattle.group_run.specs.Ends.{GroupEnd}
use Rattle.group_opening.specs.Runs.{GroupRun}
use Rattle.group_run.specs.declared.status.GroupStatus.{GroupStatus}
use Rattle.group_opening.specs.declared.berth.OpeningEnd.TheVariants as openings
use Rattle.group_opening.proofs.Ranges.{lent-back, rest-none}
use Rattle.group_run.proofs.Unrun.{disk-of, err-of, not-opened}
use Rattle.group_run.proofs.run.run_group.Goals as goal

pub returns-in-Ok-clause-ended : goal.returns-in-Ok-clause-ended
returns-in-Ok-clause-ended g c =
    c.run_opened.ensures.ended (λ member. images_at (g.M.DiskRoom.cells c.args.room.now) c.args.settings.now.dir member) (record { kept = g.M.DiskRoom.cells c.args.room.now; taken = g.M.DiskRoom.taken c.args.room.now })
    (record { kept = g.T.TrailRoom.kept c.args.trails.now; taken = g.T.TrailRoom.taken c.args.trails.now }) c.in-Ok.ensures.berths

pub run_opened-requires-clause-berths : goal.run_opened-requires-clause-berths
run_opened-requires-clause-berths g c = λ _ _. ((λ member. images_at (g.M.DiskRoom.cells c.args.room.now) c.args.settings.now.dir member), c.in-Ok.ensures.berths)

pub returns-in-Ok-clause-disk : goal.returns-in-Ok-clause-disk
returns-in-Ok-clause-disk g c is = rose_after (g.M.DiskRoom.faults c.args.room.now) (g.M.DiskRoom.faults c.open_all.new.room) (g.M.DiskRoom.faults c.run_opened.new.room) c.in-Ok.ensures.later (c.run_opened.ensures.disk is)

pub returns-in-Ok-clause-disks : goal.returns-in-Ok-clause-disks
returns-in-Ok-clause-disks g c =
    let m = g.M.DiskRoom in
    let s = c.args.settings.now in
    let old = c.args.room.now in
    let mid = c.open_all.new.room in
    let new = c.run_opened.new.room in
    lent-back s.dir 4 (m.cells old) (m.cells mid) (m.cells new) (m.taken old) (m.taken mid) (m.taken new) 1 (s.members + 1) c.in-Ok.ensures.lent c.run_opened.ensures.disks

pub returns-in-Ok-clause-sinks : goal.returns-in-Ok-clause-sinks
returns-in-Ok-clause-sinks g c = c.run_opened.ensures.sinks

pub returns-in-Err-clause-ended : goal.returns-in-Err-clause-ended
returns-in-Err-clause-ended g c =
    let d = g.M.Disk.Disk in
    let o = g.T.Sink.Sink in
    let w = g.W.Sink in
    let s = c.args.settings.now in
    let r : GroupRun Count = record {
      meaning = counting;
      settings = s;
      disk = g.row.M-Disk.Denot;
      told = d.told;
      remembers = d.remembers;
      cells = d.cells;
      moment = d.moment;
      left_since = d.left_since;
      images = λ member. images_at (g.M.DiskRoom.cells c.args.room.now) s.dir member;
      written_before = w.written c.args.output.now;
      written_after = w.written c.args.output.now;
      wants_before = w.wants c.args.output.now;
      wants_after = w.wants c.args.output.now;
      sink = g.row.T-Sink.Denot;
      text_of = o.written;
      room = record { before = g.M.DiskRoom.cells c.args.room.now; after = g.M.DiskRoom.cells c.open_all.new.room; taken_before = g.M.DiskRoom.taken c.args.room.now; taken_after = g.M.DiskRoom.taken c.open_all.new.room };
      trails = record { before = g.T.TrailRoom.kept c.args.trails.now; after = g.T.TrailRoom.kept c.args.trails.now; taken_before = g.T.TrailRoom.taken c.args.trails.now; taken_after = g.T.TrailRoom.taken c.args.trails.now };
    } in
    subst (λ (status : GroupStatus). GroupEnd r status) (sym c.opening_status.ensures) (not-opened r c.in-Err.end refl (record { kept = refl; taken = refl }) (λ entry is. c.in-Err.ensures.refused entry (err-of c.in-Err.end (openings.Store entry) is))
    (λ entry is. c.in-Err.ensures.same entry (err-of c.in-Err.end (openings.Store entry) is)))

pub returns-in-Err-clause-disk : goal.returns-in-Err-clause-disk
returns-in-Err-clause-disk g c is = c.in-Err.ensures.disk (err-of c.in-Err.end openings.Disk (disk-of c.in-Err.end (sym c.opening_status.ensures ∙ is)))

pub returns-in-Err-clause-disks : goal.returns-in-Err-clause-disks
returns-in-Err-clause-disks g c = c.in-Err.ensures.back

pub returns-in-Err-clause-sinks : goal.returns-in-Err-clause-sinks
returns-in-Err-clause-sinks g c =
    let t = g.T.TrailRoom in
    let s = c.args.settings.now in
    rest-none s.dir 1 0 (t.kept c.args.trails.now) (t.taken c.args.trails.now) (s.members + 1)
