use Rattle.std.proofs.Common.{◌≡◌, ◌∙◌, ◌+◌, vec_len, refl, sym, subst, arith}
use Rattle.durable_store.proofs.Faults.{rose_after}
use Rattle.app_count.specs.Counts.{counting}
use Rattle.app_count.specs.declared.Count.{Count}
use Rattle.group_run.specs.Ends.{GroupEnd}
use Rattle.group_opening.specs.Runs.{GroupRun}
use Rattle.group_run.specs.declared.status.GroupStatus.{GroupStatus}
use Rattle.faults.specs.declared.Fault.TheVariants as faults
use Rattle.group_opening.proofs.Lending.{returned-along}
use Rattle.group_opening.proofs.Ranges.{change, lent-back, rest-none}
use Rattle.group_run.proofs.Unrun.{all-held, err-of, has-heads, no-room, not-begun, trail-not-disk, trail-not-store, trail-not-write, trail-of}
use Rattle.group_run.proofs.run.run_opened.Goals as goal

-- ---- no memory for what it needs

pub close_all-requires : goal.close_all-requires
close_all-requires g c = rw c.as_slice-dir.ensures c.requires.held

pub returns-in_default-clause-ended : goal.returns-in_default-clause-ended
returns-in_default-clause-ended g c = λ images disks texts berths.
    let d = g.M.Disk.Disk in
    let o = g.T.Sink.Sink in
    let w = g.W.Sink in
    let s = c.args.settings.now in
    let r : GroupRun Count = record {
      meaning = counting;
      settings = s;
      disk = g.row.M-Disk.Denot;
      told = d.told;
      remembers = d.remembers;
      cells = d.cells;
      moment = d.moment;
      left_since = d.left_since;
      images = images;
      written_before = w.written c.args.output.now;
      written_after = w.written c.args.output.now;
      wants_before = w.wants c.args.output.now;
      wants_after = w.wants c.args.output.now;
      sink = g.row.T-Sink.Denot;
      text_of = o.written;
      room = record { before = disks.kept; after = g.M.DiskRoom.cells c.close_all.new.room; taken_before = disks.taken; taken_after = g.M.DiskRoom.taken c.close_all.new.room };
      trails = record { before = texts.kept; after = g.T.TrailRoom.kept c.args.trails.now; taken_before = texts.taken; taken_after = g.T.TrailRoom.taken c.args.trails.now };
    } in
    no-room r refl

pub returns-in_default-clause-disks : goal.returns-in_default-clause-disks
returns-in_default-clause-disks g c =
    let m = g.M.DiskRoom in
    let s = c.args.settings.now in
    let old = c.args.room.now in
    let new = c.close_all.new.room in
    let many : vec_len c.args.berths + 1 ≡ s.members + 1 = omega (arith, c.requires.many) in
    returned-along s.dir c.as_slice-dir.result.now 1 1 (s.members + 1) (vec_len c.args.berths + 1) 4 (change (m.cells old) (m.cells new) (m.taken old) (m.taken new)) c.as_slice-dir.ensures refl many c.close_all.ensures.returned

pub returns-in_default-clause-sinks : goal.returns-in_default-clause-sinks
returns-in_default-clause-sinks g c =
    let t = g.T.TrailRoom in
    let s = c.args.settings.now in
    rest-none s.dir 1 0 (t.kept c.args.trails.now) (t.taken c.args.trails.now) (s.members + 1)

-- ---- the trails were not begun

pub close_all-requires-in-Err : goal.close_all-requires-in-Err
close_all-requires-in-Err g c = rw c.as_slice-dir.ensures c.requires.held

pub returns-in-Err-clause-ended : goal.returns-in-Err-clause-ended
returns-in-Err-clause-ended g c = λ images disks texts berths.
    let d = g.M.Disk.Disk in
    let o = g.T.Sink.Sink in
    let w = g.W.Sink in
    let s = c.args.settings.now in
    let r : GroupRun Count = record {
      meaning = counting;
      settings = s;
      disk = g.row.M-Disk.Denot;
      told = d.told;
      remembers = d.remembers;
      cells = d.cells;
      moment = d.moment;
      left_since = d.left_since;
      images = images;
      written_before = w.written c.args.output.now;
      written_after = w.written c.args.output.now;
      wants_before = w.wants c.args.output.now;
      wants_after = w.wants c.args.output.now;
      sink = g.row.T-Sink.Denot;
      text_of = o.written;
      room = record { before = disks.kept; after = g.M.DiskRoom.cells c.close_all-in-Err.new.room; taken_before = disks.taken; taken_after = g.M.DiskRoom.taken c.close_all-in-Err.new.room };
      trails = record { before = texts.kept; after = g.T.TrailRoom.kept c.take_sinks.new.trails; taken_before = texts.taken; taken_after = g.T.TrailRoom.taken c.take_sinks.new.trails };
    } in
    subst (λ (status : GroupStatus). GroupEnd r status) (sym c.trail_status.ensures) (not-begun r c.in-Err.fault refl)

pub returns-in-Err-clause-trail : goal.returns-in-Err-clause-trail
returns-in-Err-clause-trail g c is = c.in-Err.ensures.cause (err-of c.in-Err.fault faults.Failed (trail-of c.in-Err.fault (sym c.trail_status.ensures ∙ is)))

pub returns-in-Err-clause-write : goal.returns-in-Err-clause-write
returns-in-Err-clause-write g c is = absurd (trail-not-write c.in-Err.fault (sym c.trail_status.ensures ∙ is))

pub returns-in-Err-clause-disk : goal.returns-in-Err-clause-disk
returns-in-Err-clause-disk g c is = absurd (trail-not-disk c.in-Err.fault (sym c.trail_status.ensures ∙ is))

pub returns-in-Err-clause-store : goal.returns-in-Err-clause-store
returns-in-Err-clause-store g c entry is = trail-not-store c.in-Err.fault entry (sym c.trail_status.ensures ∙ is)

pub returns-in-Err-clause-disks : goal.returns-in-Err-clause-disks
returns-in-Err-clause-disks g c =
    let m = g.M.DiskRoom in
    let s = c.args.settings.now in
    let old = c.args.room.now in
    let new = c.close_all-in-Err.new.room in
    let many : vec_len c.args.berths + 1 ≡ s.members + 1 = omega (arith, c.requires.many) in
    returned-along s.dir c.as_slice-dir.result.now 1 1 (s.members + 1) (vec_len c.args.berths + 1) 4 (change (m.cells old) (m.cells new) (m.taken old) (m.taken new)) c.as_slice-dir.ensures refl many c.close_all-in-Err.ensures.returned

pub returns-in-Err-clause-sinks : goal.returns-in-Err-clause-sinks
returns-in-Err-clause-sinks g c = c.in-Err.ensures.back

-- ---- the group runs

pub returns-in-Ok-take_sinks-clause-disks : goal.returns-in-Ok-take_sinks-clause-disks
returns-in-Ok-take_sinks-clause-disks g c = c.run_begun.ensures.disks

pub returns-in-Ok-take_sinks-clause-sinks : goal.returns-in-Ok-take_sinks-clause-sinks
returns-in-Ok-take_sinks-clause-sinks g c =
    let t = g.T.TrailRoom in
    let s = c.args.settings.now in
    let old = c.args.trails.now in
    let mid = c.take_sinks.new.trails in
    let new = c.run_begun.new.trails in
    lent-back s.dir 1 (t.kept old) (t.kept mid) (t.kept new) (t.taken old) (t.taken mid) (t.taken new) 0 (s.members + 1) c.in-Ok-take_sinks.ensures.lent c.run_begun.ensures.sinks

pub run_begun-requires-clause-heads : goal.run_begun-requires-clause-heads
run_begun-requires-clause-heads g c =
    let o = g.T.Sink.Sink in
    let s = c.args.settings.now in
    let berths = c.args.berths in
    let sinks = c.in-Ok-take_sinks.sinks in
    let taken = c.in-Ok-take_sinks.ensures in
    λ _ _. has-heads o.written o.faults (g.T.TrailRoom.taken c.take_sinks.new.trails) s.dir s c.in-Ok.gear.client berths.items sinks.items (omega (arith, taken.many, c.requires.many, sinks.ok.0, berths.ok.0)) taken.client
    (λ i d b few. rw c.as_slice.ensures.value at (taken.members i d b (omega (arith, few, c.requires.many, berths.ok.0))))

pub run_begun-requires-clause-taken : goal.run_begun-requires-clause-taken
run_begun-requires-clause-taken g c =
    let o = g.T.Sink.Sink in
    let s = c.args.settings.now in
    let berths = c.args.berths in
    let sinks = c.in-Ok-take_sinks.sinks in
    let taken = c.in-Ok-take_sinks.ensures in
    λ _ _ i d within. all-held o.written o.faults (g.T.TrailRoom.taken c.take_sinks.new.trails) s.dir c.in-Ok.gear.client berths.items sinks.items (omega (arith, taken.many, c.requires.many, sinks.ok.0, berths.ok.0)) taken.client
    (λ i d b few. rw c.as_slice.ensures.value at (taken.members i d b (omega (arith, few, c.requires.many, berths.ok.0)))) i d (omega (arith, within, sinks.ok.0))

pub returns-in-Ok-take_sinks-clause-trail : goal.returns-in-Ok-take_sinks-clause-trail
returns-in-Ok-take_sinks-clause-trail g c is = rose_after (g.T.TrailRoom.faults c.args.trails.now) (g.T.TrailRoom.faults c.take_sinks.new.trails) (g.T.TrailRoom.faults c.run_begun.new.trails) c.in-Ok-take_sinks.ensures.later (c.run_begun.ensures.trail is)
