use Rattle.std.proofs.Common.{◌≡◌, ◌∙◌, ◌<◌, ◌+◌, ℕ, length, get_or, vec_len, refl, sym, subst, arith}
use Rattle.app_count.specs.Counts.{counting}
use Rattle.app_count.specs.declared.Count.{Count}
use Rattle.disk_model.specs.Rooms.{address}
use Rattle.member_opening.specs.Devices.{AreHeld, IsHeld}
use Rattle.durable_store.specs.declared.store.Store.{Store}
use Rattle.group_client.specs.Loops.{Output}
use Rattle.group_run.specs.Ends.{GroupEnd}
use Rattle.group_opening.specs.Runs.{GroupRun}
use Rattle.group_run.specs.declared.status.GroupStatus.{GroupStatus}
use Rattle.group_opening.proofs.Lending.{returned-along}
use Rattle.group_opening.proofs.Ranges.{change}
use Rattle.group_parties.proofs.Stationed.{some-of}
use Rattle.group_run.proofs.Returned.{held-at, out-by}
use Rattle.group_client.specs.declared.reply_line.LineFault.TheVariants as lines
use Rattle.group_run.proofs.Unrun.{err-of, line-failed, line-not-store, write-by, write-of}
use Rattle.group_run.proofs.run.run_begun.Goals as goal

-- ---- the first line was not written

pub close_all-requires : goal.close_all-requires
close_all-requires g c = rw c.as_slice-dir.ensures c.requires.held

pub keep_sinks-requires-clause-taken : goal.keep_sinks-requires-clause-taken
keep_sinks-requires-clause-taken g c = rw c.as_slice-dir.ensures (λ index within.
    let sinks = c.args.sinks in
    let held = c.requires.taken index (some-of sinks.items index (omega (arith, within, sinks.ok.0))) within in
    (held.before, held.is))

pub returns-in-Err-clause-ended : goal.returns-in-Err-clause-ended
returns-in-Err-clause-ended g c = λ images disks texts berths.
    let d = g.M.Disk.Disk in
    let o = g.T.Sink.Sink in
    let w = g.W.Sink in
    let s = c.args.settings.now in
    let r : GroupRun Count = record {
      meaning = counting;
      settings = s;
      disk = g.row.M-Disk.Denot;
      told = d.told;
      remembers = d.remembers;
      cells = d.cells;
      moment = d.moment;
      left_since = d.left_since;
      images = images;
      written_before = w.written c.args.output.now;
      written_after = w.written c.write_group.new.output;
      wants_before = w.wants c.args.output.now;
      wants_after = w.wants c.write_group.new.output;
      sink = g.row.T-Sink.Denot;
      text_of = o.written;
      room = record { before = disks.kept; after = g.M.DiskRoom.cells c.close_all.new.room; taken_before = disks.taken; taken_after = g.M.DiskRoom.taken c.close_all.new.room };
      trails = record { before = texts.kept; after = g.T.TrailRoom.kept c.keep_sinks.new.trails; taken_before = texts.taken; taken_after = g.T.TrailRoom.taken c.keep_sinks.new.trails };
    } in
    subst (λ (status : GroupStatus). GroupEnd r status) (sym c.line_status.ensures) (line-failed r c.in-Err.fault c.in-Err.ensures.err (λ is. c.in-Err.ensures.none (err-of c.in-Err.fault lines.NoMemory is)) (λ is. c.in-Err.ensures.want (err-of c.in-Err.fault lines.SinkMemory is)))

pub returns-in-Err-clause-write : goal.returns-in-Err-clause-write
returns-in-Err-clause-write g c is = c.in-Err.ensures.failed (err-of c.in-Err.fault lines.Failed (write-of c.in-Err.fault (sym c.line_status.ensures ∙ is)))

pub returns-in-Err-clause-store : goal.returns-in-Err-clause-store
returns-in-Err-clause-store g c entry is = line-not-store c.in-Err.fault entry (sym c.line_status.ensures ∙ is)

pub returns-in-Err-clause-disks : goal.returns-in-Err-clause-disks
returns-in-Err-clause-disks g c =
    let m = g.M.DiskRoom in
    let s = c.args.settings.now in
    let old = c.args.room.now in
    let new = c.close_all.new.room in
    let many : vec_len c.args.berths + 1 ≡ s.members + 1 = omega (arith, c.requires.many.0) in
    returned-along s.dir c.as_slice-dir.result.now 1 1 (s.members + 1) (vec_len c.args.berths + 1) 4 (change (m.cells old) (m.cells new) (m.taken old) (m.taken new)) c.as_slice-dir.ensures refl many c.close_all.ensures.returned

pub returns-in-Err-clause-sinks : goal.returns-in-Err-clause-sinks
returns-in-Err-clause-sinks g c =
    let t = g.T.TrailRoom in
    let s = c.args.settings.now in
    let old = c.args.trails.now in
    let new = c.keep_sinks.new.trails in
    returned-along s.dir c.as_slice-dir.result.now 0 0 (s.members + 1) (vec_len c.args.sinks) 1 (change (t.kept old) (t.kept new) (t.taken old) (t.taken new)) c.as_slice-dir.ensures refl c.requires.many.1 c.keep_sinks.ensures.returned

-- ---- the group runs

pub returns-clause-disks : goal.returns-clause-disks
returns-clause-disks g c = c.conclude.ensures.disks

pub returns-clause-sinks : goal.returns-clause-sinks
returns-clause-sinks g c = c.conclude.ensures.sinks

pub run_crew-rest-requires-clause-crew : goal.run_crew-rest-requires-clause-crew
run_crew-rest-requires-clause-crew g c = λ _ _. (c.requires.berths.0, c.crew_of-crew.ensures.crew c.requires.berths.0 c.requires.berths.1 c.requires.heads)

pub run_crew-rest-requires-clause-places : goal.run_crew-rest-requires-clause-places
run_crew-rest-requires-clause-places g c = λ _ _. (c.requires.empty.left, c.requires.room.left)

pub conclude-requires-clause-run : goal.conclude-requires-clause-run
conclude-requires-clause-run g c =
    let d = g.M.Disk.Disk in
    let o = g.T.Sink.Sink in
    let w = g.W.Sink in
    let s = c.args.settings.now in
    let images = c.requires.berths.0 in
    let crew = c.crew_of-crew.result in
    let made = c.crew_of-crew.ensures in
    let is = made.crew images c.requires.berths.1 c.requires.heads in
    let begun : Output = record { written = w.written c.write_group.new.output; faults = w.faults c.write_group.new.output; wants = w.wants c.write_group.new.output } in
    let disks = g.M.DiskRoom.taken c.args.room.now in
    let trails = g.T.TrailRoom.taken c.args.trails.now in
    let berths = c.args.berths in
    let sinks = c.args.sinks in
    let own = crew.client.sink in
    let first : 0 < sinks.len = omega (arith, c.requires.many.1) in record {
      images = images;
      crew = crew;
      is = is;
      before = begun;
      run = c.run_crew-rest.ensures images is;
      out = (
        subst (λ sink. IsHeld (trails (address s.dir 0 0)) (o.faults sink)) (sym (made.sinks own)) (c.requires.taken 0 own first),
        out-by disks d.faults trails o.faults s.dir 1 crew.stations.items (λ i b few.
            let within : i < s.members = omega (arith, few, is.many) in
            let berth : i < length berths.items = omega (arith, within, c.requires.many.0, berths.ok.0) in
            let x = some-of berths.items i berth in
            let place : i + 1 < sinks.len = omega (arith, within, c.requires.many.1) in
            let next : i + 1 ≡ 1 + i = omega arith in (
              subst (λ (store : Store g.row.M-Disk.Denot). AreHeld disks d.faults s.dir (1 + i) store.disks) (sym (made.stores i x b within)) (held-at disks d.faults trails o.faults s.dir 1 berths.items c.requires.held i x berth),
              subst (λ (n : ℕ). IsHeld (trails (address s.dir n 0)) (o.faults (get_or crew.stations.items i b).sink)) next
                  (subst (λ sink. IsHeld (trails (address s.dir (i + 1) 0)) (o.faults sink)) (sym (made.members i b.sink b within)) (c.requires.taken (i + 1) b.sink place)),
            )),
      );
    }

pub returns-clause-ended : goal.returns-clause-ended
returns-clause-ended g c = λ images disks texts berths.
    let w = g.W.Sink in
    let crew = c.crew_of-crew.result in
    let is = c.crew_of-crew.ensures.crew images berths c.requires.heads in
    let before : Output = record { written = w.written c.args.output.now; faults = w.faults c.args.output.now; wants = w.wants c.args.output.now } in
    let begun : Output = record { written = w.written c.write_group.new.output; faults = w.faults c.write_group.new.output; wants = w.wants c.write_group.new.output } in
    c.conclude.ensures.ended images crew before begun disks texts is (c.run_crew-rest.ensures images is) c.in_default.ensures.ok c.in_default.ensures.later.1

pub returns-clause-write : goal.returns-clause-write
returns-clause-write g c is =
    let w = g.W.Sink in
    let images = c.requires.berths.0 in
    let made = c.crew_of-crew.ensures.crew images c.requires.berths.1 c.requires.heads in
    let run = c.run_crew-rest.ensures images made in
    write-by (w.faults c.args.output.now) (w.faults c.write_group.new.output) (w.faults c.run_crew-rest.new.output) (w.faults c.conclude.new.output) c.in_default.ensures.later.0 run.client.later.0 c.conclude.ensures.later.0 run.client.output (c.conclude.ensures.write is)
