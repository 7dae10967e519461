use Rattle.std.proofs.Common.{◌≡◌, ◌∙◌, ◌≤◌, inl, ℕ, length, map, IfSome, None, Some, refl, sym, subst, arith}
use Rattle.faults.specs.Counts.{Rose}
use Rattle.smart_base.specs.Lists.{Each}
use Rattle.app_count.specs.Counts.{counting}
use Rattle.app_count.specs.declared.Count.{Count}
use Rattle.disk_model.specs.Rooms.{Address, address}
use Rattle.trail.specs.declared.opening.TrailOpening.{TrailOpening}
use Rattle.group_client.specs.Loops.{Output}
use Rattle.group_wires.specs.declared.row.Row.{Row}
use Rattle.group_run.specs.Concluded.{AreGathered}
use Rattle.group_opening.specs.Runs.{GroupRun, client_head}
use Rattle.group_parties.specs.declared.ending.MemberEnd.{MemberEnd}
use Rattle.group_run.specs.declared.status.GroupStatus.TheVariants as ends
use Rattle.group_run.proofs.Beginning.{can-begin}
use Rattle.group_run.proofs.Causing.{disk-rose, rest-all, rest-many, rest-taken, taken-same, trail-rose}
use Rattle.group_run.proofs.Unrun.{left-so}
use Rattle.group_run.proofs.Conclusions.{failed-disk, failed-output, failed-store, failed-trail}
use Rattle.group_run.proofs.Overs.{end-lived, end-lost, gathered-begin, gathered-few, gathered-linked}
use Rattle.group_opening.proofs.Ranges.{change, returned-many}
use Rattle.group_run.proofs.Returned.{devices-same, kept-same}
use Rattle.group_run.proofs.concluding.conclude.Goals as goal

pub gather-gathered-requires : goal.gather-gathered-requires
gather-gathered-requires g c =
    let d = g.M.Disk.Disk in
    let o = g.T.Sink.Sink in
    let w = g.W.Sink in
    let s = c.args.settings.now in
    let disks = g.M.DiskRoom.taken c.args.room.now in
    let trails = g.T.TrailRoom.taken c.args.trails.now in
    let rest = c.args.rest in
    let out : Output = record { written = w.written c.args.output.now; faults = w.faults c.args.output.now; wants = w.wants c.args.output.now } in
    let was = c.requires.run in
    let es = rest.members in
    omega (arith, rest-many counting d.told d.remembers d.cells d.moment d.left_since d.faults o.written o.faults s disks trails rest out was, rest.heads.ok.0, es.ok.0)

pub give_back-requires : goal.give_back-requires
give_back-requires g c =
    let d = g.M.Disk.Disk in
    let o = g.T.Sink.Sink in
    let w = g.W.Sink in
    let s = c.args.settings.now in
    let disks = g.M.DiskRoom.taken c.args.room.now in
    let trails = g.T.TrailRoom.taken c.args.trails.now in
    let rest = c.args.rest in
    let out : Output = record { written = w.written c.args.output.now; faults = w.faults c.args.output.now; wants = w.wants c.args.output.now } in
    let was = c.requires.run in
    let es = rest.members in
    let now = c.gather-gathered.new.members in
    let many : length now.items ≡ length es.items = omega (arith, c.gather-gathered.ensures.many, es.ok.0, now.ok.0) in
    let taken = rest-taken counting d.told d.remembers d.cells d.moment d.left_since d.faults o.written o.faults s disks trails rest out was in
    rw c.as_slice-dir.ensures (record { held = taken-same disks d.faults trails s.dir 1 es.items now.items many (λ i e few. c.gather-gathered.ensures.same i e (omega (arith, few, es.ok.0))) taken.0; client = taken.1 })

pub lived_status-requires : goal.lived_status-requires
lived_status-requires g c =
    let d = g.M.Disk.Disk in
    let o = g.T.Sink.Sink in
    let w = g.W.Sink in
    let s = c.args.settings.now in
    let disks = g.M.DiskRoom.taken c.args.room.now in
    let trails = g.T.TrailRoom.taken c.args.trails.now in
    let rest = c.args.rest in
    let out : Output = record { written = w.written c.args.output.now; faults = w.faults c.args.output.now; wants = w.wants c.args.output.now } in
    let was = c.requires.run in
    let es = rest.members in
    let now = c.gather-gathered.new.members in
    let t = c.in-Some.gathered in
    let r : GroupRun Count = record {
      meaning = counting;
      settings = s;
      disk = g.row.M-Disk.Denot;
      told = d.told;
      remembers = d.remembers;
      cells = d.cells;
      moment = d.moment;
      left_since = d.left_since;
      images = was.images;
      written_before = None;
      written_after = None;
      wants_before = 0;
      wants_after = 0;
      sink = g.row.T-Sink.Denot;
      text_of = o.written;
      room = record { before = g.M.DiskRoom.cells c.args.room.now; after = g.M.DiskRoom.cells c.args.room.now; taken_before = disks; taken_after = disks };
      trails = record { before = λ (a : Address). None; after = λ (a : Address). None; taken_before = λ (a : Address). None; taken_after = λ (a : Address). None };
    } in
    let gathered : AreGathered (client_head s) rest.heads.items rest.client.lived (map (λ (e : MemberEnd g.row.M-Disk.Denot g.row.T-Sink.Denot). e.lived) es.items) t =
    subst (λ (head : TrailOpening). AreGathered head rest.heads.items rest.client.lived (map (λ (e : MemberEnd g.row.M-Disk.Denot g.row.T-Sink.Denot). e.lived) es.items) t) c.requires.head c.in-Some.ensures.trails in
    let size : length t.inboxes.items ≡ t.inboxes.len = omega (arith, t.inboxes.ok.0) in record {
      begin = gathered-begin r d.faults o.faults was.crew was.is rest was.before out was.run t gathered counting refl (λ member parts events none other. can-begin s member parts events none other);
      within = subst (λ (n : ℕ). Each (λ (row : Row). length row.ports.items ≤ n) t.rows.items) size (gathered-few r d.faults o.faults was.crew was.is rest was.before out was.run t gathered);
      linked = gathered-linked r d.faults o.faults was.crew was.is rest was.before out was.run t gathered;
    }

-- ---- all have lived

pub returns-in-Some-clause-ended : goal.returns-in-Some-clause-ended
returns-in-Some-clause-ended g c = λ images crew before begun disks texts is run line wants.
    let d = g.M.Disk.Disk in
    let o = g.T.Sink.Sink in
    let w = g.W.Sink in
    let s = c.args.settings.now in
    let rest = c.args.rest in
    let out : Output = record { written = w.written c.args.output.now; faults = w.faults c.args.output.now; wants = w.wants c.args.output.now } in
    let es = rest.members in
    let now = c.gather-gathered.new.members in
    let t = c.in-Some.gathered in
    let done : Output = record { written = w.written c.lived_status.new.output; faults = w.faults c.lived_status.new.output; wants = w.wants c.lived_status.new.output } in
    let after = g.T.TrailRoom.kept c.give_back.new.trails in
    let cells = g.M.DiskRoom.cells c.give_back.new.room in
    let r : GroupRun Count = record {
      meaning = counting;
      settings = s;
      disk = g.row.M-Disk.Denot;
      told = d.told;
      remembers = d.remembers;
      cells = d.cells;
      moment = d.moment;
      left_since = d.left_since;
      images = images;
      written_before = before.written;
      written_after = done.written;
      wants_before = before.wants;
      wants_after = done.wants;
      sink = g.row.T-Sink.Denot;
      text_of = o.written;
      room = record { before = disks.kept; after = cells; taken_before = disks.taken; taken_after = g.M.DiskRoom.taken c.give_back.new.room };
      trails = record { before = texts.kept; after = after; taken_before = texts.taken; taken_after = g.T.TrailRoom.taken c.give_back.new.trails };
    } in
    let gathered : AreGathered (client_head s) rest.heads.items rest.client.lived (map (λ (e : MemberEnd g.row.M-Disk.Denot g.row.T-Sink.Denot). e.lived) es.items) t =
    subst (λ (head : TrailOpening). AreGathered head rest.heads.items rest.client.lived (map (λ (e : MemberEnd g.row.M-Disk.Denot g.row.T-Sink.Denot). e.lived) es.items) t) c.requires.head c.in-Some.ensures.trails in
    let many : length now.items ≡ length es.items = omega (arith, c.gather-gathered.ensures.many, es.ok.0, now.ok.0) in
    let back = rw c.as_slice-dir.ensures at c.give_back.ensures.texts in
    let own = rw c.as_slice-dir.ensures at c.give_back.ensures.client_text in
    let held = rw c.as_slice-dir.ensures at c.give_back.ensures.devices in
    let later : done.wants ≤ done.wants = omega arith in
    end-lived r d.faults o.faults crew is rest begun out run line wants c.failures_of-failures.result c.failures_of-failures.ensures.output_only t gathered c.lived_status.ensures.come
    (subst (λ sink. IfSome (o.written sink) (λ text. after (address s.dir 0 0) ≡ Some text)) c.gather-gathered.ensures.client own)
    (kept-same o.written after s.dir es.items now.items many (λ i e few. (c.gather-gathered.ensures.same i e (omega (arith, few, es.ok.0))).1.0) (λ i e few. back i e (omega (arith, few, now.ok.0))))
    (devices-same d.told d.cells cells s.dir es.items now.items many (λ i e few. (c.gather-gathered.ensures.same i e (omega (arith, few, es.ok.0))).1.1.1.0) (λ i e few. held i e (omega (arith, few, now.ok.0))))
    c.lived_status.result done c.lived_status.ensures.concluded refl later

pub returns-in-Some-clause-write : goal.returns-in-Some-clause-write
returns-in-Some-clause-write g c is =
    left-so c.failures_of-failures.ensures.output (c.lived_status.ensures.concluded.write is)

pub returns-in-Some-clause-trail : goal.returns-in-Some-clause-trail
returns-in-Some-clause-trail g c is =
    let d = g.M.Disk.Disk in
    let o = g.T.Sink.Sink in
    let w = g.W.Sink in
    let s = c.args.settings.now in
    let disks = g.M.DiskRoom.taken c.args.room.now in
    let trails = g.T.TrailRoom.taken c.args.trails.now in
    let rest = c.args.rest in
    let out : Output = record { written = w.written c.args.output.now; faults = w.faults c.args.output.now; wants = w.wants c.args.output.now } in
    let was = c.requires.run in
    let es = rest.members in
    let now = c.gather-gathered.new.members in
    let many : length now.items ≡ length es.items = omega (arith, c.gather-gathered.ensures.many, es.ok.0, now.ok.0) in
    let back = rw c.as_slice-dir.ensures at c.give_back.ensures.trail in
    let own = rw c.as_slice-dir.ensures at c.give_back.ensures.client_trail in
    trail-rose counting d.told d.remembers d.cells d.moment d.left_since d.faults o.written o.faults s disks trails rest out was now.items many (λ i e few. c.gather-gathered.ensures.same i e (omega (arith, few, es.ok.0))) c.gather-gathered.new.client.sink c.gather-gathered.ensures.client (Rose (g.T.TrailRoom.faults c.args.trails.now) (g.T.TrailRoom.faults c.give_back.new.trails))
    (λ i e before few. back i e before (omega (arith, few, now.ok.0))) own (rw c.as_slice.ensures.value at (c.failures_of-failures.ensures.trail (c.lived_status.ensures.concluded.trail is)))

pub returns-in-Some-clause-disk : goal.returns-in-Some-clause-disk
returns-in-Some-clause-disk g c is =
    let d = g.M.Disk.Disk in
    let o = g.T.Sink.Sink in
    let w = g.W.Sink in
    let s = c.args.settings.now in
    let disks = g.M.DiskRoom.taken c.args.room.now in
    let trails = g.T.TrailRoom.taken c.args.trails.now in
    let rest = c.args.rest in
    let out : Output = record { written = w.written c.args.output.now; faults = w.faults c.args.output.now; wants = w.wants c.args.output.now } in
    let was = c.requires.run in
    let es = rest.members in
    let now = c.gather-gathered.new.members in
    let many : length now.items ≡ length es.items = omega (arith, c.gather-gathered.ensures.many, es.ok.0, now.ok.0) in
    let back = rw c.as_slice-dir.ensures at c.give_back.ensures.disk in
    disk-rose counting d.told d.remembers d.cells d.moment d.left_since d.faults o.written o.faults s disks trails rest out was now.items many (λ i e few. c.gather-gathered.ensures.same i e (omega (arith, few, es.ok.0))) c.gather-gathered.new.client.sink c.gather-gathered.ensures.client (Rose (g.M.DiskRoom.faults c.args.room.now) (g.M.DiskRoom.faults c.give_back.new.room))
    (λ i e begun few. back i e begun (omega (arith, few, now.ok.0))) (rw c.as_slice.ensures.value at (c.failures_of-failures.ensures.disk (c.lived_status.ensures.concluded.disk is)))

pub returns-in-Some-clause-disks : goal.returns-in-Some-clause-disks
returns-in-Some-clause-disks g c =
    let d = g.M.Disk.Disk in
    let o = g.T.Sink.Sink in
    let w = g.W.Sink in
    let s = c.args.settings.now in
    let rest = c.args.rest in
    let out : Output = record { written = w.written c.args.output.now; faults = w.faults c.args.output.now; wants = w.wants c.args.output.now } in
    let es = rest.members in
    let now = c.gather-gathered.new.members in
    let many : now.len ≡ s.members = omega (arith, c.gather-gathered.ensures.many, es.ok.0, rest-all counting d.told d.remembers d.cells d.moment d.left_since d.faults o.written o.faults s (g.M.DiskRoom.taken c.args.room.now) (g.T.TrailRoom.taken c.args.trails.now) rest out c.requires.run) in
    let r = g.M.DiskRoom in
    returned-many s.dir 1 4 now.len s.members
    (change (r.cells c.args.room.now) (r.cells c.give_back.new.room) (r.taken c.args.room.now) (r.taken c.give_back.new.room)) many (rw c.as_slice-dir.ensures at c.give_back.ensures.disks)

pub returns-in-Some-clause-sinks : goal.returns-in-Some-clause-sinks
returns-in-Some-clause-sinks g c =
    let d = g.M.Disk.Disk in
    let o = g.T.Sink.Sink in
    let w = g.W.Sink in
    let s = c.args.settings.now in
    let rest = c.args.rest in
    let out : Output = record { written = w.written c.args.output.now; faults = w.faults c.args.output.now; wants = w.wants c.args.output.now } in
    let es = rest.members in
    let now = c.gather-gathered.new.members in
    let many : now.len ≡ s.members = omega (arith, c.gather-gathered.ensures.many, es.ok.0, rest-all counting d.told d.remembers d.cells d.moment d.left_since d.faults o.written o.faults s (g.M.DiskRoom.taken c.args.room.now) (g.T.TrailRoom.taken c.args.trails.now) rest out c.requires.run) in
    let r = g.T.TrailRoom in
    returned-many s.dir 0 1 now.len s.members
    (change (r.kept c.args.trails.now) (r.kept c.give_back.new.trails) (r.taken c.args.trails.now) (r.taken c.give_back.new.trails)) many (rw c.as_slice-dir.ensures at c.give_back.ensures.sinks)

-- ---- not all have lived

pub returns-in-None-clause-ended : goal.returns-in-None-clause-ended
returns-in-None-clause-ended g c = λ images crew before begun disks texts is run line wants.
    let d = g.M.Disk.Disk in
    let o = g.T.Sink.Sink in
    let w = g.W.Sink in
    let s = c.args.settings.now in
    let rest = c.args.rest in
    let out : Output = record { written = w.written c.args.output.now; faults = w.faults c.args.output.now; wants = w.wants c.args.output.now } in
    let after = g.T.TrailRoom.kept c.give_back.new.trails in
    let r : GroupRun Count = record {
      meaning = counting;
      settings = s;
      disk = g.row.M-Disk.Denot;
      told = d.told;
      remembers = d.remembers;
      cells = d.cells;
      moment = d.moment;
      left_since = d.left_since;
      images = images;
      written_before = before.written;
      written_after = out.written;
      wants_before = before.wants;
      wants_after = out.wants;
      sink = g.row.T-Sink.Denot;
      text_of = o.written;
      room = record { before = disks.kept; after = g.M.DiskRoom.cells c.give_back.new.room; taken_before = disks.taken; taken_after = g.M.DiskRoom.taken c.give_back.new.room };
      trails = record { before = texts.kept; after = after; taken_before = texts.taken; taken_after = g.T.TrailRoom.taken c.give_back.new.trails };
    } in
    let es = rest.members in
    let now = c.gather-gathered.new.members in
    let many : length now.items ≡ length es.items = omega (arith, c.gather-gathered.ensures.many, es.ok.0, now.ok.0) in
    let own = rw c.as_slice-dir.ensures at c.give_back.ensures.client_text in
    let held = rw c.as_slice-dir.ensures at c.give_back.ensures.devices in
    let later : out.wants ≤ out.wants = omega arith in
    end-lost r d.faults o.faults crew is rest begun out run line wants c.failures_of-failures.result c.failures_of-failures.ensures.output_only
    (subst (λ sink. IfSome (o.written sink) (λ text. after (address s.dir 0 0) ≡ Some text)) c.gather-gathered.ensures.client own)
    (devices-same d.told d.cells (g.M.DiskRoom.cells c.give_back.new.room) s.dir es.items now.items many (λ i e few. (c.gather-gathered.ensures.same i e (omega (arith, few, es.ok.0))).1.1.1.0) (λ i e few. held i e (omega (arith, few, now.ok.0))))
    c.failed_status.result c.failed_status.ensures refl later

pub returns-in-None-clause-write : goal.returns-in-None-clause-write
returns-in-None-clause-write g c is =
    let f = c.failures_of-failures.result in
    inl (c.failures_of-failures.ensures.output (failed-output f.output f.trail f.disk ends.NoMemory refl (sym c.failed_status.ensures ∙ is)))

pub returns-in-None-clause-trail : goal.returns-in-None-clause-trail
returns-in-None-clause-trail g c is =
    let d = g.M.Disk.Disk in
    let o = g.T.Sink.Sink in
    let w = g.W.Sink in
    let s = c.args.settings.now in
    let disks = g.M.DiskRoom.taken c.args.room.now in
    let trails = g.T.TrailRoom.taken c.args.trails.now in
    let rest = c.args.rest in
    let out : Output = record { written = w.written c.args.output.now; faults = w.faults c.args.output.now; wants = w.wants c.args.output.now } in
    let was = c.requires.run in
    let es = rest.members in
    let now = c.gather-gathered.new.members in
    let many : length now.items ≡ length es.items = omega (arith, c.gather-gathered.ensures.many, es.ok.0, now.ok.0) in
    let f = c.failures_of-failures.result in
    let back = rw c.as_slice-dir.ensures at c.give_back.ensures.trail in
    let own = rw c.as_slice-dir.ensures at c.give_back.ensures.client_trail in
    trail-rose counting d.told d.remembers d.cells d.moment d.left_since d.faults o.written o.faults s disks trails rest out was now.items many (λ i e few. c.gather-gathered.ensures.same i e (omega (arith, few, es.ok.0))) c.gather-gathered.new.client.sink c.gather-gathered.ensures.client (Rose (g.T.TrailRoom.faults c.args.trails.now) (g.T.TrailRoom.faults c.give_back.new.trails))
    (λ i e before few. back i e before (omega (arith, few, now.ok.0))) own (rw c.as_slice.ensures.value at (c.failures_of-failures.ensures.trail (failed-trail f.output f.trail f.disk ends.NoMemory refl (sym c.failed_status.ensures ∙ is))))

pub returns-in-None-clause-disk : goal.returns-in-None-clause-disk
returns-in-None-clause-disk g c is =
    let d = g.M.Disk.Disk in
    let o = g.T.Sink.Sink in
    let w = g.W.Sink in
    let s = c.args.settings.now in
    let disks = g.M.DiskRoom.taken c.args.room.now in
    let trails = g.T.TrailRoom.taken c.args.trails.now in
    let rest = c.args.rest in
    let out : Output = record { written = w.written c.args.output.now; faults = w.faults c.args.output.now; wants = w.wants c.args.output.now } in
    let was = c.requires.run in
    let es = rest.members in
    let now = c.gather-gathered.new.members in
    let many : length now.items ≡ length es.items = omega (arith, c.gather-gathered.ensures.many, es.ok.0, now.ok.0) in
    let f = c.failures_of-failures.result in
    let back = rw c.as_slice-dir.ensures at c.give_back.ensures.disk in
    disk-rose counting d.told d.remembers d.cells d.moment d.left_since d.faults o.written o.faults s disks trails rest out was now.items many (λ i e few. c.gather-gathered.ensures.same i e (omega (arith, few, es.ok.0))) c.gather-gathered.new.client.sink c.gather-gathered.ensures.client (Rose (g.M.DiskRoom.faults c.args.room.now) (g.M.DiskRoom.faults c.give_back.new.room))
    (λ i e begun few. back i e begun (omega (arith, few, now.ok.0))) (rw c.as_slice.ensures.value at (c.failures_of-failures.ensures.disk (failed-disk f.output f.trail f.disk ends.NoMemory refl (sym c.failed_status.ensures ∙ is))))

pub returns-in-None-clause-store : goal.returns-in-None-clause-store
returns-in-None-clause-store g c entry is =
    let f = c.failures_of-failures.result in
    failed-store f.output f.trail f.disk ends.NoMemory entry refl (sym c.failed_status.ensures ∙ is)

pub returns-in-None-clause-disks : goal.returns-in-None-clause-disks
returns-in-None-clause-disks g c =
    let d = g.M.Disk.Disk in
    let o = g.T.Sink.Sink in
    let w = g.W.Sink in
    let s = c.args.settings.now in
    let rest = c.args.rest in
    let out : Output = record { written = w.written c.args.output.now; faults = w.faults c.args.output.now; wants = w.wants c.args.output.now } in
    let es = rest.members in
    let now = c.gather-gathered.new.members in
    let many : now.len ≡ s.members = omega (arith, c.gather-gathered.ensures.many, es.ok.0, rest-all counting d.told d.remembers d.cells d.moment d.left_since d.faults o.written o.faults s (g.M.DiskRoom.taken c.args.room.now) (g.T.TrailRoom.taken c.args.trails.now) rest out c.requires.run) in
    let r = g.M.DiskRoom in
    returned-many s.dir 1 4 now.len s.members
    (change (r.cells c.args.room.now) (r.cells c.give_back.new.room) (r.taken c.args.room.now) (r.taken c.give_back.new.room)) many (rw c.as_slice-dir.ensures at c.give_back.ensures.disks)

pub returns-in-None-clause-sinks : goal.returns-in-None-clause-sinks
returns-in-None-clause-sinks g c =
    let d = g.M.Disk.Disk in
    let o = g.T.Sink.Sink in
    let w = g.W.Sink in
    let s = c.args.settings.now in
    let rest = c.args.rest in
    let out : Output = record { written = w.written c.args.output.now; faults = w.faults c.args.output.now; wants = w.wants c.args.output.now } in
    let es = rest.members in
    let now = c.gather-gathered.new.members in
    let many : now.len ≡ s.members = omega (arith, c.gather-gathered.ensures.many, es.ok.0, rest-all counting d.told d.remembers d.cells d.moment d.left_since d.faults o.written o.faults s (g.M.DiskRoom.taken c.args.room.now) (g.T.TrailRoom.taken c.args.trails.now) rest out c.requires.run) in
    let r = g.T.TrailRoom in
    returned-many s.dir 0 1 now.len s.members
    (change (r.kept c.args.trails.now) (r.kept c.give_back.new.trails) (r.taken c.args.trails.now) (r.taken c.give_back.new.trails)) many (rw c.as_slice-dir.ensures at c.give_back.ensures.sinks)
