use Rattle.std.proofs.Common.{◌≡◌, ◌∙◌, ℕ, ◌<◌, ◌≤◌, length, get_or, Some, IfSome, sym, subst, arith}
use Rattle.disk_model.specs.Rooms.{address}
use Rattle.durable_store.specs.Disks.{DiskRose, cells_of}
use Rattle.member_opening.specs.Devices.{AreHeld, devices_at}
use Rattle.group_run.proofs.PutBack.{DisksNow, TrailsNow, all-back, back-first, back-put, changed, client-back, next-held, rose-after, rose-before, some-at, text-kept}
use Rattle.group_run.proofs.closing.give_back.Goals as goal

pub loop-end-init : goal.loop-end-init
loop-end-init g c =
    let m = g.M.DiskRoom in
    let t = g.T.TrailRoom in
    let d = g.M.Disk.Disk in
    let s = g.T.Sink.Sink in
    back-first d.told d.cells d.faults s.written s.faults c.args.dir.now (record { kept = m.cells c.args.room.now; taken = m.taken c.args.room.now; faults = m.faults c.args.room.now })
    (record { kept = t.kept c.args.trails.now; taken = t.taken c.args.trails.now; faults = t.faults c.args.trails.now }) c.args.members.items c.requires.held

pub put_back-requires : goal.put_back-requires
put_back-requires g c =
    subst (λ d. AreHeld (g.M.DiskRoom.taken c.loop-end.room) g.M.Disk.Disk.faults c.args.dir.now c.in-Some.end.member d) (sym c.into_disks.ensures) (next-held c.pop.new.self.items c.in-Some.end c.loop-end.invariant c.in-Some.ensures.items).0

pub keep-requires : goal.keep-requires
keep-requires g c = (next-held c.pop.new.self.items c.in-Some.end c.loop-end.invariant c.in-Some.ensures.items).1

pub loop-end-preserved : goal.loop-end-preserved
loop-end-preserved g c =
    let m = g.M.DiskRoom in
    let t = g.T.TrailRoom in
    let d = g.M.Disk.Disk in
    let put = c.put_back.ensures in
    let keep = c.keep.ensures in
    let room = c.put_back.new.room in
    let trails = c.keep.new.self in
    let e = c.in-Some.end in
    back-put {disks_before = record { kept = m.cells c.args.room.now; taken = m.taken c.args.room.now; faults = m.faults c.args.room.now }}
    {trails_before = record { kept = t.kept c.args.trails.now; taken = t.taken c.args.trails.now; faults = t.faults c.args.trails.now }}
    {disks = record { kept = m.cells c.loop-end.room; taken = m.taken c.loop-end.room; faults = m.faults c.loop-end.room }}
    {trails = record { kept = t.kept c.loop-end.trails; taken = t.taken c.loop-end.trails; faults = t.faults c.loop-end.trails }} c.pop.new.self.items e
    (record { kept = m.cells room; taken = m.taken room; faults = m.faults room }) (record { kept = t.kept trails; taken = t.taken trails; faults = t.faults trails }) c.loop-end.invariant c.in-Some.ensures.items
    (record {
      beside = put.beside_taken;
      beside_kept = put.beside;
      free = put.back;
      others = keep.others_taken;
      others_kept = keep.others;
      back = keep.back;
      later = (put.later, keep.later);
      disk = λ begun held rose. put.rose begun held (subst (λ x. DiskRose d.faults begun x) (sym c.into_disks.ensures) rose);
      trail = keep.rose;
      text = keep.text;
      devices = λ told. subst (λ x. devices_at (m.cells room) c.args.dir.now e.member ≡ cells_of d.cells x) c.into_disks.ensures (put.cells told);
    })

pub keep-requires-2 : goal.keep-requires-2
keep-requires-2 g c =
    let t = g.T.TrailRoom in
    some-at c.args.dir.now c.new.result (t.taken c.args.trails.now) (t.taken c.loop-end.trails) c.new.ensures c.loop-end.invariant.client c.requires.client

pub returns : goal.returns
returns g c =
    let l = c.loop-end in
    let is = l.invariant in
    let m = g.M.DiskRoom in
    let t = g.T.TrailRoom in
    let s = g.T.Sink.Sink in
    let all = c.args.members in
    let dir = c.args.dir.now in
    let keep = c.keep-2.ensures in
    let done = c.keep-2.new.self in
    let disks_before : DisksNow = record { kept = m.cells c.args.room.now; taken = m.taken c.args.room.now; faults = m.faults c.args.room.now } in
    let trails_before : TrailsNow = record { kept = t.kept c.args.trails.now; taken = t.taken c.args.trails.now; faults = t.faults c.args.trails.now } in
    let disks : DisksNow = record { kept = m.cells l.room; taken = m.taken l.room; faults = m.faults l.room } in
    let trails : TrailsNow = record { kept = t.kept l.trails; taken = t.taken l.trails; faults = t.faults l.trails } in
    let none : length l.members.items ≡ 0 = omega (arith, l.members.ok.0, c.in_default.ensures.cases.0) in
    let many : length all.items ≡ all.len = omega (arith, all.ok.0) in
    let high : (i : ℕ) → length l.members.items ≤ i = λ i. omega (arith, none) in
    let low : (i : ℕ) → i < all.len → i < length all.items = λ i within. omega (arith, within, all.ok.0) in record {
      later = (is.later.0, omega (arith, is.later.1, keep.later));
      disk = λ i e begun within held rose. is.disk i e begun (high i) (low i within) held rose;
      trail = λ i e before within taken rose. rose-after trails_before.faults trails.faults (t.faults done) (is.trail i e before (high i) (low i within) taken rose) keep.later;
      client_trail = λ before taken rose.
          rose-before trails_before.faults trails.faults (t.faults done) is.later.1
          (keep.rose before (subst (λ (n : ℕ). trails.taken (address dir n 0) ≡ Some before) (sym c.new.ensures) (is.client ∙ taken)) rose);
      texts = λ i e within. text-kept dir i c.new.result (s.written (get_or all.items i e).sink) trails.kept (t.kept done) c.new.ensures keep.others (is.texts i e (high i) (low i within));
      client_text = subst (λ (n : ℕ). IfSome (s.written c.args.client.sink) (λ text. t.kept done (address dir n 0) ≡ Some text)) c.new.ensures keep.text;
      devices = λ i e within told. is.devices i e (high i) (low i within) told;
      disks = all-back dir 4 (length l.members.items) (length all.items) all.len (changed disks_before disks) none many is.disks_back;
      sinks = client-back dir c.new.result all.len trails_before.kept trails.kept (t.kept done) trails_before.taken trails.taken (t.taken done) c.new.ensures
          (all-back dir 1 (length l.members.items) (length all.items) all.len (changed trails_before trails) none many is.sinks_back)
          keep.others keep.others_taken keep.back;
    }
