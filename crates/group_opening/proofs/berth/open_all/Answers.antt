use Rattle.std.proofs.Common.{◌≡◌, ◌∙◌, ◌+◌, ◌<◌, ◌≤◌, ℕ, List, [], length, vec_len, vec_capacity, Err, ap, refl, sym, subst, arith}
use Rattle.disk_model.specs.Rooms.{Address}
use Rattle.member_opening.specs.Devices.{images_at}
use Rattle.group_opening.specs.Berths.{AllHeld, AllHold, AreBerths}
use Rattle.group_opening.specs.declared.berth.OpeningEnd.{OpeningEnd}
use Rattle.group_opening.specs.declared.berth.OpeningEnd.TheVariants as ends
use Rattle.group_opening.proofs.Berthing.{at-least-itself, ok-of, room-left}
use Rattle.group_opening.proofs.Lending.{lent-along, lent-devices-next, rest-devices-next, returned-along}
use Rattle.group_opening.proofs.Opening.{all-as-begun, all-same, berths-next, beside-other, held-next, hold-next, kept-next, refused-next, rose-since, rose-still}
use Rattle.group_opening.proofs.Ranges.{change, lent-none}
use Rattle.group_opening.proofs.berth.open_all.Goals as goal

pub close_all-requires : goal.close_all-requires
close_all-requires g c =
    let l = c.loop-before in
    let s = c.args.group.now in
    let member = c.new.result in
    let faults = g.M.Disk.Disk.faults in
    let old = g.M.DiskRoom.taken l.room in
    let new = g.M.DiskRoom.taken c.open_member.new.room in
    let few : 1 + length l.berths.items ≤ member = omega (arith, l.invariant.many, l.berths.ok.0, c.new.ensures) in
    subst (λ (dir : List ℕ). AllHeld new faults dir 1 l.berths.items) (sym c.as_slice-dir.ensures)
    (all-same old new faults s.dir 1 member l.berths.items few
    (λ (other : Address) (less : other.member < member). beside-other s.dir member old new c.open_member.ensures.beside_taken other (λ (same : other.member ≡ member). omega (arith, same, less))) l.invariant.held)

pub returns-in-Err-clause-refused : goal.returns-in-Err-clause-refused
returns-in-Err-clause-refused g c = λ entry is.
    let l = c.loop-before in
    let s = c.args.group.now in
    let d = g.M.Disk.Disk in
    let end : c.in-Err.end ≡ ends.Store entry = cc in
    refused-next g.S.Service.meaning d.told d.cells s.dir s l.berths.items l.before c.new.result entry (g.M.DiskRoom.cells c.args.room.now) (g.M.DiskRoom.cells l.room)
    (omega (arith, l.invariant.many, l.berths.ok.0)) c.new.ensures c.loop-before-test.true l.invariant.kept l.invariant.berths (c.in-Err.ensures.refused entry (ap (λ (x : OpeningEnd). Err x) end))

pub returns-in-Err-clause-disk : goal.returns-in-Err-clause-disk
returns-in-Err-clause-disk g c = λ is.
    let end : c.in-Err.end ≡ ends.Disk = cc in
    rose-since _ _ _ c.loop-before.invariant.later (rose-still _ _ _ (c.in-Err.ensures.disk (ap (λ (x : OpeningEnd). Err x) end)) c.close_all.ensures.later)

pub loop-before-preserved : goal.loop-before-preserved
loop-before-preserved g c =
    let l = c.loop-before in
    let s = c.args.group.now in
    let d = g.M.Disk.Disk in
    let member = c.new.result in
    let start = g.M.DiskRoom.cells c.args.room.now in
    let now = g.M.DiskRoom.cells l.room in
    let many : length l.berths.items ≡ l.before = omega (arith, l.invariant.many, l.berths.ok.0) in
    let more = c.push_reserved.ensures.items in
    record {
      berths = berths-next g.S.Service.meaning d.told d.cells s.dir s l.berths.items c.push_reserved.new.self.items c.in-Ok.berth l.before member more many c.new.ensures start now l.invariant.kept l.invariant.berths c.in-Ok.ensures.berth;
      many = omega (arith, l.invariant.many, c.push_reserved.ensures.len);
      room = omega (arith, l.invariant.room, c.push_reserved.ensures.capacity);
      held = held-next g.S.Service.meaning d.told d.cells s.dir s l.berths.items c.push_reserved.new.self.items c.in-Ok.berth l.before member more many c.new.ensures (images_at now s.dir member)
          (g.M.DiskRoom.taken l.room) (g.M.DiskRoom.taken c.open_member.new.room) d.faults c.open_member.ensures.beside_taken l.invariant.held c.in-Ok.ensures.berth c.in-Ok.ensures.held;
      hold = λ told. hold-next d.cells s.dir l.berths.items c.push_reserved.new.self.items c.in-Ok.berth l.before member start now more many c.new.ensures l.invariant.kept (l.invariant.hold told) (c.in-Ok.ensures.same told);
      kept = kept-next s.dir l.before member start now (g.M.DiskRoom.cells c.open_member.new.room) c.new.ensures l.invariant.kept c.open_member.ensures.beside;
      later = omega (arith, l.invariant.later, c.open_member.ensures.later);
      lent = lent-devices-next s.dir s.dir 1 (l.before + 1) member start now (g.M.DiskRoom.cells c.open_member.new.room) (g.M.DiskRoom.taken c.args.room.now) (g.M.DiskRoom.taken l.room) (g.M.DiskRoom.taken c.open_member.new.room) refl c.new.ensures
          (omega arith) l.invariant.lent c.open_member.ensures.beside c.open_member.ensures.beside_taken c.in-Ok.ensures.free;
    }

pub loop-before-init : goal.loop-before-init
loop-before-init g c =
    let d = g.M.Disk.Disk in
    let s = c.args.group.now in
    let none : c.reserve.new.self.items ≡ [] = c.reserve.ensures.items ∙ c.new-berths.ensures.items in
    let room = ok-of (vec_len c.reserve.new.self + c.from.result ≤ vec_capacity c.reserve.new.self) c.reserve.result c.is_err.result c.is_err.ensures.value c.if-is_err.false c.reserve.ensures.ok in
    record {
      berths = subst (AreBerths g.S.Service.meaning d.told d.cells (λ (k : ℕ). images_at (g.M.DiskRoom.cells c.args.room.now) s.dir k) s 1) (sym none) tt;
      many = c.reserve.ensures.len ∙ c.new-berths.ensures.len;
      room = subst (λ (n : ℕ). n ≤ vec_capacity c.reserve.new.self) c.from.ensures (room-left (vec_len c.reserve.new.self) c.from.result (vec_capacity c.reserve.new.self) room);
      held = subst (AllHeld (g.M.DiskRoom.taken c.args.room.now) d.faults s.dir 1) (sym none) tt;
      hold = λ told. subst (AllHold d.cells (λ (k : ℕ). images_at (g.M.DiskRoom.cells c.args.room.now) s.dir k) 1) (sym none) tt;
      kept = λ other less. refl;
      later = at-least-itself (g.M.DiskRoom.faults c.args.room.now);
      lent = lent-none s.dir 4 1 (g.M.DiskRoom.cells c.args.room.now) (g.M.DiskRoom.taken c.args.room.now);
    }

-- ---- what it leaves of the room

pub returns-clause-lent : goal.returns-clause-lent
returns-clause-lent g c =
    let l = c.loop-before in
    let m = g.M.DiskRoom in
    let s = c.args.group.now in
    let all : l.before + 1 ≡ s.members + 1 = omega (arith, c.loop-before-test.false, l.auto.before-end) in
    lent-along s.dir s.dir 1 1 (s.members + 1) (l.before + 1) 4 (change (m.cells c.args.room.now) (m.cells l.room) (m.taken c.args.room.now) (m.taken l.room)) refl refl all l.invariant.lent

pub returns-in-Err-clause-back : goal.returns-in-Err-clause-back
returns-in-Err-clause-back g c =
    let l = c.loop-before in
    let m = g.M.DiskRoom in
    let s = c.args.group.now in
    let opened = c.open_member.new.room in
    let after = c.close_all.new.room in
    let many : vec_len l.berths + 1 ≡ l.before + 1 = omega (arith, l.invariant.many) in
    let upto : l.before + 1 < s.members + 1 = omega (arith, c.loop-before-test.true) in
    rest-devices-next s.dir s.dir 1 (l.before + 1) c.new.result (m.cells c.args.room.now) (m.cells l.room) (m.cells opened) (m.taken c.args.room.now) (m.taken l.room) (m.taken opened) refl c.new.ensures (omega arith)
    (s.members + 1) (m.cells after) (m.taken after) upto l.invariant.lent c.open_member.ensures.beside c.open_member.ensures.beside_taken c.in-Err.ensures.back
    (returned-along s.dir c.as_slice-dir.result.now 1 1 (l.before + 1) (vec_len l.berths + 1) 4 (change (m.cells opened) (m.cells after) (m.taken opened) (m.taken after)) c.as_slice-dir.ensures refl many c.close_all.ensures.returned)

-- a store is refused, and all devices hold what they held
pub returns-in-Err-clause-same : goal.returns-in-Err-clause-same
returns-in-Err-clause-same g c = λ entry is told member low high.
    let l = c.loop-before in
    let d = g.M.Disk.Disk in
    let m = g.M.DiskRoom in
    let s = c.args.group.now in
    let opened = c.open_member.new.room in
    let after = c.close_all.new.room in
    let start = m.cells c.args.room.now in
    let end : c.in-Err.end ≡ ends.Store entry = cc in
    let many : vec_len l.berths + 1 ≡ l.before + 1 = omega (arith, l.invariant.many) in
    let closed : (k : ℕ) → 1 ≤ k → k ≤ l.before → images_at (m.cells after) s.dir k ≡ images_at start s.dir k =
    λ k least most. subst (λ (dir : List ℕ). images_at (m.cells after) dir k ≡ images_at start s.dir k) c.as_slice-dir.ensures
    (c.close_all.ensures.contents (λ (n : ℕ). images_at start s.dir n) told (l.invariant.hold told) k least (omega (arith, most, l.invariant.many))) in
    let back = returned-along s.dir c.as_slice-dir.result.now 1 1 (l.before + 1) (vec_len l.berths + 1) 4 (change (m.cells opened) (m.cells after) (m.taken opened) (m.taken after)) c.as_slice-dir.ensures refl many c.close_all.ensures.returned in
    all-as-begun s.dir l.before c.new.result start (m.cells l.room) (m.cells opened) (m.cells after) c.new.ensures l.invariant.kept c.open_member.ensures.beside
    (c.in-Err.ensures.same_back entry (ap (λ (x : OpeningEnd). Err x) end) told) back.kept closed member low
