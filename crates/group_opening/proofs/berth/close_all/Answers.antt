use Rattle.std.proofs.Common.{◌≡◌, ◌+◌, ◌<◌, ◌≤◌, length, vec_len, refl, subst, arith}
use Rattle.disk_model.specs.Rooms.{Address}
use Rattle.group_opening.specs.Berths.{AllHeld}
use Rattle.group_opening.proofs.Berthing.{at-least-itself}
use Rattle.group_opening.proofs.Lending.{returned-along, returned-devices-next}
use Rattle.group_opening.proofs.Opening.{all-front, all-last, all-same, beside-other, holding-first, holding-last, holding-next}
use Rattle.group_opening.proofs.Ranges.{change, returned-none}
use Rattle.group_opening.proofs.berth.close_all.Goals as goal

pub close_member-requires : goal.close_member-requires
close_member-requires g c =
    let l = c.loop-berth in
    let taken = g.M.DiskRoom.taken l.room in
    let faults = g.M.Disk.Disk.faults in
    (all-last taken faults c.args.dir.now 1 c.pop.new.self.items c.in-Some.berth (subst (AllHeld taken faults c.args.dir.now 1) c.in-Some.ensures.items l.invariant.held)).1

pub loop-berth-init : goal.loop-berth-init
loop-berth-init g c =
    let m = g.M.DiskRoom in record {
      held = c.requires;
      few = at-least-itself (vec_len c.args.berths);
      holds = λ images told all. holding-first g.M.Disk.Disk.cells images c.args.dir.now (m.cells c.args.room.now) (vec_len c.args.berths) c.args.berths.items (omega (arith, c.args.berths.ok.0)) all;
      later = at-least-itself (m.faults c.args.room.now);
      returned = returned-none c.args.dir.now 4 (vec_len c.args.berths + 1) (m.cells c.args.room.now) (m.taken c.args.room.now);
    }

pub loop-berth-preserved : goal.loop-berth-preserved
loop-berth-preserved g c =
    let l = c.loop-berth in
    let m = g.M.DiskRoom in
    let start = c.args.room.now in
    let new = c.close_member.new.room in
    let taken = m.taken l.room in
    let after = m.taken new in
    let faults = g.M.Disk.Disk.faults in
    let dir = c.args.dir.now in
    let left = c.pop.new.self in
    let berth = c.in-Some.berth in
    let was = subst (AllHeld taken faults dir 1) c.in-Some.ensures.items l.invariant.held in
    let last = all-last taken faults dir 1 left.items berth was in
    let few : 1 + length left.items ≤ 1 + length left.items = omega arith in
    let less : vec_len l.berths ≡ vec_len left + 1 = omega (arith, c.in-Some.ensures.len) in
    let more : vec_len l.berths + 1 ≡ vec_len left + 1 + 1 = omega (arith, less) in
    let most : vec_len l.berths + 1 ≤ vec_len c.args.berths + 1 = omega (arith, l.invariant.few) in
    let here : berth.settings.member ≡ vec_len left + 1 = omega (arith, last.0, left.ok.0) in
    record {
      held = all-same taken after faults dir 1 (1 + length left.items) left.items few
          (λ (other : Address) (less : other.member < 1 + length left.items). beside-other dir berth.settings.member taken after c.close_member.ensures.beside_taken other
          (λ (same : other.member ≡ berth.settings.member). omega (arith, same, less, last.0)))
          (all-front taken faults dir 1 left.items berth was);
      few = omega (arith, less, l.invariant.few);
      holds = λ images told all. holding-next g.M.Disk.Disk.cells images dir (m.cells l.room) (m.cells new) (vec_len c.args.berths) left.items l.berths.items berth c.in-Some.ensures.items last.0 c.close_member.ensures.beside
          (c.close_member.ensures.contents told) (l.invariant.holds images told all);
      later = omega (arith, l.invariant.later, c.close_member.ensures.later);
      returned = returned-devices-next dir (vec_len left + 1) (vec_len l.berths + 1) (vec_len c.args.berths + 1) berth.settings.member (m.cells start) (m.cells l.room) (m.cells new) (m.taken start) taken after more most here
          l.invariant.returned c.close_member.ensures.beside c.close_member.ensures.beside_taken c.close_member.ensures.back;
    }

pub returns-clause-returned : goal.returns-clause-returned
returns-clause-returned g c =
    let l = c.loop-berth in
    let m = g.M.DiskRoom in
    let dir = c.args.dir.now in
    let none : vec_len l.berths ≡ 0 = omega (arith, l.berths.ok.0, c.in_default.ensures.cases.0) in
    let low : vec_len l.berths + 1 ≡ 1 = omega (arith, none) in
    let all = vec_len c.args.berths + 1 in
    returned-along dir dir 1 (vec_len l.berths + 1) all all 4 (change (m.cells c.args.room.now) (m.cells l.room) (m.taken c.args.room.now) (m.taken l.room)) refl low refl l.invariant.returned

pub returns-clause-contents : goal.returns-clause-contents
returns-clause-contents g c = λ images told all.
    let l = c.loop-berth in
    let none : length l.berths.items ≡ 0 = omega (arith, l.berths.ok.0, c.in_default.ensures.cases.0) in
    holding-last g.M.Disk.Disk.cells images c.args.dir.now (g.M.DiskRoom.cells l.room) (vec_len c.args.berths) l.berths.items none (l.invariant.holds images told all)
