use Rattle.std.proofs.Common.{◌≡◌, ◌∙◌, ℕ, ◌+◌, ◌-◌, ◌<◌, [], length, get_or, refl, ap, arith}
use Rattle.std.proofs.lemmas.List.{nil_from_length}
use Rattle.group_parties.specs.Manned.{HoldsDesk}
use Rattle.group_parties.proofs.Turned.{turned-first, turned-more, turned-at, turned-behind, turned-holds}
use Rattle.group_parties.proofs.ending.finish_all.Goals as goal

pub loop-runner-init : goal.loop-runner-init
loop-runner-init g c = record { turned = turned-first c.args.runners.items c.args.left.items; room = c.requires.room; many = refl }

pub finish-end-requires : goal.finish-end-requires
finish-end-requires g c = record { desk = turned-holds c.pop.new.self.items c.in-Some.runner (λ r. HoldsDesk (g.P.GroupLife.lane r.member) (g.P.GroupLife.restored r.member) r.desk) c.loop-runner.invariant.turned c.in-Some.ensures.items c.requires.desks }

pub loop-runner-preserved : goal.loop-runner-preserved
loop-runner-preserved g c =
    let l = c.loop-runner in
    let f = c.finish-end.ensures in record {
      turned = turned-more c.pop.new.self.items c.in-Some.runner c.push_reserved.new.self.items c.finish-end.result l.invariant.turned c.in-Some.ensures.items c.push_reserved.ensures.items
          (record { same = f.member; lived = f.lived; since = f.since; cause = f.cause; devices = f.devices });
      room = omega (arith, l.invariant.room, c.in-Some.ensures.cases, c.push_reserved.ensures.len, c.push_reserved.ensures.capacity);
      many = omega (arith, l.invariant.many, c.in-Some.ensures.cases, c.push_reserved.ensures.len);
    }

pub returns : goal.returns
returns g c =
    let l = c.loop-runner in
    let all = c.args.runners in
    let left = c.args.left in
    let none : l.runners.items ≡ [] = nil_from_length l.runners.items (omega (arith, l.runners.ok.0, c.in_default.ensures.cases.0)) in
    let at = turned-at c.reverse.new.self.items l.invariant.turned none c.reverse.ensures.items in
    let last = turned-behind c.reverse.new.self.items l.invariant.turned none c.reverse.ensures.items in
    let few : (i : ℕ) → i < all.len → i < length all.items = λ i within. omega (arith, within, all.ok.0) in record {
      many = omega (arith, c.reverse.ensures.len, l.invariant.many, c.in_default.ensures.cases.0);
      members = λ i d r within. (at i r d (few i within)).same;
      lived = λ origins i d r within. (at i r d (few i within)).lived (origins (get_or all.items i r).member);
      since = λ origins i d r within. (at i r d (few i within)).since (origins (get_or all.items i r).member);
      cause = λ i d r within. (at i r d (few i within)).cause;
      devices = λ begun i d r within. (at i r d (few i within)).devices (begun (get_or all.items i r).member);
      behind = λ i d e high low.
          let index : length left.items + length all.items - (i + 1) ≡ left.len + all.len - (i + 1) = omega (arith, all.ok.0, left.ok.0) in
          last i d e (omega (arith, high, all.ok.0)) (omega (arith, low, all.ok.0, left.ok.0)) ∙ ap (λ (k : ℕ). get_or left.items k e) index;
    }
