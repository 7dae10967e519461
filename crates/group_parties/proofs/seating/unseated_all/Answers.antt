use Rattle.std.proofs.Common.{◌≡◌, [], arith}
use Rattle.group_parties.proofs.Seats.{behind-all, behind-init, behind-more, nil-of, unseated-at, unseated-end, unseated-many, AreUnseated}
use Rattle.group_parties.proofs.seating.unseated_all.Goals as goal

pub loop-station-init : goal.loop-station-init
loop-station-init g c = record { room = c.requires.room; order = behind-init c.args.stations.items c.args.left.items c.requires.empty }

pub loop-station-preserved : goal.loop-station-preserved
loop-station-preserved g c =
    let l = c.loop-station in record {
      room = omega (arith, l.invariant.room, c.in-Some.ensures.cases, c.push_reserved.ensures.len, c.push_reserved.ensures.capacity);
      order = behind-more c.args.stations.items l.stations.items c.pop.new.self.items c.in-Some.station l.left.items c.push_reserved.new.self.items c.end_of.result c.in-Some.ensures.items c.push_reserved.ensures.items
          (unseated-end c.in-Some.station c.unseated_of.result c.end_of.result c.end_of.ensures c.unseated_of.ensures.0) l.invariant.order;
    }

pub returns : goal.returns
returns g c =
    let l = c.loop-station in
    let all = c.args.stations in
    let new = c.reverse.new.self in
    let none : l.stations.items ≡ [] = nil-of l.stations.items (omega (arith, l.stations.ok.0, c.in_default.ensures.cases.0)) in
    let are : AreUnseated all.items new.items = behind-all all.items l.stations.items l.left.items new.items none c.reverse.ensures.items l.invariant.order in record {
      many = omega (arith, unseated-many all.items new.items are, new.ok.0, all.ok.0);
      each = λ i d s within. unseated-at all.items new.items i s d are (omega (arith, within, all.ok.0));
    }
