use Rattle.std.proofs.Common.{◌≡◌, ◌∙◌, ℕ, suc, ◌+◌, ◌-◌, [], length, map, reverse, get_or, refl, ap, sym, subst, arith}
use Rattle.std.proofs.lemmas.List.{length-map, reverse-reverse}
use Rattle.std.proofs.lemmas.List.Elements.{All-nil, All-same}
use Rattle.group_threads.specs.Desks.{IsReady}
use Rattle.group_parties.specs.Manned.{HasDesk, HasWorked}
use Rattle.group_parties.specs.Stations.{Names, AreBegun, AreOpened, AreStations}
use Rattle.group_parties.specs.Unseated.{IsUnseated}
use Rattle.group_parties.proofs.Seats.{all-next, begun-next, if-ok-both, nil-of, none-of, opened-next, seated-at, split-all, split-count, split-init, split-many, split-next, stations-next, unseated-back}
use Rattle.group_parties.proofs.seating.seat_all.Goals as goal

pub loop-station-init : goal.loop-station-init
loop-station-init g c =
    let d = g.D.Disk in
    let o = g.O.Sink in
    let p = g.P.GroupLife in
    let w = g.P.Owner in
    let names : Names g.row.S.Denot = record { head = w.head; entries = w.entries; begun = w.begun; failures = w.failures; receivers = w.receivers; leaving = w.leaving; arriving = w.arriving; lane = p.lane; restored = p.restored; opening = p.opening } in
    let runners = c.args.places.runners.items in
    let empty = c.requires.empty.0 in
    let again : reverse c.reverse.new.self.items ≡ c.args.stations.items = ap reverse c.reverse.ensures.items ∙ reverse-reverse c.args.stations.items in record {
      room = c.requires.room;
      order = split-init c.args.stations.items c.reverse.new.self.items (map (λ r. r.member) runners) c.args.places.left.items c.reverse.ensures.items (ap (map (λ r. r.member)) empty) c.requires.empty.1;
      ready = All-same (λ r. IsReady d.told d.cells (p.lane r.member) (p.restored r.member) r.desk) runners [] empty (All-nil (λ r. IsReady d.told d.cells (p.lane r.member) (p.restored r.member) r.desk));
      come = (
        1,
        (
          subst (λ ss. AreStations names d.told d.cells o.written o.faults 1 ss) (sym again) c.requires.stations,
          (
            λ origins opened. (
              All-same (λ r. HasDesk d.told d.remembers d.cells d.moment d.left_since g.S.Service.meaning (origins r.member) (p.lane r.member) (p.opening r.member) (p.restored r.member) r.desk) runners [] empty
                  (All-nil (λ r. HasDesk d.told d.remembers d.cells d.moment d.left_since g.S.Service.meaning (origins r.member) (p.lane r.member) (p.opening r.member) (p.restored r.member) r.desk)),
              subst (λ ss. AreOpened d.told d.cells origins 1 ss) (sym again) opened,
            ),
            λ begun had. (
              All-same (λ r. HasWorked d.faults (begun r.member) r.ends r.desk) runners [] empty (All-nil (λ r. HasWorked d.faults (begun r.member) r.ends r.desk)),
              subst (λ ss. AreBegun begun 1 ss) (sym again) had,
            ),
          ),
        ),
      );
    }

pub seat_next-seated-requires : goal.seat_next-seated-requires
seat_next-seated-requires g c =
    let d = g.D.Disk in
    let o = g.O.Sink in
    let p = g.P.GroupLife in
    let w = g.P.Owner in
    let names : Names g.row.S.Denot = record { head = w.head; entries = w.entries; begun = w.begun; failures = w.failures; receivers = w.receivers; leaving = w.leaving; arriving = w.arriving; lane = p.lane; restored = p.restored; opening = p.opening } in
    let l = c.loop-station in
    (stations-next names d.told d.cells o.written o.faults l.invariant.come.0 l.stations.items c.pop.new.self.items c.in-Some.station c.in-Some.ensures.items l.invariant.come.1.0).1

pub put_seat-requires : goal.put_seat-requires
put_seat-requires g c =
    let l = c.loop-station in
    let all = split-count c.args.stations.items l.stations.items (map (λ r. r.member) l.runners.items) l.left.items l.invariant.order in
    let count = length-map l.runners.items (λ r. r.member) in record {
      room = (
        omega (arith, all, count, l.invariant.room.0, c.in-Some.ensures.cases, l.stations.ok.0, l.runners.ok.0, l.left.ok.0, c.args.stations.ok.0),
        omega (arith, all, count, l.invariant.room.1, c.in-Some.ensures.cases, l.stations.ok.0, l.runners.ok.0, l.left.ok.0, c.args.stations.ok.0),
      );
    }

pub loop-station-preserved : goal.loop-station-preserved
loop-station-preserved g c =
    let d = g.D.Disk in
    let o = g.O.Sink in
    let p = g.P.GroupLife in
    let w = g.P.Owner in
    let names : Names g.row.S.Denot = record { head = w.head; entries = w.entries; begun = w.begun; failures = w.failures; receivers = w.receivers; leaving = w.leaving; arriving = w.arriving; lane = p.lane; restored = p.restored; opening = p.opening } in
    let l = c.loop-station in
    let i = l.invariant in
    let s = c.in-Some.station in
    let old = l.stations.items in
    let rest = c.pop.new.self.items in
    let items = c.in-Some.ensures.items in
    let seated = c.seat_next-seated.result in
    let e = c.seat_next-seated.ensures in
    let put = c.put_seat.ensures.put in
    let runners = l.runners.items in
    let now = c.put_seat.new.runners.items in
    let left = l.left.items in
    let after = c.put_seat.new.left.items in
    let first = i.come.0 in
    let next = stations-next names d.told d.cells o.written o.faults first old rest s items i.come.1.0 in record {
      room = (omega (arith, i.room.0, c.put_seat.ensures.room.0), omega (arith, i.room.1, c.put_seat.ensures.room.1));
      order = split-next (λ r. r.member) c.args.stations.items old rest s seated runners now left after items (λ is. nil-of left (omega (arith, none-of (l.left.len) c.is_empty.result c.is_empty.ensures (e.whole is), l.left.ok.0))) e.number e.back put i.order;
      ready = all-next (λ r. IsReady d.told d.cells (p.lane r.member) (p.restored r.member) r.desk) s.member seated runners now left after put e.ready i.ready;
      come = (
        suc first,
        (
          next.2,
          (
            λ origins opened.
                let had = i.come.1.1.0 origins opened in
                let more = opened-next d.told d.cells origins first old rest s items had.1 in (
                  all-next (λ r. HasDesk d.told d.remembers d.cells d.moment d.left_since g.S.Service.meaning (origins r.member) (p.lane r.member) (p.opening r.member) (p.restored r.member) r.desk) s.member seated runners now left after put
                      (if-ok-both (λ r. r.member ≡ s.member) (λ r. HasDesk d.told d.remembers d.cells d.moment d.left_since g.S.Service.meaning (origins first) (p.lane r.member) (p.opening r.member) (p.restored r.member) r.desk)
                      (λ r. HasDesk d.told d.remembers d.cells d.moment d.left_since g.S.Service.meaning (origins r.member) (p.lane r.member) (p.opening r.member) (p.restored r.member) r.desk) seated
                      (λ r number desk. subst (λ (n : ℕ). HasDesk d.told d.remembers d.cells d.moment d.left_since g.S.Service.meaning (origins n) (p.lane r.member) (p.opening r.member) (p.restored r.member) r.desk) (sym (number ∙ next.0)) desk)
                      e.number (e.manned (origins first) more.0)) had.0,
                  more.1,
                ),
            λ begun had.
                let was = i.come.1.1.1 begun had in
                let more = begun-next begun first old rest s items was.1 in (
                  all-next (λ r. HasWorked d.faults (begun r.member) r.ends r.desk) s.member seated runners now left after put
                      (if-ok-both (λ r. r.member ≡ s.member) (λ r. HasWorked d.faults s.store.disks r.ends r.desk) (λ r. HasWorked d.faults (begun r.member) r.ends r.desk) seated
                      (λ r number desk. subst (λ ds. HasWorked d.faults ds r.ends r.desk) (sym (ap begun (number ∙ next.0) ∙ more.0)) desk) e.number e.worked) was.0,
                  more.1,
                ),
          ),
        ),
      );
    }

pub returns : goal.returns
returns g c =
    let l = c.loop-station in
    let i = l.invariant in
    let all = c.args.stations in
    let none : l.stations.items ≡ [] = nil-of l.stations.items (omega (arith, l.stations.ok.0, c.in_default.ensures.cases.0)) in
    let rest = l.stations.items in
    let numbers = map (λ r. r.member) l.runners.items in
    let left = l.left.items in
    let turned = c.reverse-2.new.self in
    let count = length-map l.runners.items (λ r. r.member) in
    let many = split-many all.items rest numbers left i.order none in record {
      many = omega (arith, many, count, l.runners.ok.0, l.left.ok.0, all.ok.0, c.reverse-2.ensures.len);
      room = omega (arith, i.room.1, c.reverse-2.ensures.capacity);
      numbers = λ empty. split-all all.items rest numbers left i.order none (omega (arith, empty, c.reverse-2.ensures.len, l.left.ok.0));
      seated = λ k r s within. seated-at all.items rest numbers left i.order none (λ x. x.member) l.runners.items k r s refl (omega (arith, within, l.runners.ok.0));
      unseated = λ k d s from within.
          let far : length all.items - (k + 1) ≡ all.len - (k + 1) = omega (arith, all.ok.0) in
          subst (λ (n : ℕ). IsUnseated (get_or all.items k s) (get_or turned.items n d)) far
          (unseated-back all.items rest numbers left i.order none l.runners.len k turned.items s d (omega (arith, count, l.runners.ok.0)) c.reverse-2.ensures.items from (omega (arith, within, all.ok.0)));
      ready = i.ready;
      manned = λ origins opened. (i.come.1.1.0 origins opened).0;
      worked = λ begun had. (i.come.1.1.1 begun had).0;
    }
