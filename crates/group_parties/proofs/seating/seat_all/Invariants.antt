use Rattle.std.proofs.Common.{◌≤◌, ℕ, map, reverse, vec_len, vec_capacity}
use Rattle.std.specs.List.{All}
use Rattle.durable_store.specs.declared.disks.Disks.{Disks}
use Rattle.group_threads.specs.Desks.{IsReady}
use Rattle.group_parties.specs.Manned.{HasDesk, HasWorked}
use Rattle.group_parties.specs.Origins.{Origin}
use Rattle.group_parties.specs.Stations.{Names, AreBegun, AreOpened, AreStations}
use Rattle.group_parties.proofs.Seats.{IsSplit}
use Rattle.group_parties.proofs.seating.seat_all.Given as goal

abbrev pub invariant-loop-station : goal.invariant-loop-station
invariant-loop-station g l =
    let d = g.D.Disk in
    let o = g.O.Sink in
    let p = g.P.GroupLife in
    let w = g.P.Owner in
    let names : Names g.row.S.Denot = record { head = w.head; entries = w.entries; begun = w.begun; failures = w.failures; receivers = w.receivers; leaving = w.leaving; arriving = w.arriving; lane = p.lane; restored = p.restored; opening = p.opening } in record {
      room : (vec_len l.fn.stations ≤ vec_capacity l.runners) × (vec_len l.fn.stations ≤ vec_capacity l.left);
      order : IsSplit l.fn.stations.items l.stations.items (map (λ r. r.member) l.runners.items) l.left.items;
      ready : All (λ r. IsReady d.told d.cells (p.lane r.member) (p.restored r.member) r.desk) l.runners.items;
      come : (first : ℕ) × (AreStations names d.told d.cells o.written o.faults first (reverse l.stations.items)
          × (((origins : ℕ → Origin) → AreOpened d.told d.cells origins 1 l.fn.stations.items
          → All (λ r. HasDesk d.told d.remembers d.cells d.moment d.left_since g.S.Service.meaning (origins r.member) (p.lane r.member) (p.opening r.member) (p.restored r.member) r.desk) l.runners.items
          × AreOpened d.told d.cells origins first (reverse l.stations.items))
          × ((begun : ℕ → Disks g.row.D.Denot) → AreBegun begun 1 l.fn.stations.items
          → All (λ r. HasWorked d.faults (begun r.member) r.ends r.desk) l.runners.items × AreBegun begun first (reverse l.stations.items))));
    }

abbrev pub decreases-loop-station : goal.decreases-loop-station
decreases-loop-station g l = vec_len l.stations
