use Rattle.std.proofs.Common.{◌≡◌, ℕ, map}
use Rattle.std.specs.List.{All}
use Rattle.group_parties.specs.Origins.{Origin}
use Rattle.durable_store.specs.declared.disks.Disks.{Disks}
use Rattle.group_threads.specs.Desks.{IsReady}
use Rattle.group_parties.specs.Manned.{HasDesk, HasWorked}
use Rattle.group_parties.proofs.playing.play_members.Given as goal

abbrev pub invariant-loop-index : goal.invariant-loop-index
invariant-loop-index g l =
    let d = g.D.Disk in
    let p = g.P.GroupLife in record {
      ready : All (λ r. IsReady d.told d.cells (p.lane r.member) (p.restored r.member) r.desk) l.runners.items;
      since : (origins : ℕ → Origin) → All (λ r. HasDesk d.told d.remembers d.cells d.moment d.left_since g.S.Service.meaning (origins r.member) (p.lane r.member) (p.opening r.member) (p.restored r.member) r.desk) l.initial.runners.items → All (λ r. HasDesk d.told d.remembers d.cells d.moment d.left_since g.S.Service.meaning (origins r.member) (p.lane r.member) (p.opening r.member) (p.restored r.member) r.desk) l.runners.items;
      worked : (begun : ℕ → Disks g.row.D.Denot) → All (λ r. HasWorked d.faults (begun r.member) r.ends r.desk) l.initial.runners.items → All (λ r. HasWorked d.faults (begun r.member) r.ends r.desk) l.runners.items;
      same : map (λ r. r.member) l.runners.items ≡ map (λ r. r.member) l.initial.runners.items;
    }
