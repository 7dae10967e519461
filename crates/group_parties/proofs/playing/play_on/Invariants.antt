use Rattle.std.proofs.Common.{◌≡◌, ◌≤◌, ℕ, List, ◌++◌, map, false, None}
use Rattle.std.specs.List.{All}
use Rattle.group_parties.specs.Origins.{Origin}
use Rattle.durable_store.specs.declared.disks.Disks.{Disks}
use Rattle.trail.specs.declared.event.TrailEvent.{TrailEvent}
use Rattle.group_ends.specs.Journals.{has_end}
use Rattle.group_client.specs.Amounts.{amounts, asked_in}
use Rattle.group_client.specs.Lines.{accepted, IsTold}
use Rattle.group_threads.specs.Desks.{IsReady}
use Rattle.group_parties.specs.Manned.{HasDesk, HasWorked}
use Rattle.group_parties.proofs.playing.play_on.Given as goal

abbrev pub invariant-loop : goal.invariant-loop
invariant-loop g l =
    let d = g.D.Disk in
    let p = g.P.GroupLife in
    let head = g.P.Owner.head 0 in record {
      ready : All (λ r. IsReady d.told d.cells (p.lane r.member) (p.restored r.member) r.desk) l.runners.items;
      since : (origins : ℕ → Origin) → All (λ r. HasDesk d.told d.remembers d.cells d.moment d.left_since g.S.Service.meaning (origins r.member) (p.lane r.member) (p.opening r.member) (p.restored r.member) r.desk) l.fn.runners.items → All (λ r. HasDesk d.told d.remembers d.cells d.moment d.left_since g.S.Service.meaning (origins r.member) (p.lane r.member) (p.opening r.member) (p.restored r.member) r.desk) l.runners.items;
      worked : (begun : ℕ → Disks g.row.D.Denot) → All (λ r. HasWorked d.faults (begun r.member) r.ends r.desk) l.fn.runners.items → All (λ r. HasWorked d.faults (begun r.member) r.ends r.desk) l.runners.items;
      same : map (λ r. r.member) l.runners.items ≡ map (λ r. r.member) l.fn.runners.items;
      whole : l.client.over ≡ false;
      played : l.client.pending ≡ None;
      unended : has_end l.client.journal.events.items ≡ false;
      asked : asked_in l.client.journal.events.items ≡ amounts l.client.client.last;
      few : l.client.client.last ≤ l.task.asks;
      behind : (more : List TrailEvent) × (l.client.journal.events.items ≡ l.fn.client.journal.events.items ++ more);
      told : IsTold (accepted head l.fn.client.journal.events.items) (accepted head l.client.journal.events.items) (g.W.Sink.written l.fn.output) (g.W.Sink.written l.output);
      later : (g.W.Sink.faults l.fn.output ≤ g.W.Sink.faults l.output) × (g.W.Sink.wants l.fn.output ≤ g.W.Sink.wants l.output);
    }
