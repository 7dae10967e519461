use Rattle.std.proofs.Common.{◌≡◌, ◌≤◌, ◌+◌, vec_len, vec_capacity}
use Rattle.group_parties.proofs.Finished.{IsFinished}
use Rattle.group_parties.proofs.Turned.{IsTurned}
use Rattle.group_parties.proofs.ending.finish_all.Given as goal

abbrev pub invariant-loop-runner : goal.invariant-loop-runner
invariant-loop-runner g l =
    let d = g.D.Disk in
    let o = g.P.Owner in
    let p = g.P.GroupLife in record {
      turned : IsTurned l.fn.runners.items l.fn.left.items l.runners.items l.left.items
          (λ r e. IsFinished (record { head = o.head; entries = o.entries; begun = o.begun; failures = o.failures; receivers = o.receivers; leaving = o.leaving; arriving = o.arriving; lane = p.lane; restored = p.restored; opening = p.opening }) d.told d.remembers d.cells d.moment d.left_since d.faults g.S.Service.meaning g.O.Sink.written g.O.Sink.faults r.member r.ends r.desk e);
      room : vec_len l.left + vec_len l.runners ≤ vec_capacity l.left;
      many : vec_len l.left + vec_len l.runners ≡ vec_len l.fn.left + vec_len l.fn.runners;
    }

abbrev pub decreases-loop-runner : goal.decreases-loop-runner
decreases-loop-runner g l = vec_len l.runners
