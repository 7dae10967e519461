use Rattle.std.proofs.Common.{◌≡◌, ◌≤◌, ◌<◌, ◌^◌, ℕ, Some, vec_len}
use Rattle.disk_model.specs.Rooms.{address}
use Rattle.group_opening.specs.Rooms.{IsReturned}
use Rattle.group_opening.proofs.Ranges.{change}
use Rattle.group_opening.proofs.gathering.keep_sinks.Given as goal

abbrev pub invariant-loop-sink : goal.invariant-loop-sink
invariant-loop-sink g l =
    let t = g.T.TrailRoom in record {
      few : vec_len l.sinks ≤ 2 ^ 16;
      left : vec_len l.sinks ≤ vec_len l.fn.sinks;
      taken : (index : ℕ) → index < vec_len l.sinks → (before : ℕ) × (t.taken l.trails (address l.dir index 0) ≡ Some before);
      later : t.faults l.fn.trails ≤ t.faults l.trails;
      returned : IsReturned l.dir (vec_len l.sinks) (vec_len l.fn.sinks) 1 (change (t.kept l.fn.trails) (t.kept l.trails) (t.taken l.fn.trails) (t.taken l.trails));
    }

abbrev pub decreases-loop-sink : goal.decreases-loop-sink
decreases-loop-sink g l = vec_len l.sinks
