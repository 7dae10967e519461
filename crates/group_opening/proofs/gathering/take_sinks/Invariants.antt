use Rattle.std.proofs.Common.{◌≡◌, ◌≤◌, ◌<◌, ◌+◌, ℕ, [], length, get_or, vec_len, vec_capacity}
use Rattle.group_opening.specs.Berths.{IsHeaded}
use Rattle.group_opening.specs.Rooms.{IsLent}
use Rattle.group_opening.proofs.Ranges.{change}
use Rattle.group_opening.proofs.gathering.take_sinks.Given as goal

abbrev pub invariant-loop-index : goal.invariant-loop-index
invariant-loop-index g l =
    let sink = g.T.Sink.Sink in record {
      many : vec_len l.sinks ≡ l.index + 1;
      room : length l.berths + 1 ≤ vec_capacity l.sinks;
      client : (d : _) → IsHeaded sink.written sink.faults (g.T.TrailRoom.taken l.trails) l.settings.dir 0 l.client [] (get_or l.sinks.items 0 d);
      members : (i : ℕ) (d : _) (b : _) → i < l.index → IsHeaded sink.written sink.faults (g.T.TrailRoom.taken l.trails) l.settings.dir (i + 1) (get_or l.berths i b).head (get_or l.berths i b).entries (get_or l.sinks.items (i + 1) d);
      later : g.T.TrailRoom.faults l.fn.trails ≤ g.T.TrailRoom.faults l.trails;
      lent : IsLent l.settings.dir 0 (l.index + 1) 1 (change (g.T.TrailRoom.kept l.fn.trails) (g.T.TrailRoom.kept l.trails) (g.T.TrailRoom.taken l.fn.trails) (g.T.TrailRoom.taken l.trails));
    }
