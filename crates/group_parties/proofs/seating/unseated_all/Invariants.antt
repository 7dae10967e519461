use Rattle.std.proofs.Common.{◌≤◌, ◌+◌, vec_len, vec_capacity}
use Rattle.group_parties.proofs.Seats.{IsBehind}
use Rattle.group_parties.proofs.seating.unseated_all.Given as goal

abbrev pub invariant-loop-station : goal.invariant-loop-station
invariant-loop-station g l = record {
  room : vec_len l.left + vec_len l.stations ≤ vec_capacity l.left;
  order : IsBehind l.fn.stations.items l.stations.items l.left.items;
}

abbrev pub decreases-loop-station : goal.decreases-loop-station
decreases-loop-station g l = vec_len l.stations
