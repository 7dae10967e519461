use Rattle.std.proofs.Common.{◌≤◌, ◌+◌, vec_len, vec_capacity}
use Rattle.group_parties.proofs.Assembling.{IsAssembled}
use Rattle.group_parties.proofs.crew.crew_of.Given as goal

-- what is left, and what is put together, the last first
abbrev pub invariant-loop-berth : goal.invariant-loop-berth
invariant-loop-berth g l = record {
  assembled : IsAssembled l.initial.berths.items l.initial.lanes.items l.initial.rows.items l.initial.inboxes.items l.initial.sinks.items
      l.berths.items l.lanes.items l.rows.items l.inboxes.items l.sinks.items l.made.stations.items l.made.heads.items;
  room : (vec_len l.made.stations + vec_len l.berths ≤ vec_capacity l.made.stations) × (vec_len l.made.heads + vec_len l.berths ≤ vec_capacity l.made.heads);
}

abbrev pub decreases-loop-berth : goal.decreases-loop-berth
decreases-loop-berth g l = vec_len l.berths
