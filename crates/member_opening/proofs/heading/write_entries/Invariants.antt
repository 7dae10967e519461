use Rattle.std.proofs.Common.{◌≤◌, take}
use Rattle.std.specs.List.{flat_map}
use Rattle.std.specs.Io.KnownBytes.{Appends}
use Rattle.trail.specs.Trails.{part}
use Rattle.member_opening.proofs.heading.write_entries.Given as goal

abbrev pub invariant-loop-entry : goal.invariant-loop-entry
invariant-loop-entry g l = record {
  wrote : Appends (g.O.Sink.written l.fn.sink) (g.O.Sink.written l.sink) (flat_map part (take l.entry-index l.entries));
  later : g.O.Sink.faults l.fn.sink ≤ g.O.Sink.faults l.sink;
}
