use Rattle.std.proofs.Common.{◌≤◌}
use Rattle.std.specs.Io.KnownBytes.{Consumes}
use Rattle.smart_chart.proofs.reading.read_all.Given as goal

-- what was read so far is what was consumed
abbrev pub invariant-loop : goal.invariant-loop
invariant-loop g l = record {
  consumed : Consumes (g.I.Source.left l.fn.input) (g.I.Source.left l.input) l.bytes.items;
  later : g.I.Source.faults l.fn.input ≤ g.I.Source.faults l.input;
}
