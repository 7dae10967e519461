use Rattle.std.proofs.Common.{◌≤◌}
use Rattle.std.specs.Io.KnownBytes.{Consumes}
use Rattle.audit_play.proofs.input.read_input.Given as goal

-- the bytes that were read so far are those that were consumed
abbrev pub invariant-loop : goal.invariant-loop
invariant-loop g l =
    record {
      consumed : Consumes (g.I.Source.left l.fn.input) (g.I.Source.left l.input) l.bytes.items;
      faults : g.I.Source.faults l.fn.input ≤ g.I.Source.faults l.input;
    }
