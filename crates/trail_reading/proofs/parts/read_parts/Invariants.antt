use Rattle.std.proofs.Common.{◌≡◌, Some}
use Rattle.audit_rules.specs.Readings.{parts_read}
use Rattle.trail_reading.proofs.parts.read_parts.Given as goal

-- so many parts were read, and this is left
abbrev pub invariant-loop-count : goal.invariant-loop-count
invariant-loop-count l = parts_read l.fn.bytes l.count ≡ Some (record { reading = l.reading; cut = l.cut })
