use Rattle.std.proofs.Common.{◌≡◌, length}
use Rattle.world_rules.specs.Scripts.{hex_bytes}
use Rattle.world_script.proofs.Values.{behind_values}
use Rattle.world_script.proofs.hex.hex_bytes.Given as goal

abbrev pub invariant-loop-high : goal.invariant-loop-high
invariant-loop-high l = behind_values l.bytes (hex_bytes l.digits) ≡ hex_bytes l.fn.digits

abbrev pub decreases-loop-high : goal.decreases-loop-high
decreases-loop-high l = length l.digits
