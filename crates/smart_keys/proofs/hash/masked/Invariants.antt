use Rattle.std.proofs.Common.{◌≡◌, take, map, length}
use Rattle.std.specs.Prelude.{bit_xor}
use Rattle.smart_keys.proofs.hash.masked.Given as goal

-- the bytes so far are masked
abbrev pub invariant-loop-i : goal.invariant-loop-i
invariant-loop-i l = record { long : length l.out ≡ 64; front : take l.i l.out ≡ map (λ byte. bit_xor byte l.pad) (take l.i l.block) }
