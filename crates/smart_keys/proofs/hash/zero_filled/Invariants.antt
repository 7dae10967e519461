use Rattle.std.proofs.Common.{◌≡◌, ◌-◌, take, drop, replicate, length}
use Rattle.smart_keys.proofs.hash.zero_filled.Given as goal

-- the bytes so far stand at the front, with zeros behind
abbrev pub invariant-loop-i : goal.invariant-loop-i
invariant-loop-i l = record { long : length l.block ≡ 64; front : take l.i l.block ≡ take l.i l.bytes; rest : drop l.i l.block ≡ replicate (64 - l.i) 0 }
