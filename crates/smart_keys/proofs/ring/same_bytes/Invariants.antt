use Rattle.std.proofs.Common.{◌≡◌, ◌&&◌, drop}
use Rattle.smart_base.specs.Lists.{same_bytes}
use Rattle.smart_keys.proofs.ring.same_bytes.Given as goal

-- the bytes so far and the bytes left are the same exactly where all are
abbrev pub invariant-loop-i : goal.invariant-loop-i
invariant-loop-i l = (l.same && same_bytes (drop l.i l.a) (drop l.i l.b)) ≡ same_bytes l.a l.b
