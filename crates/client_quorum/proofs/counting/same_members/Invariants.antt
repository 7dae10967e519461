use Rattle.std.proofs.Common.{◌≡◌, drop}
use Rattle.smart_base.specs.Lists.{same_bytes}
use Rattle.client_quorum.proofs.counting.same_members.Given as goal

-- what is left is equal exactly where all is
abbrev pub invariant-loop-i : goal.invariant-loop-i
invariant-loop-i l = same_bytes (drop l.i l.a) (drop l.i l.b) ≡ same_bytes l.a l.b
