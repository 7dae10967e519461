use Rattle.std.proofs.Common.{◌≡◌}
use Rattle.smart_keys.proofs.ring.Ring.learn_members.Given as goal

-- the ring tells what it told
abbrev pub invariant-loop-member : goal.invariant-loop-member
invariant-loop-member l = l.self ≡ l.fn.self
