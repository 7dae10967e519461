use Rattle.std.proofs.Common.{◌≡◌, drop}
use Rattle.smart_view.specs.Making.{repeats}
use Rattle.smart_view.proofs.making.repeats.Given as goal

-- a number is there twice where one of those left is
abbrev pub invariant-loop-i : goal.invariant-loop-i
invariant-loop-i l = repeats (drop l.i l.members) ≡ repeats l.members
