use Rattle.std.proofs.Common.{◌≡◌, drop}
use Rattle.smart_base.specs.Views.{ascends}
use Rattle.smart_base.proofs.view.ascends.Given as goal

-- the members left ascend from the last one as all do
abbrev pub invariant-loop-member : goal.invariant-loop-member
invariant-loop-member l = ascends l.last (drop l.member-index l.members) ≡ ascends 0 l.members
