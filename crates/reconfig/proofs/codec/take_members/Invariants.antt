use Rattle.std.proofs.Common.{◌≡◌, ◌-◌}
use Rattle.smart_base.specs.Cuts.{times_at}
use Rattle.smart_base.specs.Laws.{with_front}
use Rattle.reconfig.specs.Changes.{member_at}
use Rattle.reconfig.proofs.codec.take_members.Given as goal

-- what is read and what is still to be read are all members
abbrev pub invariant-loop-turn : goal.invariant-loop-turn
invariant-loop-turn l = with_front l.list (times_at member_at (l.count - l.turn) l.cut) ≡ times_at member_at l.fn.count l.fn.cut
