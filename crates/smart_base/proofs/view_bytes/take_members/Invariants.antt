use Rattle.std.proofs.Common.{◌≡◌, ◌-◌}
use Rattle.smart_base.specs.Laws.{with_front}
use Rattle.smart_base.specs.ViewBytes.{members_at}
use Rattle.smart_base.proofs.view_bytes.take_members.Given as goal

-- what is read and what is still to be read are all members
abbrev pub invariant-loop-turn : goal.invariant-loop-turn
invariant-loop-turn l = with_front l.list (members_at l.last (l.count - l.turn) l.cut) ≡ members_at 0 l.count l.fn.cut
