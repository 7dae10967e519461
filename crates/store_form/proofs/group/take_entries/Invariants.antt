use Rattle.std.proofs.Common.{◌≡◌, ◌-◌}
use Rattle.smart_base.specs.Cuts.{times_at}
use Rattle.smart_base.specs.Laws.{with_front}
use Rattle.store_form.specs.Reading.{entry_at}
use Rattle.store_form.proofs.group.take_entries.Given as goal

-- what is read and what is still to be read are all entries
abbrev pub invariant-loop-turn : goal.invariant-loop-turn
invariant-loop-turn l = with_front l.list (times_at entry_at (l.count - l.turn) l.cut) ≡ times_at entry_at l.fn.count l.fn.cut
