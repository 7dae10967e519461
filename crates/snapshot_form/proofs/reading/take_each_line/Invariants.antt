use Rattle.std.proofs.Common.{◌≡◌, ◌-◌}
use Rattle.smart_base.specs.Cuts.{times_at}
use Rattle.smart_base.specs.Laws.{with_front}
use Rattle.snapshot_form.specs.Snapshots.{line_at}
use Rattle.snapshot_form.proofs.reading.take_each_line.Given as goal

-- what is read and what is still to be read are all lines
abbrev pub invariant-loop-turn : goal.invariant-loop-turn
invariant-loop-turn l = with_front l.list (times_at line_at (l.count - l.turn) l.cut) ≡ times_at line_at l.fn.count l.fn.cut
