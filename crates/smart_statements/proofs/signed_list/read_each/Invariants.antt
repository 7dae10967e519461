use Rattle.std.proofs.Common.{◌≡◌, ◌-◌, length}
use Rattle.smart_base.specs.Cuts.{times_at}
use Rattle.smart_base.specs.Laws.{with_front}
use Rattle.smart_statements.specs.Reading.{signed_at}
use Rattle.smart_statements.proofs.signed_list.read_each.Given as goal

-- what is read and what is still to be read are the whole list
abbrev pub invariant-loop-turn : goal.invariant-loop-turn
invariant-loop-turn g l =
    (with_front l.list (times_at (signed_at (g.W.Selection.form l.fn.which)) (l.count - l.turn) l.cut) ≡ times_at (signed_at (g.W.Selection.form l.fn.which)) l.count l.fn.cut)
    × (length l.list ≡ l.turn)
