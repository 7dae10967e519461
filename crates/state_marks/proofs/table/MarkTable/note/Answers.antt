use Rattle.std.proofs.Common.{sym, subst}
use Rattle.state_marks.specs.Tables.{IsTable}
use Rattle.state_marks.proofs.Tables.{more_kept}
use Rattle.state_marks.proofs.table.MarkTable.note.Goals as goal

pub invariant_of-self-2 : goal.invariant_of-self-2
invariant_of-self-2 c = subst IsTable (sym c.in_ok-keep.ensures.ok) (more_kept c.self.inside.marks.items c.args.mark c.self.invariant)
