use Rattle.std.proofs.Common.{sym, ◌∙◌}
use Rattle.node_rooms.proofs.Found.{not-both}
use Rattle.node_rooms.proofs.memory.MemTrailsTrailRoom.keep.Goals as goal

pub returns-else-has_failed-clause-rose : goal.returns-else-has_failed-clause-rose
returns-else-has_failed-clause-rose c = λ before taken rose. absurd (not-both (sym c.if-has_failed.false ∙ c.has_failed.ensures.failed before (c.taken-before.ensures ∙ taken) rose))

pub returns-then-has_failed-clause-steady : goal.returns-then-has_failed-clause-steady
returns-then-has_failed-clause-steady c = λ before taken not_risen. absurd (not_risen (c.has_failed.ensures.rose before (c.taken-before.ensures ∙ taken) c.if-has_failed.true))
