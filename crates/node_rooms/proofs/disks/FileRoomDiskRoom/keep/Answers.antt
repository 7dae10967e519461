use Rattle.std.proofs.Common.{sym, subst, ◌∙◌}
use Rattle.faults.specs.Counts.{Rose}
use Rattle.node_rooms.proofs.Found.{not-both}
use Rattle.node_rooms.proofs.disks.FileRoomDiskRoom.keep.Goals as goal

pub returns-clause-rose : goal.returns-clause-rose
returns-clause-rose g c = λ before taken rose.
    absurd (not-both (sym c.if-has_failed.false ∙ c.has_failed.ensures.failed before (c.taken-before.ensures ∙ taken) (subst (Rose before) (sym c.faults-now.ensures) rose)))

pub returns-then-has_failed-clause-steady : goal.returns-then-has_failed-clause-steady
returns-then-has_failed-clause-steady g c = λ before taken not_risen.
    absurd (not_risen (subst (Rose before) c.faults-now.ensures (c.has_failed.ensures.rose before (c.taken-before.ensures ∙ taken) c.if-has_failed.true)))
