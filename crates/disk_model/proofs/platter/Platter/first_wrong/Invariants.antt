use Rattle.disk_model.specs.Cells.{NoneWrong}
use Rattle.disk_model.specs.Platters.{cells_of}
use Rattle.disk_model.proofs.platter.Platter.first_wrong.Given as goal

abbrev pub invariant-loop-i : goal.invariant-loop-i
invariant-loop-i l = NoneWrong (cells_of l.self) l.bytes l.i
