use Rattle.std.proofs.Common.{◌∙◌, ap}
use Rattle.disk_model.specs.declared.platter.Platter.{Platter}
use Rattle.disk_model.specs.Memory.{plain_cells}
use Rattle.disk_model.specs.Platters.{cells_of}
use Rattle.disk_model.proofs.Images.{begun}
use Rattle.disk_model.proofs.plain.PlainDiskDisk.write_at.Goals as goal

pub returns-then-not-has_room-clause-torn : goal.returns-then-not-has_room-clause-torn
returns-then-not-has_room-clause-torn c = λ told. begun c.args.at c.args.bytes.now (plain_cells c.args.self.now) (plain_cells c.want.new.self) (c.requires told) (ap (λ (p : Platter). cells_of p) c.want.ensures.platter)

pub returns-in-Err-clause-torn : goal.returns-in-Err-clause-torn
returns-in-Err-clause-torn c = λ told. begun c.args.at c.args.bytes.now (plain_cells c.args.self.now) (plain_cells c.want-in-Err.new.self) (c.requires told) (ap (λ (p : Platter). cells_of p) c.want-in-Err.ensures.platter ∙ c.in-Err.ensures.err)
