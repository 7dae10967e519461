use Rattle.std.proofs.Common.{◌≡◌, ◌∙◌, ◌+◌, length, ap}
use Rattle.disk_model.specs.declared.platter.Platter.{Platter}
use Rattle.disk_model.specs.Cells.{Cells}
use Rattle.disk_model.specs.declared.platter.Range.{Range}
use Rattle.disk_model.specs.Replay.{torn_write}
use Rattle.disk_model.specs.Platters.{cells_of}
use Rattle.disk_model.specs.Memory.{disk_cells}
use Rattle.disk_model.proofs.Images.{begun, torn}
use Rattle.disk_model.proofs.memory.MemDiskDisk.write_at.Goals as goal

pub returns-then-not-has_room-clause-torn : goal.returns-then-not-has_room-clause-torn
returns-then-not-has_room-clause-torn c =
    begun c.args.at c.args.bytes.now (disk_cells c.args.self.now) (disk_cells c.want.new.self) c.requires (ap (λ (p : Platter). cells_of p) (c.want.ensures.platter ∙ c.is_to_fail-is_to_fail.ensures.platter))

pub returns-in-Ok-clause-torn : goal.returns-in-Ok-clause-torn
returns-in-Ok-clause-torn c =
    let range : Range = record { from = c.args.at; upto = c.args.at + length c.args.bytes.now } in
    let old : disk_cells c.is_to_fail-is_to_fail.new.self ≡ disk_cells c.args.self.now = ap (λ (p : Platter). cells_of p) c.is_to_fail-is_to_fail.ensures.platter in
    let counted : disk_cells c.fault.new.self ≡ disk_cells c.make.new.self = ap (λ (p : Platter). cells_of p) c.fault.ensures.platter in
    torn c.args.at c.args.bytes.now (disk_cells c.args.self.now) (disk_cells c.fault.new.self) c.requires (counted ∙ c.in-Ok.ensures.ok ∙ ap (λ (s : Cells). torn_write range s) old)

pub returns-in-Err-clause-torn : goal.returns-in-Err-clause-torn
returns-in-Err-clause-torn c =
    begun c.args.at c.args.bytes.now (disk_cells c.args.self.now) (disk_cells c.want-in-Err.new.self) c.requires (ap (λ (p : Platter). cells_of p) c.want-in-Err.ensures.platter ∙ c.in-Err.ensures.err ∙ ap (λ (p : Platter). cells_of p) c.is_to_fail-is_to_fail.ensures.platter)

pub returns-in-Err-from_slice-clause-torn : goal.returns-in-Err-from_slice-clause-torn
returns-in-Err-from_slice-clause-torn c =
    begun c.args.at c.args.bytes.now (disk_cells c.args.self.now) (disk_cells c.want-in-Err-from_slice.new.self) c.requires (ap (λ (p : Platter). cells_of p) c.want-in-Err-from_slice.ensures.platter ∙ ap (λ (p : Platter). cells_of p) c.is_to_fail-is_to_fail.ensures.platter)

pub returns-in-Err-make-clause-torn : goal.returns-in-Err-make-clause-torn
returns-in-Err-make-clause-torn c =
    begun c.args.at c.args.bytes.now (disk_cells c.args.self.now) (disk_cells c.want-in-Err-make.new.self) c.requires (ap (λ (p : Platter). cells_of p) c.want-in-Err-make.ensures.platter ∙ c.in-Err-make.ensures.err ∙ ap (λ (p : Platter). cells_of p) c.is_to_fail-is_to_fail.ensures.platter)
