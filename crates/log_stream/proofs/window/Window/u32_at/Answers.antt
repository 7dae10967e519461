use Rattle.log_stream.specs.Windows.{part_of}
use Rattle.log_stream.proofs.Pieces.{some32, none32}
use Rattle.log_stream.proofs.window.Window.u32_at.Goals as goal

pub returns-in-Ok-clause-number : goal.returns-in-Ok-clause-number
returns-in-Ok-clause-number g c = λ told.
    some32 (g.D.Disk.cells c.args.device.now).now c.args.at (part_of c.show.new.self c.args.at) c.part.result.now c.new-cut.result c.in-Ok.number c.take_u32.new.self (c.in_ok-show.ensures.part told) c.part.ensures c.new-cut.ensures c.rest-all.ensures.bytes c.in-Ok.ensures.number

pub returns-in-Err-clause-number : goal.returns-in-Err-clause-number
returns-in-Err-clause-number g c = λ told.
    none32 (g.D.Disk.cells c.args.device.now).now c.args.at (part_of c.show.new.self c.args.at) c.part.result.now c.new-cut.result c.in-Err.field-0.at (c.in_ok-show.ensures.part told) c.part.ensures c.new-cut.ensures c.in-Err.ensures.number
