use Rattle.std.proofs.Common.{arith}
use Rattle.log_stream.proofs.Pieces.{not_read, part_held, part_read, shows_read, shows_nothing}
use Rattle.log_stream.proofs.window.Window.show.Goals as goal

pub returns-then-has-clause-part : goal.returns-then-has-clause-part
returns-then-has-clause-part g c = λ told.
    let h = c.has.ensures c.if-has.true in
    part_held (g.D.Disk.cells c.args.device.now).now c.args.self.now c.args.at c.args.count (c.requires.shows told) h.0 h.1

pub returns-then-has-clause-still : goal.returns-then-has-clause-still
returns-then-has-clause-still g c = λ told. not_read g.D.Disk.cells g.D.Disk.moment g.D.Disk.left_since c.args.device.now

pub returns-in_err-piece-clause-shows : goal.returns-in_err-piece-clause-shows
returns-in_err-piece-clause-shows g c = λ told. rw c.new.ensures (shows_nothing (g.D.Disk.cells c.read.new.self).now c.args.at)

pub returns-clause-shows : goal.returns-clause-shows
returns-clause-shows g c = λ told. shows_read (g.D.Disk.cells c.args.device.now) (g.D.Disk.cells c.read.new.self) c.in_ok-piece.piece c.args.at 65536 (c.read.ensures.same told) (c.in_ok-piece.ensures.bytes told)

pub returns-clause-part : goal.returns-clause-part
returns-clause-part g c = λ told. part_read (g.D.Disk.cells c.args.device.now).now c.in_ok-piece.piece c.args.at c.args.count 65536 (c.in_ok-piece.ensures.bytes told) (omega (arith, c.requires.few))
