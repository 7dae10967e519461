use Rattle.std.proofs.Common.{◌∙◌}
use Rattle.log_stream.proofs.Places.{has_read, to_come_still}
use Rattle.log_stream.proofs.reader.LogReader.next.Goals as goal

pub returns-then-self-clause-all : goal.returns-then-self-clause-all
returns-then-self-clause-all g c = λ none told. has_read (g.D.Disk.cells c.loop-self.device).now c.loop-self.self (c.loop-self.invariant.reads told) c.loop-self-test.true c.if-self.true

pub returns-then-self-clause-nothing : goal.returns-then-self-clause-nothing
returns-then-self-clause-nothing g c = λ none told.
    let i = c.loop-self.invariant in
    let h = has_read (g.D.Disk.cells c.loop-self.device).now c.loop-self.self (i.reads told) c.loop-self-test.true c.if-self.true in
    to_come_still (g.D.Disk.cells c.args.device.now) (g.D.Disk.cells c.loop-self.device) c.args.self.now c.loop-self.self (i.still told).same i.restored ∙ h.all
