use Rattle.std.proofs.Common.{vec_len}
use Rattle.group_run.proofs.PutBack.{AreBack}
use Rattle.group_run.proofs.closing.give_back.Given as goal

abbrev pub invariant-loop-end : goal.invariant-loop-end
invariant-loop-end g l =
    let m = g.M.DiskRoom in
    let t = g.T.TrailRoom in
    let d = g.M.Disk.Disk in
    let s = g.T.Sink.Sink in
    AreBack d.told d.cells d.faults s.written s.faults l.dir (record { kept = m.cells l.fn.room; taken = m.taken l.fn.room; faults = m.faults l.fn.room })
    (record { kept = t.kept l.fn.trails; taken = t.taken l.fn.trails; faults = t.faults l.fn.trails }) (record { kept = m.cells l.room; taken = m.taken l.room; faults = m.faults l.room })
    (record { kept = t.kept l.trails; taken = t.taken l.trails; faults = t.faults l.trails }) l.fn.members.items l.members.items

abbrev pub decreases-loop-end : goal.decreases-loop-end
decreases-loop-end g l = vec_len l.members
