use Rattle.checkpoint_store.proofs.Called.{called_goes}
use Rattle.checkpoint_store.proofs.job.slot_step.Goals as goal

pub returns-clause-goes : goal.returns-clause-goes
returns-clause-goes g c = λ told odd next has other s.
    rw c.job_behind-next.ensures
    (called_goes odd (g.D.Disk.cells c.args.device.now) (g.D.Disk.cells c.make_call.new.device) c.args.job next has other (c.in_ok-make_call.ensures.cells told) s)
