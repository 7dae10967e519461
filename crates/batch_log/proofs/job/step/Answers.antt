use Rattle.std.proofs.Common.{◌∙◌, ap}
use Rattle.batch_log.specs.Jobs.{code}
use Rattle.batch_log.proofs.Synced.{called_goes, called_wired, called_code, called_near}
use Rattle.batch_log.proofs.job.step.Goals as goal

pub returns-clause-goes : goal.returns-clause-goes
returns-clause-goes g c = λ told group gs other s.
    rw (c.end_behind-next_end.ensures, c.job_behind-next.ensures)
    (called_goes (g.D.Disk.cells c.args.device.now) (g.D.Disk.cells c.make_call.new.device) c.args.end c.args.job group gs other (c.in_ok-make_call.ensures.cells told) s)

pub returns-clause-wired : goal.returns-clause-wired
returns-clause-wired g c = λ told group gs other s w.
    called_wired (g.D.Disk.cells c.args.device.now) (g.D.Disk.cells c.make_call.new.device) c.args.end c.args.job group gs other (c.in_ok-make_call.ensures.cells told) s w

pub returns-clause-next : goal.returns-clause-next
returns-clause-next g c = ap code c.job_behind-next.ensures ∙ called_code c.args.job c.args.end

pub returns-clause-near : goal.returns-clause-near
returns-clause-near g c = rw (c.end_behind-next_end.ensures, c.job_behind-next.ensures) (called_near c.args.job c.args.end c.requires.near c.in_ok-make_call.ensures.room)
