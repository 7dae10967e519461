use Rattle.batch_log.specs.Jobs.{IsIdle}
use Rattle.batch_log.proofs.Answered.{on_err, idle_leaves, idle_lives, made_leaves, made_lives}
use Rattle.batch_log.proofs.log.BatchLog.next_call.Goals as goal

pub returns-in_err-check-clause-rests : goal.returns-in_err-check-clause-rests
returns-in_err-check-clause-rests g c = on_err c.from_residual.result (IsIdle c.args.self.now.job) (c.args.self.now.rests c.in_err-check.ensures.closed)

pub returns-in_err-check-clause-crash : goal.returns-in_err-check-clause-crash
returns-in_err-check-clause-crash g c = λ told group gs other s.
    idle_leaves (g.D.Disk.cells c.args.self.now.device) c.args.self.now.end c.args.self.now.job group gs other (c.args.self.now.rests c.in_err-check.ensures.closed) s

pub returns-in_err-check-clause-wires : goal.returns-in_err-check-clause-wires
returns-in_err-check-clause-wires g c = λ told group gs other s w.
    idle_lives (g.D.Disk.cells c.args.self.now.device) c.args.self.now.end c.args.self.now.job group gs other (c.args.self.now.rests c.in_err-check.ensures.closed) s w

pub returns-in-Ok-clause-crash : goal.returns-in-Ok-clause-crash
returns-in-Ok-clause-crash g c = λ told group gs other s. made_leaves (g.D.Disk.cells c.args.self.now.device) (g.D.Disk.cells c.step.new.device) c.args.self.now.end c.args.self.now.job c.replace-job.result group gs other c.replace-job.ensures.value (c.step.ensures.torn told) s

pub returns-in-Ok-clause-wires : goal.returns-in-Ok-clause-wires
returns-in-Ok-clause-wires g c = λ told group gs other s w. made_lives (g.D.Disk.cells c.args.self.now.device) (g.D.Disk.cells c.step.new.device) c.args.self.now.end c.args.self.now.job c.replace-job.result group gs other c.replace-job.ensures.value (c.step.ensures.torn told) s w

pub returns-in-Err-Failed-clause-crash : goal.returns-in-Err-Failed-clause-crash
returns-in-Err-Failed-clause-crash g c = λ told group gs other s. made_leaves (g.D.Disk.cells c.args.self.now.device) (g.D.Disk.cells c.step.new.device) c.args.self.now.end c.args.self.now.job c.replace-job.result group gs other c.replace-job.ensures.value (c.step.ensures.torn told) s

pub returns-in-Err-Failed-clause-wires : goal.returns-in-Err-Failed-clause-wires
returns-in-Err-Failed-clause-wires g c = λ told group gs other s w. made_lives (g.D.Disk.cells c.args.self.now.device) (g.D.Disk.cells c.step.new.device) c.args.self.now.end c.args.self.now.job c.replace-job.result group gs other c.replace-job.ensures.value (c.step.ensures.torn told) s w

pub returns-in-Err-NoMemory-clause-crash : goal.returns-in-Err-NoMemory-clause-crash
returns-in-Err-NoMemory-clause-crash g c = λ told group gs other s. made_leaves (g.D.Disk.cells c.args.self.now.device) (g.D.Disk.cells c.step.new.device) c.args.self.now.end c.args.self.now.job c.replace-job.result group gs other c.replace-job.ensures.value (c.step.ensures.torn told) s

pub returns-in-Err-NoMemory-clause-wires : goal.returns-in-Err-NoMemory-clause-wires
returns-in-Err-NoMemory-clause-wires g c = λ told group gs other s w. made_lives (g.D.Disk.cells c.args.self.now.device) (g.D.Disk.cells c.step.new.device) c.args.self.now.end c.args.self.now.job c.replace-job.result group gs other c.replace-job.ensures.value (c.step.ensures.torn told) s w
