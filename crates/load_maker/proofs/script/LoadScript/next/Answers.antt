use Rattle.std.proofs.Common.{◌-◌, arith}
use Rattle.load_maker.proofs.Turning.{group_left, app_left, period_left, crash_left, restart_left, none_left, flow_left, ask_left}
use Rattle.load_maker.proofs.script.LoadScript.next.Goals as goal

pub returns-then-self-eq0-clause-none : goal.returns-then-self-eq0-clause-none
returns-then-self-eq0-clause-none c = λ _. cc (none_left c.self.inside.count c.self.inside.more c.self.inside.last c.if-self-eq0.true)

pub returns-then-self-eq0-clause-end : goal.returns-then-self-eq0-clause-end
returns-then-self-eq0-clause-end c = λ _. cc (none_left c.self.inside.count c.self.inside.more c.self.inside.last c.if-self-eq0.true)

pub returns-in-Group-clause-some : goal.returns-in-Group-clause-some
returns-in-Group-clause-some c = cc (group_left c.self.inside.count c.self.inside.more c.self.inside.last)

pub returns-in-App-clause-some : goal.returns-in-App-clause-some
returns-in-App-clause-some c = cc (app_left c.self.inside.count c.self.inside.more c.self.inside.last)

pub returns-in-Period-clause-some : goal.returns-in-Period-clause-some
returns-in-Period-clause-some c = cc (period_left c.self.inside.count c.self.inside.more c.self.inside.last)

pub returns-else-self-eq0-clause-some : goal.returns-else-self-eq0-clause-some
returns-else-self-eq0-clause-some c =
    cc (ask_left c.self.inside.count c.self.inside.more (c.self.inside.more - 1) c.self.inside.last (omega (arith, c.if-self-eq0.false)))

pub returns-in-Flow-clause-some : goal.returns-in-Flow-clause-some
returns-in-Flow-clause-some c = cc (flow_left c.self.inside.count c.self.inside.more c.self.inside.last)

pub returns-in-Crash-clause-some : goal.returns-in-Crash-clause-some
returns-in-Crash-clause-some c = cc (crash_left c.self.inside.count c.self.inside.more c.self.inside.last)

pub returns-in-Restart-clause-some : goal.returns-in-Restart-clause-some
returns-in-Restart-clause-some c = cc (restart_left c.self.inside.count c.self.inside.more c.self.inside.last)
