use Rattle.store_plan.proofs.Due.{nowhere}
use Rattle.std.proofs.lemmas.Result.{err_from_is_err_and}
use Rattle.log_worker.proofs.Fails.{switched_err}
use Rattle.log_worker.proofs.Stored.{no-switch, asked-rose, after-asked}
use Rattle.log_worker.proofs.storing.store_generation.Goals as goal

pub switch-requires-clause-no_switch : goal.switch-requires-clause-no_switch
switch-requires-clause-no_switch g c = λ is_open. no-switch c.args.store.now.plan.running c.args.store.now.plan.ending c.requires.rests.0

pub returns-in_err-switch-clause-rose : goal.returns-in_err-switch-clause-rose
returns-in_err-switch-clause-rose g c =
    let run = (c.in_err-switch.ensures.ran c.requires.rests.1.1.1).0 in
    asked-rose g.E.Stops.stops c.args.tail.now run.calls c.args.store.now.plan c.args.snapshot c.switch.new.self.plan.firm c.requires.rests.0 c.requires.rests.1.0 c.firm_of-firm.ensures.few (run.firm nowhere)

pub returns-clause-rose : goal.returns-clause-rose
returns-clause-rose g c =
    let run = (c.in_ok-switch.ensures.ran c.requires.rests.1.1.1).0 in
    asked-rose g.E.Stops.stops c.args.tail.now run.calls c.args.store.now.plan c.args.snapshot c.switch.new.self.plan.firm c.requires.rests.0 c.requires.rests.1.0 c.firm_of-firm.ensures.few (run.firm nowhere)

pub returns-clause-rests : goal.returns-clause-rests
returns-clause-rests g c =
    let after = c.in_ok-switch.ensures in
    let run = (after.ran c.requires.rests.1.1.1).0 in
    let ends = after-asked g.E.Stops.stops c.args.tail.now run.calls c.args.store.now.plan c.switch.new.self.plan c.args.snapshot c.requires.rests.0 c.requires.rests.1.0 c.firm_of-firm.ensures.few (run.plan after.closes.1) after.idle in
    (after.idle, (ends.0, (after.unasked after.closes.1, after.closes.1)))

pub returns-clause-kept : goal.returns-clause-kept
returns-clause-kept g c =
    let after = c.in_ok-switch.ensures in
    let run = (after.ran c.requires.rests.1.1.1).0 in
    (after-asked g.E.Stops.stops c.args.tail.now run.calls c.args.store.now.plan c.switch.new.self.plan c.args.snapshot c.requires.rests.0 c.requires.rests.1.0 c.firm_of-firm.ensures.few (run.plan after.closes.1) after.idle).1

pub returns-clause-ran : goal.returns-clause-ran
returns-clause-ran g c = c.in_ok-switch.ensures.ran c.requires.rests.1.1.1

pub returns-in_err-switch-clause-ran : goal.returns-in_err-switch-clause-ran
returns-in_err-switch-clause-ran g c =
    let p = err_from_is_err_and c.from_residual.result c.from_residual.ensures.1 in
    switched_err g.D.Disk.told g.D.Disk.remembers g.D.Disk.cells g.D.Disk.moment g.D.Disk.left_since g.E.Stops.stops c.from_residual.result p.0 p.0 c.args.snapshot c.args.tail.now c.args.store.now c.switch.new.self p.1 (c.in_err-switch.ensures.ran c.requires.rests.1.1.1)
