use Rattle.store_laws.proofs.Given.{idle_now}
use Rattle.store_plan.specs.Plans.{state_with}
use Rattle.store_plan.proofs.Due.{nowhere}
use Rattle.durable_store.specs.Runs.{no_tail}
use Rattle.std.proofs.lemmas.Result.{err_from_is_err_and}
use Rattle.log_worker.proofs.Fails.{gave_err}
use Rattle.log_worker.proofs.Stored.{rest-unasked, given-rose, after-given}
use Rattle.log_worker.proofs.storing.store_group.Goals as goal

pub append-requires-clause-unasked : goal.append-requires-clause-unasked
append-requires-clause-unasked g c = λ is_open d. rest-unasked c.args.store.now.plan d c.requires.rests.0 c.requires.rests.1.1.0

pub returns-in_err-append-clause-rose : goal.returns-in_err-append-clause-rose
returns-in_err-append-clause-rose g c =
    let run = (c.in_err-append.ensures.ran c.requires.rests.1.1.1).0 in
    given-rose g.E.Stops.stops no_tail run.calls c.args.store.now.plan c.args.entries c.append.new.self.plan.firm c.requires.rests.0 c.requires.rests.1.0 c.firm_of-firm.ensures.few (run.firm nowhere)

pub returns-clause-rose : goal.returns-clause-rose
returns-clause-rose g c =
    let run = (c.in_ok-append.ensures.ran c.requires.rests.1.1.1).0 in
    given-rose g.E.Stops.stops no_tail run.calls c.args.store.now.plan c.args.entries c.append.new.self.plan.firm c.requires.rests.0 c.requires.rests.1.0 c.firm_of-firm.ensures.few (run.firm nowhere)

pub returns-clause-rests : goal.returns-clause-rests
returns-clause-rests g c =
    let after = c.in_ok-append.ensures in
    let run = (after.ran c.requires.rests.1.1.1).0 in
    let idle = (idle_now g.E.Stops.stops (state_with c.append.new.self.plan nowhere) (after.done nowhere)).0 in
    let ends = after-given g.E.Stops.stops no_tail run.calls c.args.store.now.plan c.append.new.self.plan c.args.entries c.requires.rests.0 c.requires.rests.1.0 c.firm_of-firm.ensures.few (run.plan after.closes.1) idle in
    (idle, (ends.0, ((after.unasked after.closes.1 nowhere).asked, after.closes.1)))

pub returns-clause-kept : goal.returns-clause-kept
returns-clause-kept g c =
    let after = c.in_ok-append.ensures in
    let run = (after.ran c.requires.rests.1.1.1).0 in
    let idle = (idle_now g.E.Stops.stops (state_with c.append.new.self.plan nowhere) (after.done nowhere)).0 in
    (after-given g.E.Stops.stops no_tail run.calls c.args.store.now.plan c.append.new.self.plan c.args.entries c.requires.rests.0 c.requires.rests.1.0 c.firm_of-firm.ensures.few (run.plan after.closes.1) idle).1

pub returns-clause-ran : goal.returns-clause-ran
returns-clause-ran g c = c.in_ok-append.ensures.ran c.requires.rests.1.1.1

pub returns-in_err-append-clause-ran : goal.returns-in_err-append-clause-ran
returns-in_err-append-clause-ran g c =
    let p = err_from_is_err_and c.from_residual.result c.from_residual.ensures.1 in
    gave_err g.D.Disk.told g.D.Disk.remembers g.D.Disk.cells g.D.Disk.moment g.D.Disk.left_since g.E.Stops.stops c.from_residual.result p.0 p.0 c.args.entries c.args.store.now c.append.new.self p.1 (c.in_err-append.ensures.ran c.requires.rests.1.1.1)
