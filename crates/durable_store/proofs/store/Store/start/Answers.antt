use Rattle.std.proofs.Common.{◌∙◌, sym, ap, subst}
use Rattle.store_laws.specs.States.{StoreState}
use Rattle.store_laws.proofs.Given.{any_given, any_asked}
use Rattle.store_plan.specs.Plans.{state_with}
use Rattle.durable_store.specs.Disks.{cells_of}
use Rattle.durable_store.specs.Stores.{state_of, Stands, started}
use Rattle.durable_store.specs.declared.store.Job.{Job}
use Rattle.durable_store.proofs.store.Store.start.Goals as goal

pub returns-in_ok-give-in-Append-clause-started : goal.returns-in_ok-give-in-Append-clause-started
returns-in_ok-give-in-Append-clause-started g c = λ d. c.in_ok-give-in-Append.ensures.ok d ∙ sym (ap (λ (job : Job). started job (state_with c.args.self.now.plan d)) c.in-Append.is)

pub returns-in_ok-give-in-Append-clause-stands : goal.returns-in_ok-give-in-Append-clause-stands
returns-in_ok-give-in-Append-clause-stands g c = λ stands.
    subst (λ (q : StoreState). Stands q) (sym (c.in_ok-give-in-Append.ensures.ok (cells_of g.D.Disk.cells c.args.self.now.disks)))
    (stands.0, any_given (state_of g.D.Disk.cells c.args.self.now) stands.0 c.in-Append.entries stands.1)

pub returns-in-Switch-clause-started : goal.returns-in-Switch-clause-started
returns-in-Switch-clause-started g c = λ d. c.ask.ensures d ∙ sym (ap (λ (job : Job). started job (state_with c.args.self.now.plan d)) c.in-Switch.is)

pub returns-in-Switch-clause-stands : goal.returns-in-Switch-clause-stands
returns-in-Switch-clause-stands g c = λ stands.
    subst (λ (q : StoreState). Stands q) (sym (c.ask.ensures (cells_of g.D.Disk.cells c.args.self.now.disks)))
    (stands.0, any_asked (state_of g.D.Disk.cells c.args.self.now) stands.0 c.in-Switch.snapshot stands.1)
