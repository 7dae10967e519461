use Rattle.std.proofs.Common.{List, ℕ, ap, sym, ◌∙◌}
use Rattle.store_laws.specs.States.{ends, switches}
use Rattle.store_laws.specs.declared.job.Ending.{Ending}
use Rattle.store_plan.specs.Plans.{state_with, leaves_adding}
use Rattle.store_plan.proofs.plan.Plan.finish.Goals as goal

pub returns-in-Switches-clause-state : goal.returns-in-Switches-clause-state
returns-in-Switches-clause-state c = λ d.
    c.switched.ensures.state d
    ∙ ap (λ (entries : List (List ℕ)). leaves_adding entries (switches c.in-Switches.end c.in-Switches.made (state_with c.args.self.now d))) c.new.ensures
    ∙ sym (ap (λ (e : Ending). ends e (state_with c.args.self.now d)) c.in-Switches.is)
