use Rattle.std.proofs.Common.{List, drop, ap, sym, subst, ◌∙◌}
use Rattle.store_laws.specs.declared.job.StoreCall.{StoreCall}
use Rattle.store_plan.specs.Fit.{CanEnd}
use Rattle.store_plan.proofs.Lists.{can_end_then}
use Rattle.store_plan.proofs.plan.Plan.advance.Goals as goal

pub invariant_of-self-2-clause-ends : goal.invariant_of-self-2-clause-ends
invariant_of-self-2-clause-ends c =
    let left = c.from_vec.ensures ∙ c.remove.ensures.items ∙ ap (λ (calls : List StoreCall). drop 1 calls) (c.into_vec-calls.ensures ∙ c.replace.ensures.value) in
    subst (λ (calls : List StoreCall). CanEnd calls c.args.self.now.ending c.args.self.now.generation) (sym left)
    (can_end_then c.args.self.now.running c.args.self.now.ending c.args.self.now.generation c.args.self.now.ends)
