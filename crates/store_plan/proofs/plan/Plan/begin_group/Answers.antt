use Rattle.std.proofs.Common.{◌∷◌, List, ℕ, Bool, take, ap, ◌∙◌}
use Rattle.batch_log.specs.LogCalls.{body_text, group_calls}
use Rattle.store_laws.specs.States.{calls_on}
use Rattle.store_laws.specs.declared.job.Device.TheVariants.{Log}
use Rattle.store_plan.specs.Plans.{state_with}
use Rattle.store_plan.proofs.Due.{group_made}
use Rattle.store_plan.proofs.plan.Plan.begin_group.Goals as goal

pub returns-clause-some : goal.returns-clause-some
returns-clause-some g c = λ d entry entries is.
    group_made g.E.Stops.stops (state_with c.args.self.now d) (state_with c.split.new.self d) c.as_slice.result.now c.group_len-count.result c.len.result c.in_ok-calls.calls c.in_ok-adding.adding c.in_ok-body.body c.as_slice.ensures
    c.group_len-count.ensures.few c.group_len-count.ensures.front (c.in_ok-adding.ensures.rest d) c.in_ok-adding.ensures.front (c.in_ok-body.ensures.are ∙ ap (λ (l : List (List ℕ)). body_text (take c.group_len-count.result l)) c.as_slice-2.ensures) c.len.ensures.value
    (c.in_ok-calls.ensures ∙ ap (λ (odd : Bool). calls_on (Log odd) (group_calls c.args.self.now.end c.in_ok-body.body)) c.is_odd.ensures) (entry ∷ entries) is
