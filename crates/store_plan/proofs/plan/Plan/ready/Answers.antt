use Rattle.std.proofs.Common.{◌∙◌, sym, ap}
use Rattle.batch_log.specs.LogCalls.{anew_text}
use Rattle.store_plan.specs.Plans.{state_with}
use Rattle.store_plan.proofs.Due.{ready_tail, some_left, none_left, on_ok, nowhere, first_begun, first_readied}
use Rattle.store_plan.proofs.plan.Plan.ready.Goals as goal

pub returns-then-is_empty-clause-there : goal.returns-then-is_empty-clause-there
returns-then-is_empty-clause-there g c = on_ok c.begin.result _ _
    (λ is. first_begun g.E.Stops.stops (state_with c.args.self.now nowhere) (state_with c.begin.new.self nowhere) (none_left c.args.self.now.running c.if-is_empty.ensures) (is nowhere)) c.begin.ensures.ok

pub returns-clause-ok : goal.returns-clause-ok
returns-clause-ok g c = λ d.
    ready_tail g.E.Stops.stops c.args.tail.now (state_with c.args.self.now d) (state_with c.put_tail.new.self d) c.in_ok-text.text c.len.result (some_left c.args.self.now.running c.if-is_empty.ensures) (sym c.if-not-wants_tail.ensures)
    (c.in_ok-text.ensures.text ∙ ap anew_text c.as_slice.ensures) c.len.ensures.value (c.put_tail.ensures d)

pub returns-clause-there : goal.returns-clause-there
returns-clause-there g c = first_readied g.E.Stops.stops c.args.tail.now (state_with c.args.self.now nowhere) (state_with c.put_tail.new.self nowhere)
    (ready_tail g.E.Stops.stops c.args.tail.now (state_with c.args.self.now nowhere) (state_with c.put_tail.new.self nowhere) c.in_ok-text.text c.len.result (some_left c.args.self.now.running c.if-is_empty.ensures) (sym c.if-not-wants_tail.ensures)
    (c.in_ok-text.ensures.text ∙ ap anew_text c.as_slice.ensures) c.len.ensures.value (c.put_tail.ensures nowhere))
