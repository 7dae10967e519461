use Rattle.std.proofs.Common.{◌≡◌, ◌∙◌, sym, ap}
use Rattle.std.proofs.lemmas.Bool.{lt-ltb, le-ltb}
use Rattle.store_laws.specs.States.{greatest, Devices, of_group, group_of, due_job, Close, Repair}
use Rattle.store_plan.specs.Plans.{state_with}
use Rattle.store_plan.proofs.Due.{ok_two, on_ok, none_left, begun_begins, due_even, due_odd, due_repair, due_group, due_group_full, begun_group, none_asked}
use Rattle.store_plan.proofs.plan.Plan.begin.Goals.{else-self-lt18446744073709551615-via-then-self-lt18446744073709551615+else-is_some, else-self-lt18446744073709551615-via-else-self-lt18446744073709551615}
use Rattle.store_plan.proofs.plan.Plan.begin.Goals as goal

pub returns-then-is_torn-clause-ok : goal.returns-then-is_torn-clause-ok
returns-then-is_torn-clause-ok g c = on_ok c.begin_close.result _ _
    (λ is d.
    is d
    ∙ sym (begun_begins g.E.Stops.stops (state_with c.args.self.now d) (Close _) (none_left c.args.self.now.running c.if-not-is_empty.ensures) (due_even g.E.Stops.stops (state_with c.args.self.now d) (sym c.if-is_torn.ensures))))
    c.begin_close.ensures.ok

pub returns-then-is_torn-2-clause-ok : goal.returns-then-is_torn-2-clause-ok
returns-then-is_torn-2-clause-ok g c = on_ok c.begin_close-then-is_torn-2.result _ _
    (λ is d.
    is d
    ∙ sym (begun_begins g.E.Stops.stops (state_with c.args.self.now d) (Close _) (none_left c.args.self.now.running c.if-not-is_empty.ensures)
    (due_odd g.E.Stops.stops (state_with c.args.self.now d) (sym c.if-is_torn.ensures) (sym c.if-is_torn-2.ensures))))
    c.begin_close-then-is_torn-2.ensures.ok

pub returns-then-self-clause-ok : goal.returns-then-self-clause-ok
returns-then-self-clause-ok g c = on_ok c.begin_repair.result _ _
    (λ is d.
    is d
    ∙ sym (begun_begins g.E.Stops.stops (state_with c.args.self.now d) Repair (none_left c.args.self.now.running c.if-not-is_empty.ensures)
    (due_repair g.E.Stops.stops (state_with c.args.self.now d) (sym c.if-is_torn.ensures) (sym c.if-is_torn-2.ensures) c.if-self.true)))
    c.begin_repair.ensures.ok

pub returns-clause-ok : goal.returns-clause-ok
returns-clause-ok g c = ok_two c.begin_group.result _ _ _
    (λ none are d.
    begun_group g.E.Stops.stops (state_with c.args.self.now d) (state_with c.begin_group.new.self d) (none_left c.args.self.now.running c.if-not-is_empty.ensures) (due d) (λ is. ap (λ p. state_with p d) (none is)) (are d))
    c.begin_group.ensures.none c.begin_group.ensures.some
  where
    due : (d : Devices) → due_job g.E.Stops.stops (state_with c.args.self.now d) ≡ of_group (group_of g.E.Stops.stops c.args.self.now.waiting)
    due d = elim c.else-self-lt18446744073709551615.branch [
      | else-self-lt18446744073709551615-via-then-self-lt18446744073709551615+else-is_some w ↦ due_group g.E.Stops.stops (state_with c.args.self.now d) (sym c.if-is_torn.ensures) (sym c.if-is_torn-2.ensures) c.if-self.false (lt-ltb c.args.self.now.generation greatest w.if-self-lt18446744073709551615.true) (none_asked c.args.self.now.asked w.if-is_some.ensures)
      | else-self-lt18446744073709551615-via-else-self-lt18446744073709551615 w ↦ due_group_full g.E.Stops.stops (state_with c.args.self.now d) (sym c.if-is_torn.ensures) (sym c.if-is_torn-2.ensures) c.if-self.false (le-ltb c.args.self.now.generation greatest w.if-self-lt18446744073709551615.false)
    ]
