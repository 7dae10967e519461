use Rattle.std.proofs.Common.{◌≡◌, sym, ap, subst, ◌∙◌, List}
use Rattle.node_rules.specs.Steps.{Outcome, rules, pass}
use Rattle.node_rules.specs.declared.node.Fired.{Fired}
use Rattle.node_state.specs.Broken.{IsPartly}
use Rattle.node_state.proofs.Broken.{on_err}
use Rattle.node_core.proofs.Broken.{step_dropped, step_passed, taken_stops, passed_stops}
use Rattle.node_rules.specs.Nodes.{Node}
use Rattle.node_core.proofs.Snapshots.{taken_same, taken_from, takes_taken}
use Rattle.node_core.proofs.step.step_of.Goals as goal

pub returns-in_err-taken-clause-err : goal.returns-in_err-taken-clause-err
returns-in_err-taken-clause-err g c = on_err _ (taken_stops g.S.Service.meaning c.args.node.now c.take_in.new.node c.args.event.now c.in_err-taken.ensures.err)

pub returns-in-Some-clause-node : goal.returns-in-Some-clause-node
returns-in-Some-clause-node g c =
    sym (ap (λ (o : Outcome g.row.S.Denot). o.node)
    (step_dropped g.S.Service.meaning c.args.node.now c.take_in.new.node c.args.event.now c.in-Some.why c.in_ok-taken.ensures.node (sym c.in-Some.is ∙ c.in_ok-taken.ensures.dropped)))

pub returns-in-Some-clause-fired : goal.returns-in-Some-clause-fired
returns-in-Some-clause-fired g c =
    c.new-fired.ensures
    ∙ sym (ap (λ (o : Outcome g.row.S.Denot). o.fired)
    (step_dropped g.S.Service.meaning c.args.node.now c.take_in.new.node c.args.event.now c.in-Some.why c.in_ok-taken.ensures.node (sym c.in-Some.is ∙ c.in_ok-taken.ensures.dropped)))

pub returns-in-Some-clause-dropped : goal.returns-in-Some-clause-dropped
returns-in-Some-clause-dropped g c =
    sym (ap (λ (o : Outcome g.row.S.Denot). o.dropped)
    (step_dropped g.S.Service.meaning c.args.node.now c.take_in.new.node c.args.event.now c.in-Some.why c.in_ok-taken.ensures.node (sym c.in-Some.is ∙ c.in_ok-taken.ensures.dropped)))

pub returns-in_ok-pass_all-in-None-clause-node : goal.returns-in_ok-pass_all-in-None-clause-node
returns-in_ok-pass_all-in-None-clause-node g c =
    sym (ap (λ (o : Outcome g.row.S.Denot). o.node)
    (step_passed g.S.Service.meaning c.args.node.now c.take_in.new.node c.pass_all.new.node c.args.event.now c.in_ok-taken.taken.cause c.pass_all.new.fired c.in_ok-taken.ensures.node
    c.in_ok-taken.ensures.cause (sym c.in-None.is ∙ c.in_ok-taken.ensures.dropped)
    (subst (λ (f : List Fired). pass (rules g.S.Service.meaning) c.take_in.new.node c.in_ok-taken.taken.cause f ≡ (c.pass_all.new.node, c.pass_all.new.fired)) c.new-fired.ensures c.in_ok-pass_all-in-None.ensures.pass)))

pub returns-in_ok-pass_all-in-None-clause-fired : goal.returns-in_ok-pass_all-in-None-clause-fired
returns-in_ok-pass_all-in-None-clause-fired g c =
    sym (ap (λ (o : Outcome g.row.S.Denot). o.fired)
    (step_passed g.S.Service.meaning c.args.node.now c.take_in.new.node c.pass_all.new.node c.args.event.now c.in_ok-taken.taken.cause c.pass_all.new.fired c.in_ok-taken.ensures.node
    c.in_ok-taken.ensures.cause (sym c.in-None.is ∙ c.in_ok-taken.ensures.dropped)
    (subst (λ (f : List Fired). pass (rules g.S.Service.meaning) c.take_in.new.node c.in_ok-taken.taken.cause f ≡ (c.pass_all.new.node, c.pass_all.new.fired)) c.new-fired.ensures c.in_ok-pass_all-in-None.ensures.pass)))

pub returns-in_ok-pass_all-in-None-clause-dropped : goal.returns-in_ok-pass_all-in-None-clause-dropped
returns-in_ok-pass_all-in-None-clause-dropped g c =
    sym (ap (λ (o : Outcome g.row.S.Denot). o.dropped)
    (step_passed g.S.Service.meaning c.args.node.now c.take_in.new.node c.pass_all.new.node c.args.event.now c.in_ok-taken.taken.cause c.pass_all.new.fired c.in_ok-taken.ensures.node
    c.in_ok-taken.ensures.cause (sym c.in-None.is ∙ c.in_ok-taken.ensures.dropped)
    (subst (λ (f : List Fired). pass (rules g.S.Service.meaning) c.take_in.new.node c.in_ok-taken.taken.cause f ≡ (c.pass_all.new.node, c.pass_all.new.fired)) c.new-fired.ensures c.in_ok-pass_all-in-None.ensures.pass)))

pub returns-in_err-pass_all-in-None-clause-err : goal.returns-in_err-pass_all-in-None-clause-err
returns-in_err-pass_all-in-None-clause-err g c =
    on_err _ (passed_stops g.S.Service.meaning c.args.node.now c.take_in.new.node c.pass_all.new.node c.args.event.now c.in_ok-taken.taken.cause c.in_ok-taken.ensures.node
    c.in_ok-taken.ensures.cause (sym c.in-None.is ∙ c.in_ok-taken.ensures.dropped)
    (subst (λ (f : List Fired). IsPartly c.take_in.new.node.entries c.pass_all.new.node.entries (pass (rules g.S.Service.meaning) c.take_in.new.node c.in_ok-taken.taken.cause f).0.entries) c.new-fired.ensures
    c.in_err-pass_all-in-None.ensures.err))

pub returns-in_err-taken-clause-snapshots : goal.returns-in_err-taken-clause-snapshots
returns-in_err-taken-clause-snapshots g c = on_err _ (taken_same c.args.node.now c.take_in.new.node c.in_err-taken.ensures.snapshots)

pub returns-in_err-pass_all-in-None-clause-snapshots : goal.returns-in_err-pass_all-in-None-clause-snapshots
returns-in_err-pass_all-in-None-clause-snapshots g c =
    on_err _ (taken_from c.args.node.now c.take_in.new.node c.pass_all.new.node
    (ap (λ (n : Node g.row.S.Denot). n.taken) c.in_ok-taken.ensures.node ∙ takes_taken c.args.node.now c.args.event.now) c.in_err-pass_all-in-None.ensures.snapshots)
