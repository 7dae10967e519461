use Rattle.std.proofs.Common.{ap, sym, ◌∙◌}
use Rattle.node_rules.specs.Nodes.{Node}
use Rattle.node_state.proofs.Broken.{on_err}
use Rattle.node_replica.proofs.Installing.{apart_is, installs_is, told_is, ready_apart, installs_part}
use Rattle.node_replica.proofs.install.installs.Goals as goal

pub finish-requires-clause-ready : goal.finish-requires-clause-ready
finish-requires-clause-ready g c =
    ready_apart c.args.node.now _ c.in-Some.fetch (ap (λ (n : Node g.row.S.Denot). n.fetch) (sym c.node.view_is) ∙ sym c.in-Some.ensures.value) (sym c.is_installing.ensures ∙ c.if-not-is_installing.false)
    (apart_is c.args.node.now _ c.take.new.self c.node.view_is c.take.ensures.after)

pub returns-clause-node : goal.returns-clause-node
returns-clause-node g c =
    c.in_ok-finish.ensures.node
    ∙ installs_is g.S.Service.meaning c.args.node.now _ c.in-Some.fetch (ap (λ (n : Node g.row.S.Denot). n.fetch) (sym c.node.view_is) ∙ sym c.in-Some.ensures.value)
    (sym c.is_installing.ensures ∙ c.if-not-is_installing.false) (apart_is c.args.node.now _ c.take.new.self c.node.view_is c.take.ensures.after)

pub returns-clause-fired : goal.returns-clause-fired
returns-clause-fired g c =
    c.in_ok-finish.ensures.fired
    ∙ told_is g.S.Service.meaning c.args.node.now _ c.in-Some.fetch c.args.fired.now (ap (λ (n : Node g.row.S.Denot). n.fetch) (sym c.node.view_is) ∙ sym c.in-Some.ensures.value)
    (sym c.is_installing.ensures ∙ c.if-not-is_installing.false) (apart_is c.args.node.now _ c.take.new.self c.node.view_is c.take.ensures.after)

pub returns-in_err-finish-clause-err : goal.returns-in_err-finish-clause-err
returns-in_err-finish-clause-err g c =
    on_err _ (installs_part g.S.Service.meaning c.args.node.now _ c.in-Some.fetch c.finish.new.node.entries (ap (λ (n : Node g.row.S.Denot). n.fetch) (sym c.node.view_is) ∙ sym c.in-Some.ensures.value)
    (sym c.is_installing.ensures ∙ c.if-not-is_installing.false) (apart_is c.args.node.now _ c.take.new.self c.node.view_is c.take.ensures.after) c.in_err-finish.ensures.err)
