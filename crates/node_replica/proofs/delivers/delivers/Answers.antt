use Rattle.std.proofs.Common.{ap, sym, ◌∙◌, ◌++◌, List, ℕ}
use Rattle.std.proofs.lemmas.List.{append-nil}
use Rattle.smart_base.specs.Views.{View, is_member}
use Rattle.node_rules.specs.Nodes.{Node, view_of}
use Rattle.node_rules.specs.declared.node.Fired.{Fired}
use Rattle.node_state.proofs.Broken.{on_err}
use Rattle.node_replica.proofs.Delivering.{entries_executed, delivers_none, tells_none, delivers_some, tells_some}
use Rattle.node_replica.proofs.delivers.delivers.Goals as goal

pub returns-in-None-clause-node : goal.returns-in-None-clause-node
returns-in-None-clause-node g c = delivers_none g.S.Service.meaning c.args.node.now c.execute_waiting.new.node c.in_ok-told.ensures.node (sym c.in-None.is ∙ c.in_ok-told.ensures.told)

pub returns-in-None-clause-fired : goal.returns-in-None-clause-fired
returns-in-None-clause-fired g c =
    sym (append-nil c.args.fired.now)
    ∙ ap (λ (more : List Fired). c.args.fired.now ++ more) (tells_none g.S.Service.meaning c.args.node.now c.args.node.now.waiting (sym c.in-None.is ∙ c.in_ok-told.ensures.told))

pub returns-in_ok-tell-in-Some-clause-node : goal.returns-in_ok-tell-in-Some-clause-node
returns-in_ok-tell-in-Some-clause-node g c =
    delivers_some g.S.Service.meaning c.args.node.now c.execute_waiting.new.node c.tell.new.node c.in-Some.executed c.is_member-answers.result c.in_ok-told.ensures.node (sym c.in-Some.is ∙ c.in_ok-told.ensures.told)
    (c.is_member-answers.ensures ∙ (ap (λ (v : View). is_member v c.id.result) c.view.ensures ∙ ap (λ (i : ℕ). is_member (view_of c.args.node.now) i) c.id.ensures)) c.in_ok-tell-in-Some.ensures.node

pub returns-in_ok-tell-in-Some-clause-fired : goal.returns-in_ok-tell-in-Some-clause-fired
returns-in_ok-tell-in-Some-clause-fired g c =
    c.in_ok-tell-in-Some.ensures.fired
    ∙ ap (λ (more : List Fired). c.args.fired.now ++ more)
    (tells_some g.S.Service.meaning c.args.node.now c.args.node.now.waiting c.in-Some.executed (sym c.in-Some.is ∙ c.in_ok-told.ensures.told))

pub returns-in_err-tell-in-Some-clause-err : goal.returns-in_err-tell-in-Some-clause-err
returns-in_err-tell-in-Some-clause-err g c =
    on_err _ (c.in_err-tell-in-Some.ensures.err ∙ (ap (λ (n : Node g.row.S.Denot). n.entries) c.in_ok-told.ensures.node ∙ entries_executed g.S.Service.meaning c.args.node.now c.args.node.now.waiting))
