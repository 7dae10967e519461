use Rattle.std.proofs.Common.{ap, sym, refl, ◌∙◌}
use Rattle.state_transfer.specs.Fetches.{finished}
use Rattle.node_rules.specs.Nodes.{Node}
use Rattle.node_state.proofs.Broken.{on_err}
use Rattle.node_replica.proofs.Installing.{on_ok, refused, by_group, by_stranger, by_fault, finish_none, finish_all, finish_part}
use Rattle.node_replica.proofs.install.finish.Goals as goal

pub returns-in_err-joined-clause-err : goal.returns-in_err-joined-clause-err
returns-in_err-joined-clause-err g c = on_err _ (finish_none c.args.node.now c.args.fetch.now (finished g.S.Service.meaning c.args.fetch.now) c.args.node.now.entries refl)

pub returns-then-not-is_of_group-clause-node : goal.returns-then-not-is_of_group-clause-node
returns-then-not-is_of_group-clause-node g c =
    on_ok _ (refused c.args.node.now c.refuse.new.node c.args.fetch.now c.requires.fetch c.refuse.ensures.node
    ∙ sym (by_stranger c.args.node.now c.args.fetch.now c.in-Ok.replica (finished g.S.Service.meaning c.args.fetch.now) c.in-Ok.ensures.exact (sym c.is_of_group.ensures ∙ c.if-not-is_of_group.true)))

pub returns-then-not-is_of_group-clause-err : goal.returns-then-not-is_of_group-clause-err
returns-then-not-is_of_group-clause-err g c =
    on_err _ (finish_none c.args.node.now c.args.fetch.now (finished g.S.Service.meaning c.args.fetch.now) c.refuse.new.node.entries (ap (λ (n : Node g.row.S.Denot). n.entries) c.refuse.ensures.node))

pub returns-in_err-install_replica-in-Ok-clause-err : goal.returns-in_err-install_replica-in-Ok-clause-err
returns-in_err-install_replica-in-Ok-clause-err g c =
    on_err _ (finish_part c.args.node.now c.args.fetch.now c.in-Ok.replica (finished g.S.Service.meaning c.args.fetch.now) c.install_replica.new.node.entries c.in-Ok.ensures.exact
    (sym c.is_of_group.ensures ∙ c.if-not-is_of_group.false) c.in_err-install_replica-in-Ok.ensures.err)

pub returns-in_err-tell_installed-in-Ok-clause-err : goal.returns-in_err-tell_installed-in-Ok-clause-err
returns-in_err-tell_installed-in-Ok-clause-err g c =
    on_err _ (finish_all c.args.node.now c.install_replica.new.node c.args.fetch.now (finished g.S.Service.meaning c.args.fetch.now)
    (c.in_ok-install_replica-in-Ok.ensures.node
    ∙ sym (by_group c.args.node.now c.args.fetch.now c.in-Ok.replica (finished g.S.Service.meaning c.args.fetch.now) c.in-Ok.ensures.exact (sym c.is_of_group.ensures ∙ c.if-not-is_of_group.false))))

pub returns-in-Err-Spoiled-clause-node : goal.returns-in-Err-Spoiled-clause-node
returns-in-Err-Spoiled-clause-node g c =
    on_ok _ (refused c.args.node.now c.refuse-in-Err-Spoiled.new.node c.args.fetch.now c.requires.fetch c.refuse-in-Err-Spoiled.ensures.node
    ∙ sym (by_fault c.args.node.now c.args.fetch.now c.in-Err-Spoiled.field-0-0 (finished g.S.Service.meaning c.args.fetch.now) (rw c.in-Err-Spoiled.field-0-is at c.in-Err-Spoiled.ensures.exact)))

pub returns-in-Err-Spoiled-clause-err : goal.returns-in-Err-Spoiled-clause-err
returns-in-Err-Spoiled-clause-err g c =
    on_err _ (finish_none c.args.node.now c.args.fetch.now (finished g.S.Service.meaning c.args.fetch.now) c.refuse-in-Err-Spoiled.new.node.entries
    (ap (λ (n : Node g.row.S.Denot). n.entries) c.refuse-in-Err-Spoiled.ensures.node))

pub returns-clause-err : goal.returns-clause-err
returns-clause-err g c = finish_none c.args.node.now c.args.fetch.now (finished g.S.Service.meaning c.args.fetch.now) c.args.node.now.entries refl
