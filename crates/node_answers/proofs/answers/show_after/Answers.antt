use Rattle.std.proofs.Common.{◌≡◌, ℕ, ◌+◌, ap, sym, ◌∙◌, arith, Option}
use Rattle.std.specs.Option.{option_to_list}
use Rattle.node_rules.specs.Nodes.{holding_all}
use Rattle.node_rules.specs.Transfers.{place_of_snapshot, shown_at}
use Rattle.node_rules.specs.declared.node.OwnSnapshot.{OwnSnapshot}
use Rattle.node_rules.specs.declared.node.Target.TheVariants as targets
use Rattle.node_state.proofs.Broken.{on_err}
use Rattle.node_answers.proofs.Answering.{showed_more, showed_newest, showed_entries, showed_taken, showed_all}
use Rattle.node_answers.proofs.answers.show_after.Goals as goal

pub show_at-requires : goal.show_at-requires
show_at-requires g c =
    c.requires
    ∙ sym (ap (λ (o : Option OwnSnapshot). place_of_snapshot o) (showed_newest c.args.node.now (targets.Node c.args.member) c.args.asked c.loop-count.count c.loop-count.node c.loop-count.invariant))

pub loop-count-preserved : goal.loop-count-preserved
loop-count-preserved g c =
    showed_more c.args.node.now (targets.Node c.args.member) c.args.asked c.loop-count.count c.loop-count.node c.show_at.new.node c.loop-count.invariant
    (c.in_ok-show_at.ensures.node ∙ ap (λ k. holding_all c.loop-count.node (targets.Node c.args.member) (option_to_list (shown_at c.loop-count.node (k + 1 + c.loop-count.count)))) c.get.ensures.value)

pub returns-clause-node : goal.returns-clause-node
returns-clause-node g c = showed_all c.args.node.now (targets.Node c.args.member) c.args.asked c.loop-count.count c.loop-count.node c.loop-count.invariant (omega arith)

pub returns-in_err-show_at-clause-err : goal.returns-in_err-show_at-clause-err
returns-in_err-show_at-clause-err g c =
    on_err _ (c.in_err-show_at.ensures.err ∙ showed_entries c.args.node.now (targets.Node c.args.member) c.args.asked c.loop-count.count c.loop-count.node c.loop-count.invariant)

pub returns-in_err-show_at-clause-snapshots : goal.returns-in_err-show_at-clause-snapshots
returns-in_err-show_at-clause-snapshots g c =
    on_err _ (c.in_err-show_at.ensures.snapshots ∙ showed_taken c.args.node.now (targets.Node c.args.member) c.args.asked c.loop-count.count c.loop-count.node c.loop-count.invariant)
