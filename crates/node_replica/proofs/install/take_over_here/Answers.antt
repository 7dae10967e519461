use Rattle.std.proofs.Common.{ap, sym, subst, ◌∙◌, ◌<◌, is_none, option_map}
use Rattle.smart_base.specs.Views.{View, present}
use Rattle.consensus_instance.specs.Nodes.{stated_start}
use Rattle.node_rules.specs.Nodes.{Node, start_at}
use Rattle.node_state.proofs.Following.{installed_where}
use Rattle.node_replica.proofs.Installing.{follows_kept}
use Rattle.node_replica.proofs.install.take_over_here.Goals as goal

pub invariant_of-node-2 : goal.invariant_of-node-2
invariant_of-node-2 g c =
    let own = c.in_ok-own.ensures ∙ c.present-view.ensures in
    let other = c.in_ok-other.ensures ∙ c.present-view.ensures in
    follows_kept _ _ (present c.args.replica.views) _ c.args.replica.place _ _ _ _ (ap (λ k. present k.replica.views) c.new.ensures) (ap (λ k. k.replica.place) c.new.ensures)
    (installed_where _ _ (present c.args.replica.views) c.in_ok-own.own c.in_ok-other.other c.node.inside.replica.replica.place c.args.replica.place c.number-number.result c.get.result c.node.inside.waiting
    c.node.inside.book c.push.new.self c.pushed.result.now c.node.inside.instance c.taken_to.new.self c.node.inside.synchronizer c.taken_to-2.new.self c.args.installation c.greatest_regency-regency.result
    c.start_at-start.result c.first_start.result c.is_some-synced.result c.votes_at-votes.result c.node.invariant
    (ap (λ (n : Node g.row.S.Denot). is_none n.waiting) c.node.view_is ∙ c.requires.waits)
    (subst (λ (n : Node g.row.S.Denot). n.replica.place < c.args.replica.place) (sym c.node.view_is) c.requires.past)
    c.requires.place own other (c.number-number.ensures ∙ ap (λ (v : View). v.number) c.present-view.ensures) c.pushed.ensures c.greatest_regency-regency.ensures
    (c.start_at-start.ensures.value ∙ ap (λ (v : View). option_map stated_start (start_at v c.greatest_regency-regency.result c.node.inside.book.entries)) c.present-view.ensures)
    c.first_start.ensures c.is_some-synced.ensures c.get.ensures.value c.votes_at-votes.ensures c.in_ok-push.ensures.ok c.taken_to.ensures c.taken_to-2.ensures)
