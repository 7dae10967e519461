use Rattle.std.proofs.Common.{ap, sym, subst, ◌∙◌, ◌<◌, ◌≤◌, is_none}
use Rattle.smart_base.specs.Views.{present}
use Rattle.vote_book.specs.Books.{Book, last_made}
use Rattle.node_rules.specs.Nodes.{Node}
use Rattle.node_replica.proofs.Installing.{last_anew, follows_anew}
use Rattle.node_replica.proofs.install.take_over_anew.Goals as goal

pub summarize-instance-requires : goal.summarize-instance-requires
summarize-instance-requires g c = record {
  same = c.in_ok-other.ensures ∙ sym c.in_ok-own.ensures;
  made = subst (λ (b : Book). last_made b.entries ≤ c.args.replica.place) (sym c.in_ok-push.ensures.ok)
      (last_anew c.node.inside.book.entries c.args.installation c.node.inside.replica.replica.place c.args.replica.place c.node.inside.waiting c.node.invariant.made
      (ap (λ (n : Node g.row.S.Denot). is_none n.waiting) c.node.view_is ∙ c.requires.waits)
      (subst (λ (n : Node g.row.S.Denot). n.replica.place < c.args.replica.place) (sym c.node.view_is) c.requires.past)
      c.requires.place);
}

pub invariant_of-node-2 : goal.invariant_of-node-2
invariant_of-node-2 g c =
    follows_anew _ c.member-id.result c.in_ok-own.own _ _ c.args.replica.place c.node.inside.waiting _ _ _ c.member-id.ensures
    (c.in_ok-own.ensures ∙ c.present-view.ensures ∙ sym (ap (λ k. present k.replica.views) c.new-2.ensures))
    (ap (λ k. k.replica.place) c.new-2.ensures) (ap (λ (n : Node g.row.S.Denot). is_none n.waiting) c.node.view_is ∙ c.requires.waits) c.summarize-instance.ensures.follows
