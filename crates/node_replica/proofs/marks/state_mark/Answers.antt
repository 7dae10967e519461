use Rattle.std.proofs.Common.{refl, ap, ◌∙◌}
use Rattle.vote_book.specs.Books.{Book}
use Rattle.vote_book.specs.declared.entry.LogEntry.TheVariants.{Marked}
use Rattle.node_rules.specs.Nodes.{Node}
use Rattle.node_state.proofs.Broken.{on_err, entry_none, entry_made, made_same}
use Rattle.node_state.proofs.Following.{marked_after}
use Rattle.node_replica.proofs.marks.state_mark.Goals as goal

pub invariant_of-node-2 : goal.invariant_of-node-2
invariant_of-node-2 g c =
    marked_after _ _ _ _ c.node.inside.book c.push.new.self c.node.inside.instance c.node.inside.synchronizer c.args.mark c.node.invariant c.in_ok-push.ensures.ok

pub returns-in_err-message-clause-err : goal.returns-in_err-message-clause-err
returns-in_err-message-clause-err g c = on_err _ (entry_none c.args.node.now.entries c.args.node.now.entries (Marked c.args.mark) refl)

pub returns-in_err-push-clause-err : goal.returns-in_err-push-clause-err
returns-in_err-push-clause-err g c =
    on_err _ (entry_none c.args.node.now.entries c.push.new.self.entries (Marked c.args.mark)
    (ap (λ (b : Book). b.entries) c.in_err-push.ensures.err ∙ ap (λ (n : Node g.row.S.Denot). n.entries) c.node.view_is))

pub returns-in_err-hold-clause-err : goal.returns-in_err-hold-clause-err
returns-in_err-hold-clause-err g c =
    on_err _ (entry_made c.args.node.now.entries c.hold.new.self.entries (Marked c.args.mark)
    (c.in_err-hold.ensures.err ∙ (ap (λ (b : Book). b.entries) c.in_ok-push.ensures.ok
    ∙ made_same c.node.inside.book.entries c.args.node.now.entries (Marked c.args.mark) (Marked c.args.mark) (ap (λ (n : Node g.row.S.Denot). n.entries) c.node.view_is) refl)))
