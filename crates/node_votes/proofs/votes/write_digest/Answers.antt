use Rattle.std.proofs.Common.{refl, ap, ◌∙◌}
use Rattle.smart_statements.specs.declared.statement.Slot.{Slot}
use Rattle.vote_book.specs.Books.{Book}
use Rattle.vote_book.specs.declared.entry.LogEntry.TheVariants.{Wrote}
use Rattle.node_rules.specs.Nodes.{Node, open_slot}
use Rattle.node_state.proofs.Broken.{on_err, entry_none, entry_made, made_same}
use Rattle.node_state.proofs.Following.{wrote_after, slot_is}
use Rattle.node_votes.proofs.votes.write_digest.Goals as goal

pub invariant_of-node-2 : goal.invariant_of-node-2
invariant_of-node-2 g c =
    wrote_after _ _ _ _ c.node.inside.book c.push.new.self c.node.inside.instance c.wrote.new.self c.node.inside.synchronizer (record { slot = c.open_slot-slot.result; digest = c.args.digest }) c.node.invariant
    (slot_is c.args.node.now _ c.node.inside.instance c.open_slot-slot.result c.node.view_is c.node.invariant.instance c.open_slot-slot.ensures) c.in_ok-push.ensures.ok c.wrote.ensures

pub returns-in_err-vote-clause-err : goal.returns-in_err-vote-clause-err
returns-in_err-vote-clause-err g c =
    on_err _ (entry_none c.args.node.now.entries c.args.node.now.entries (Wrote (record { slot = open_slot c.args.node.now; digest = c.args.digest })) refl)

pub returns-in_err-push-clause-err : goal.returns-in_err-push-clause-err
returns-in_err-push-clause-err g c =
    on_err _ (entry_none c.args.node.now.entries c.push.new.self.entries (Wrote (record { slot = open_slot c.args.node.now; digest = c.args.digest }))
    (ap (λ (b : Book). b.entries) c.in_err-push.ensures.err ∙ ap (λ (n : Node g.row.S.Denot). n.entries) c.node.view_is))

pub returns-in_err-hold-clause-err : goal.returns-in_err-hold-clause-err
returns-in_err-hold-clause-err g c =
    on_err _ (entry_made c.args.node.now.entries c.hold.new.self.entries (Wrote (record { slot = open_slot c.args.node.now; digest = c.args.digest }))
    (c.in_err-hold.ensures.err ∙ (ap (λ (b : Book). b.entries) c.in_ok-push.ensures.ok ∙ made_same c.node.inside.book.entries c.args.node.now.entries _ _ (ap (λ (n : Node g.row.S.Denot). n.entries) c.node.view_is)
    (ap (λ (s : Slot). Wrote (record { slot = s; digest = c.args.digest })) c.open_slot-slot.ensures))))
