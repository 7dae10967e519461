use Rattle.std.proofs.Common.{refl, ap, ◌∙◌}
use Rattle.smart_statements.specs.declared.statement.VoteKind.TheVariants.{Write}
use Rattle.vote_book.specs.Books.{Book}
use Rattle.vote_book.specs.declared.entry.LogEntry.TheVariants.{Accepted}
use Rattle.node_rules.specs.Nodes.{Node, view_of, open_slot}
use Rattle.node_rules.specs.Votes.{certificate_votes}
use Rattle.node_state.proofs.Broken.{on_err, entry_none, entry_made, made_same}
use Rattle.node_votes.proofs.Broken.{accept_same}
use Rattle.node_state.proofs.Following.{accepted_after, slot_is}
use Rattle.node_votes.proofs.votes.accept_digest.Goals as goal

pub invariant_of-node-2 : goal.invariant_of-node-2
invariant_of-node-2 g c =
    accepted_after _ _ _ _ c.node.inside.book c.push.new.self c.node.inside.instance c.accepted.new.self c.node.inside.synchronizer
    (record { slot = c.open_slot-slot.result; digest = c.args.digest; writes = c.in_ok-writes.writes; batch = c.args.batch }) c.node.invariant
    (slot_is c.args.node.now _ c.node.inside.instance c.open_slot-slot.result c.node.view_is c.node.invariant.instance c.open_slot-slot.ensures) c.in_ok-push.ensures.ok c.accepted.ensures

pub returns-in_err-vote-clause-err : goal.returns-in_err-vote-clause-err
returns-in_err-vote-clause-err g c =
    on_err _ (entry_none c.args.node.now.entries c.args.node.now.entries
    (Accepted (record { slot = open_slot c.args.node.now; digest = c.args.digest; writes = certificate_votes c.args.node.now.arrivals (view_of c.args.node.now) Write (open_slot c.args.node.now) c.args.digest; batch = c.args.batch })) refl)

pub returns-in_err-writes-clause-err : goal.returns-in_err-writes-clause-err
returns-in_err-writes-clause-err g c =
    on_err _ (entry_none c.args.node.now.entries c.args.node.now.entries
    (Accepted (record { slot = open_slot c.args.node.now; digest = c.args.digest; writes = certificate_votes c.args.node.now.arrivals (view_of c.args.node.now) Write (open_slot c.args.node.now) c.args.digest; batch = c.args.batch })) refl)

pub returns-in_err-push-clause-err : goal.returns-in_err-push-clause-err
returns-in_err-push-clause-err g c =
    on_err _ (entry_none c.args.node.now.entries c.push.new.self.entries
    (Accepted (record { slot = open_slot c.args.node.now; digest = c.args.digest; writes = certificate_votes c.args.node.now.arrivals (view_of c.args.node.now) Write (open_slot c.args.node.now) c.args.digest; batch = c.args.batch }))
    (ap (λ (b : Book). b.entries) c.in_err-push.ensures.err ∙ ap (λ (n : Node g.row.S.Denot). n.entries) c.node.view_is))

pub returns-in_err-hold-clause-err : goal.returns-in_err-hold-clause-err
returns-in_err-hold-clause-err g c =
    on_err _ (entry_made c.args.node.now.entries c.hold.new.self.entries
    (Accepted (record { slot = open_slot c.args.node.now; digest = c.args.digest; writes = certificate_votes c.args.node.now.arrivals (view_of c.args.node.now) Write (open_slot c.args.node.now) c.args.digest; batch = c.args.batch }))
    (c.in_err-hold.ensures.err ∙ (ap (λ (b : Book). b.entries) c.in_ok-push.ensures.ok ∙ made_same c.node.inside.book.entries c.args.node.now.entries _ _ (ap (λ (n : Node g.row.S.Denot). n.entries) c.node.view_is)
    (accept_same c.args.node.now c.args.node.now.arrivals (view_of c.args.node.now) c.open_slot-slot.result c.args.digest c.in_ok-writes.writes c.args.batch refl refl c.open_slot-slot.ensures
    c.in_ok-writes.ensures))))
