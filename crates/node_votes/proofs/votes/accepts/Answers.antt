use Rattle.std.proofs.Common.{refl, ap, ◌∙◌}
use Rattle.smart_statements.specs.declared.statement.Proposal.{Proposal}
use Rattle.node_votes.proofs.Due.{accepts_where}
use Rattle.node_state.proofs.Broken.{on_err}
use Rattle.node_votes.proofs.Broken.{accept_stops, accepted_stops}
use Rattle.node_votes.proofs.votes.accepts.Goals as goal

pub returns-in_ok-accept_digest-in-Some-clause-node : goal.returns-in_ok-accept_digest-in-Some-clause-node
returns-in_ok-accept_digest-in-Some-clause-node g c =
    c.in_ok-accept_digest-in-Some.ensures.node ∙ accepts_where c.args.node.now c.in-Some.proposed.now c.statement.result.now.digest c.in_ok-batch-in-Some.batch c.in-Some.ensures.proposal
    (ap (λ (p : Proposal). p.digest) c.statement.ensures) c.in_ok-batch-in-Some.ensures

pub returns-in_err-batch-in-Some-clause-err : goal.returns-in_err-batch-in-Some-clause-err
returns-in_err-batch-in-Some-clause-err g c =
    on_err _ (accept_stops c.args.node.now c.args.node.now refl)

pub returns-in_err-push-in-Some-clause-err : goal.returns-in_err-push-in-Some-clause-err
returns-in_err-push-in-Some-clause-err g c =
    on_err _ (accept_stops c.args.node.now c.args.node.now refl)

pub returns-in_err-accept_digest-in-Some-clause-err : goal.returns-in_err-accept_digest-in-Some-clause-err
returns-in_err-accept_digest-in-Some-clause-err g c =
    on_err _ (accepted_stops c.args.node.now c.accept_digest.new.node c.in-Some.proposed.now c.statement.result.now.digest c.in_ok-batch-in-Some.batch c.in-Some.ensures.proposal (ap (λ (p : Proposal). p.digest) c.statement.ensures)
    c.in_ok-batch-in-Some.ensures c.in_err-accept_digest-in-Some.ensures.err)
