use Rattle.std.proofs.Common.{refl, ap, ◌∙◌}
use Rattle.smart_statements.specs.declared.statement.Proposal.{Proposal}
use Rattle.node_votes.proofs.Due.{writes_where}
use Rattle.node_state.proofs.Broken.{on_err}
use Rattle.node_votes.proofs.Broken.{write_stops, wrote_stops}
use Rattle.node_votes.proofs.votes.writes.Goals as goal

pub returns-in_ok-write_digest-in-Some-clause-node : goal.returns-in_ok-write_digest-in-Some-clause-node
returns-in_ok-write_digest-in-Some-clause-node g c =
    c.in_ok-write_digest-in-Some.ensures.node ∙ writes_where c.args.node.now c.in-Some.proposed.now c.statement.result.now.digest c.in-Some.ensures.proposal (ap (λ (p : Proposal). p.digest) c.statement.ensures)

pub returns-in_err-push-in-Some-clause-err : goal.returns-in_err-push-in-Some-clause-err
returns-in_err-push-in-Some-clause-err g c =
    on_err _ (write_stops c.args.node.now c.args.node.now refl)

pub returns-in_err-write_digest-in-Some-clause-err : goal.returns-in_err-write_digest-in-Some-clause-err
returns-in_err-write_digest-in-Some-clause-err g c =
    on_err _ (wrote_stops c.args.node.now c.write_digest.new.node c.in-Some.proposed.now c.statement.result.now.digest c.in-Some.ensures.proposal (ap (λ (p : Proposal). p.digest) c.statement.ensures) c.in_err-write_digest-in-Some.ensures.err)
