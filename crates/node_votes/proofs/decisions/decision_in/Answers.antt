use Rattle.node_votes.proofs.Accepts.{decided_where}
use Rattle.node_votes.proofs.decisions.decision_in.Goals as goal

pub returns-clause-decision : goal.returns-clause-decision
returns-clause-decision g c =
    decided_where c.args.node.now c.args.regency c.slot_in-slot.result c.in_ok-first.first c.in_ok-found.found c.slot_in-slot.ensures c.in_ok-first.ensures.decision c.in_ok-found.ensures.decision
