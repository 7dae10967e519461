use Rattle.node_judging.proofs.Requests.{why_where, kept_where}
use Rattle.node_judging.proofs.asks.offer.Goals as goal

pub returns-clause-why : goal.returns-clause-why
returns-clause-why g c =
    why_where c.args.node.now _ c.args.request c.statement-asked.result.now c.replica.result.now c.ring.result.now c.last_seq-last.result c.is_gone-gone.result c.in_ok-offer.offer c.why_offered.result c.node.view_is
    c.requires.member c.requires.client c.statement-asked.ensures c.replica.ensures c.ring.ensures c.last_seq-last.ensures c.is_gone-gone.ensures c.in_ok-offer.ensures.answer c.why_offered.ensures

pub returns-clause-node : goal.returns-clause-node
returns-clause-node g c =
    kept_where c.args.node.now _ c.args.request c.statement-asked.result.now c.replica.result.now c.ring.result.now c.last_seq-last.result c.is_gone-gone.result c.in_ok-offer.offer c.why_offered.result c.offer.new.self c.node.view_is
    c.statement-asked.ensures c.replica.ensures c.ring.ensures c.last_seq-last.ensures c.is_gone-gone.ensures c.in_ok-offer.ensures.answer c.why_offered.ensures c.in_ok-offer.ensures.pool
