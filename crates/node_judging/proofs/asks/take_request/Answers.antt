use Rattle.node_judging.proofs.asks.take_request.Goals as goal

pub returns-clause-why : goal.returns-clause-why
returns-clause-why g c = rw (← c.in_ok-learn.ensures) c.offer.ensures.why
