use Rattle.trail_rules.proofs.Grows.{sends-more, arrivals-more, firm-more, replay-more, released-more, released-less, needed-more}
use Rattle.trail_rules.proofs.laws.a_trail_grows.Goals as goal

pub returns-clause-replay : goal.returns-clause-replay
returns-clause-replay g c = replay-more

pub returns-clause-released : goal.returns-clause-released
returns-clause-released g c = released-more

pub returns-clause-back : goal.returns-clause-back
returns-clause-back g c = released-less

pub returns-clause-firm : goal.returns-clause-firm
returns-clause-firm g c = firm-more

pub returns-clause-needed : goal.returns-clause-needed
returns-clause-needed g c = needed-more

pub returns-clause-sends : goal.returns-clause-sends
returns-clause-sends g c = sends-more

pub returns-clause-arrivals : goal.returns-clause-arrivals
returns-clause-arrivals g c = arrivals-more
