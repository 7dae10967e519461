use Rattle.audit_laws.proofs.Fronts.{front-stops, of-front}
use Rattle.audit_laws.proofs.laws.a_front_of_a_trail_is_refused.Goals as goal

pub returns-clause-stops : goal.returns-clause-stops
returns-clause-stops c = front-stops

pub returns-clause-ended : goal.returns-clause-ended
returns-clause-ended c = of-front
