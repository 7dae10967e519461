use Rattle.trail_replies.proofs.Answers.{answered_by}
use Rattle.trail_replies.proofs.laws.accepted_replies_are_answers.Goals as goal

pub returns : goal.returns
returns c = answered_by
