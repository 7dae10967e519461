use Rattle.trail_replies.proofs.Own.{all_own}
use Rattle.trail_replies.proofs.laws.a_client_accepts_replies_to_its_own_requests.Goals as goal

pub returns : goal.returns
returns c = all_own
