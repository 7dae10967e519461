use Rattle.group_ends.proofs.Polling.{same-takings}
use Rattle.group_ends.proofs.inbox.Inbox.take.Goals as goal

pub returns-in_err-taken-clause-none : goal.returns-in_err-taken-clause-none
returns-in_err-taken-clause-none g c = λ _. same-takings c.args.self.now.links.items c.poll_in_turn.new.links.items (c.poll_in_turn.ensures.none c.in_err-taken.was)
