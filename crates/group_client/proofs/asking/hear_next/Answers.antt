use Rattle.group_client.proofs.Behind.{more-none, more-same}
use Rattle.group_client.proofs.asking.hear_next.Goals as goal

pub returns-then-not-poll-clause-behind : goal.returns-then-not-poll-clause-behind
returns-then-not-poll-clause-behind g c = more-none c.args.seat.now.journal.events.items c.poll.new.self.journal.events.items c.poll.ensures.same.0
