use Rattle.trail_posts.proofs.Countings.{once}
use Rattle.trail_posts.proofs.counts.count_once.Goals as goal

pub returns : goal.returns
returns c =
    once c.args.counts.now c.insert.new.self c.args.posted.now c.in_ok-copy.copy c.count-before.result c.in_ok-times.times c.in_ok-copy.ensures c.count-before.ensures c.in_ok-times.ensures
    c.in_ok-insert.ensures.updates.0
