use Rattle.std.proofs.Common.{sym, ap}
use Rattle.log_lane.specs.Lane.{lane_put}
use Rattle.node_played.specs.Lives.{has_end}
use Rattle.node_played.proofs.Grown.{last_none, put_first}
use Rattle.node_played.proofs.played.Played.open.Goals as goal

pub invariant_of-result-clause-put : goal.invariant_of-result-clause-put
invariant_of-result-clause-put g c =
    put_first g.S.Service.meaning g.P.Life.opening c.args.core.node g.P.Home.restored c.restored.result c.new.result.items c.book.result.now _ (lane_put c.args.lane) (lane_put c.put_all.new.lane)
    c.requires.core.0 c.requires.opening.0 c.new.ensures.items c.restored.ensures c.book.ensures c.in-Ok.ensures c.requires.lane.1.0 c.put_all.ensures.put

pub invariant_of-result-clause-ends : goal.invariant_of-result-clause-ends
invariant_of-result-clause-ends g c = sym (ap has_end c.new.ensures.items)

pub invariant_of-result-clause-end_last : goal.invariant_of-result-clause-end_last
invariant_of-result-clause-end_last g c = last_none _ c.new.ensures.items
