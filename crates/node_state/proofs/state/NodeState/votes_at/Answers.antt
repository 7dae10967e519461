use Rattle.node_state.proofs.Following.{votes_same}
use Rattle.node_state.proofs.state.NodeState.votes_at.Goals as goal

pub returns : goal.returns
returns g c =
    votes_same c.args.self.now _ c.view.result.now c.number.result c.args.place c.args.regency c.votes_at.result c.self.view_is c.view.ensures c.number.ensures c.votes_at.ensures
