use Rattle.node_state.proofs.Following.{begins_same}
use Rattle.node_turns.proofs.starts.present_start.Goals as goal

pub returns : goal.returns
returns g c =
    begins_same c.args.node.now _ c.view.result.now c.number.result c.args.regency c.first_start.result c.node.view_is c.view.ensures c.number.ensures c.first_start.ensures
