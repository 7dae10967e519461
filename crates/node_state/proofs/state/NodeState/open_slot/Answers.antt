use Rattle.std.proofs.Common.{◌∙◌}
use Rattle.node_state.proofs.Following.{slot_after, free_after}
use Rattle.node_state.proofs.state.NodeState.open_slot.Goals as goal

pub open_slot-requires : goal.open_slot-requires
open_slot-requires g c = free_after c.args.self.now _ c.self.inside.instance c.self.view_is c.self.invariant.instance ∙ c.requires

pub returns : goal.returns
returns g c = c.open_slot.ensures ∙ slot_after c.args.self.now _ c.self.inside.instance c.self.view_is c.self.invariant.instance
