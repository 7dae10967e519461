use Rattle.std.proofs.Common.{◌∙◌, ap, is_some, Option}
use Rattle.consensus_instance.specs.declared.start.Start.{Start}
use Rattle.node_state.proofs.Following.{synced_after}
use Rattle.node_turns.proofs.times.is_synced.Goals as goal

pub returns : goal.returns
returns g c =
    c.is_some.ensures ∙ (ap (λ (o : Option Start). is_some o) c.start.ensures.start ∙ synced_after c.args.node.now _ c.node.inside.instance c.node.view_is c.node.invariant.instance)
