use Rattle.std.proofs.Common.{◌∙◌, sym}
use Rattle.node_state.proofs.Following.{due_after, free_after}
use Rattle.node_votes.proofs.votes.due.Goals as goal

pub returns-clause-proposal : goal.returns-clause-proposal
returns-clause-proposal g c =
    c.due.ensures.proposal ∙ due_after c.args.rule c.args.node.now _ c.node.inside.instance c.node.view_is c.node.invariant.instance

pub returns-clause-free : goal.returns-clause-free
returns-clause-free g c = λ some. sym (free_after c.args.node.now _ c.node.inside.instance c.node.view_is c.node.invariant.instance) ∙ c.due.ensures.free some
