use Rattle.std.proofs.Common.{◌∙◌, ℕ, List, IfSome, subst}
use Rattle.group_ends.specs.Ports.{takings, IsTaken}
use Rattle.group_ends.proofs.Polling.{same-takings}
use Rattle.group_ends.proofs.inbox.poll_in_turn.Goals as goal

pub returns-in-None-clause-some : goal.returns-in-None-clause-some
returns-in-None-clause-some g c =
    let now = c.poll_from-in-None in
    subst (λ (ts : List (List (List ℕ))). IfSome now.result (λ t. IsTaken t.bytes ts (takings now.new.links.items)))
    (same-takings c.args.links.now.items c.poll_from.new.links.items (c.poll_from.ensures.none c.in-None.is)) now.ensures.some

pub returns-in-None-clause-heard : goal.returns-in-None-clause-heard
returns-in-None-clause-heard g c = c.poll_from-in-None.ensures.heard ∙ c.poll_from.ensures.heard
