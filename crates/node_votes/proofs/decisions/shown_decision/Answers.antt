use Rattle.std.proofs.Common.{ap, ◌∙◌}
use Rattle.vote_book.specs.declared.entry.Decision.{Decision}
use Rattle.node_votes.proofs.Shown.{shown_place}
use Rattle.node_votes.proofs.decisions.shown_decision.Goals as goal

pub returns-in_ok-decision_shown-in-Some-clause-place : goal.returns-in_ok-decision_shown-in-Some-clause-place
returns-in_ok-decision_shown-in-Some-clause-place g c =
    ap (λ (d : Decision). d.slot.place) c.in_ok-decision_shown-in-Some.ensures ∙ shown_place c.args.node.now c.in-Some.proven.now c.in-Some.ensures
