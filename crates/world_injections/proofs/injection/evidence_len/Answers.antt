use Rattle.std.proofs.Common.{◌∙◌, List, ap, length}
use Rattle.std.specs.Prelude.{filter}
use Rattle.std.specs.List.{flat_map}
use Rattle.smart_statements.specs.Forms.{SignedBy}
use Rattle.smart_statements.specs.Kinds.{ballots}
use Rattle.smart_statements.specs.Spelling.{signed}
use Rattle.smart_statements.specs.declared.statement.Ballot.{Ballot}
use Rattle.world_injections.specs.Sizes.{is_early}
use Rattle.world_injections.proofs.SizeLaws.{shown_length}
use Rattle.world_injections.proofs.injection.evidence_len.Goals as goal

pub returns-in-Some-decision_at-clause-value : goal.returns-in-Some-decision_at-clause-value
returns-in-Some-decision_at-clause-value c =
    shown_length c.args.sent.now c.args.decision c.in-Some.number c.early_len.result c.in-Some-decision_at.proven.now c.in-Some.is c.in-Some-decision_at.ensures
    (c.early_len.ensures.value ∙ ap (λ (xs : List (SignedBy Ballot)). length (flat_map (signed ballots) (filter is_early xs))) c.as_slice.ensures.value)
