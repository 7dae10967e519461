use Rattle.smart_base.proofs.ViewFacts.{view-distinct, view-names}
use Rattle.smart_view.proofs.laws.members_have_names_of_their_own.Goals as goal

pub returns-clause-distinct : goal.returns-clause-distinct
returns-clause-distinct c = view-distinct

pub returns-clause-names : goal.returns-clause-names
returns-clause-names c = view-names
