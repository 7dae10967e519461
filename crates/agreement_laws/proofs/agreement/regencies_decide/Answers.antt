use Rattle.std.proofs.Common.{refl}
use Rattle.smart_statements.specs.declared.statement.VoteKind.TheVariants.{Accept}
use Rattle.agreement_laws.specs.Example.{votes, first_voters}
use Rattle.agreement_laws.proofs.Example.{is_group, witnessed, accepts_two, first_decided, later_decided}
use Rattle.agreement_laws.proofs.ExampleBooks.{diary_tidy}
use Rattle.agreement_laws.proofs.agreement.regencies_decide.Goals as goal

pub returns-clause-group : goal.returns-clause-group
returns-clause-group c = is_group

pub returns-clause-witnessed : goal.returns-clause-witnessed
returns-clause-witnessed c = witnessed

pub returns-clause-tidy : goal.returns-clause-tidy
returns-clause-tidy c = diary_tidy

pub returns-clause-faulty : goal.returns-clause-faulty
returns-clause-faulty c = λ secret digest other batch. let both = accepts_two secret digest other batch in (refl, both.0, both.1)

pub returns-clause-first : goal.returns-clause-first
returns-clause-first c = first_decided

pub returns-clause-later : goal.returns-clause-later
returns-clause-later c = later_decided

pub returns-clause-list : goal.returns-clause-list
returns-clause-list c = λ secret digest_of other batch. (
  record {
    regency = 0;
    accepts = votes secret 0 Accept (digest_of batch) first_voters;
    decision = first_decided secret (digest_of batch) other batch;
  },
  tt,
)
