use Rattle.std.proofs.Common.{arith}
use Rattle.reconfig.proofs.Outcomes.{caused}
use Rattle.reconfig.proofs.outcome.execute.Goals as goal

pub returns-clause-cause : goal.returns-clause-cause
returns-clause-cause c =
    caused c.args.views.now c.args.op.now c.args.place c.outcome_of.result (record { below = λ i. omega (arith, c.type_inv.op i) }) c.outcome_of.ensures
