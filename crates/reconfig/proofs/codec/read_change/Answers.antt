use Rattle.std.proofs.Common.{subst, arith}
use Rattle.smart_base.specs.Cuts.{GivesAll}
use Rattle.reconfig.proofs.Changes.{is_found, is_only}
use Rattle.reconfig.proofs.codec.read_change.Goals as goal

pub returns-clause-found : goal.returns-clause-found
returns-clause-found c = is_found c.args.op.now c.read_all.result (record { below = λ i. omega (arith, c.type_inv.op i) }) c.read_all.ensures

pub returns-clause-only : goal.returns-clause-only
returns-clause-only c = λ change fits e. subst (λ f. GivesAll c.read_all.result f) (is_only c.args.op.now change fits e) c.read_all.ensures
