use Rattle.std.proofs.Common.{subst, arith}
use Rattle.smart_base.specs.Cuts.{GivesAll}
use Rattle.trail.proofs.Spelled.{is-found, is-only}
use Rattle.trail.proofs.event_bytes.decode_event.Goals as goal

pub returns-clause-found : goal.returns-clause-found
returns-clause-found c = is-found c.args.bytes.now c.read_all.result (record { below = λ i. omega (arith, c.type_inv.bytes i) }) c.read_all.ensures

pub returns-clause-only : goal.returns-clause-only
returns-clause-only c = λ e fits same. subst (λ f. GivesAll c.read_all.result f) (is-only c.args.bytes.now e fits same) c.read_all.ensures
