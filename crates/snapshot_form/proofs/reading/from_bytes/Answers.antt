use Rattle.std.proofs.Common.{arith}
use Rattle.snapshot_form.proofs.Spelled.{is_found, is_only}
use Rattle.snapshot_form.proofs.reading.from_bytes.Goals as goal

pub returns-clause-found : goal.returns-clause-found
returns-clause-found g c =
    is_found g.S.Service.meaning g.S.Service.valid g.met.S.Service.restores g.met.S.Service.small g.met.S.Service.valid_restored g.met.S.Service.spelled
    c.args.bytes.now c.restored.result (record { below = λ i. omega (arith, c.type_inv.bytes i) }) c.restored.ensures

pub returns-clause-only : goal.returns-clause-only
returns-clause-only g c =
    is_only g.S.Service.meaning g.S.Service.valid g.met.S.Service.restores g.met.S.Service.small g.met.S.Service.valid_restored g.met.S.Service.spelled
    c.args.bytes.now c.restored.result c.restored.ensures
