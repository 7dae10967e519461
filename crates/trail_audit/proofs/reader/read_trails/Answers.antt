use Rattle.std.proofs.Common.{◌∙◌, sym, ap, List}
use Rattle.audit_rules.specs.declared.recorded.Recorded.{Recorded}
use Rattle.audit_rules.specs.Readings.{damaged_part}
use Rattle.trail_audit.proofs.Readings.{are_read, damaged_at, fault_of}
use Rattle.trail_audit.proofs.reader.read_trails.Goals as goal

pub returns-in-Some-clause-fault : goal.returns-in-Some-clause-fault
returns-in-Some-clause-fault c =
    let told = c.in_ok-damage.ensures ∙ ap (λ (ts : List Recorded). damaged_part 0 ts) c.as_slice.ensures in
    damaged_at c.args.bytes.now c.in_ok-read.read.reading c.in_ok-read.read.count c.in_ok-read.read.stop c.in_ok-trails.trails c.in_ok-damage.damage c.in-Some.part c.in_ok-read.ensures
    c.in_ok-trails.ensures told c.in-Some.is

pub returns-clause-fault : goal.returns-clause-fault
returns-clause-fault c =
    let told = c.in_ok-damage.ensures ∙ ap (λ (ts : List Recorded). damaged_part 0 ts) c.as_slice.ensures in
    fault_of c.args.bytes.now c.in_ok-read.read.reading c.in_ok-read.read.count c.in_ok-read.read.stop c.in_ok-trails.trails c.in_ok-damage.damage c.is_some-lacks.result c.in-Err.fault
    c.in_ok-read.ensures c.in_ok-trails.ensures told c.in-None.is c.is_some-lacks.ensures c.in-Err.ensures.fault

pub returns-in-Ok-clause-read : goal.returns-in-Ok-clause-read
returns-in-Ok-clause-read c =
    let told = c.in_ok-damage.ensures ∙ ap (λ (ts : List Recorded). damaged_part 0 ts) c.as_slice.ensures in
    are_read c.args.bytes.now c.in_ok-read.read.reading c.in_ok-read.read.count c.in_ok-read.read.stop c.in_ok-trails.trails c.in-Ok.whole c.is_some-lacks.result c.in_ok-read.ensures
    c.in_ok-trails.ensures (sym told ∙ c.in-None.is) c.is_some-lacks.ensures c.in-Ok.ensures.read.0 c.in-Ok.ensures.read.1
