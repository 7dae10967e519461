use Rattle.std.proofs.Common.{List, ℕ, subst}
use Rattle.node_core.specs.Reopeners.{IsAfter}
use Rattle.node_core.proofs.Reopeners.{after_next, damaged_next, take_past, same_fault}
use Rattle.node_core.proofs.reopener.Reopener.read_all.Goals as goal

pub loop-bytes-preserved : goal.loop-bytes-preserved
loop-bytes-preserved g c o first =
    after_next g.S.Service.meaning o c.args.entries.now c.loop-bytes.bytes-index c.bytes-item.result c.as_slice.result.now c.loop-bytes.self c.entry.new.self c.loop-bytes-test.true c.bytes-item.is c.as_slice.ensures
    (c.loop-bytes.invariant o first) c.in_ok-entry.ensures.next c.in_ok-entry.ensures.some

pub returns-in_err-entry-clause-cause : goal.returns-in_err-entry-clause-cause
returns-in_err-entry-clause-cause g c entry is o first =
    damaged_next g.S.Service.meaning o c.args.entries.now c.loop-bytes.bytes-index c.bytes-item.result c.as_slice.result.now c.loop-bytes.self entry c.loop-bytes-test.true c.bytes-item.is c.as_slice.ensures
    (c.loop-bytes.invariant o first) (c.entry.ensures.cause entry (same_fault c.entry.result c.from_residual.result c.in_err-entry.field-0.0 _ c.in_err-entry.was c.from_residual.ensures.1 is))

pub returns-clause-read : goal.returns-clause-read
returns-clause-read g c o first =
    subst (λ (xs : List (List ℕ)). IsAfter g.S.Service.meaning o xs c.loop-bytes.self) (take_past c.args.entries.now c.loop-bytes.bytes-index c.loop-bytes-test.false) (c.loop-bytes.invariant o first)
