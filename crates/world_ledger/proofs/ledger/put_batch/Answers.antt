use Rattle.std.proofs.Common.{◌∙◌, ap}
use Rattle.smart_keys.specs.Keys.{digest}
use Rattle.smart_statements.specs.Batches.{batch_text}
use Rattle.world_ledger.proofs.LedgerLaws.{digest_is}
use Rattle.world_ledger.proofs.ledger.put_batch.Goals as goal

pub returns-in_ok-insert-clause-ok : goal.returns-in_ok-insert-clause-ok
returns-in_ok-insert-clause-ok c = λ d.
    let named = digest_is (batch_text c.in-Some.batch.now) c.in_ok-text.text.items c.get.result c.in_ok-text.ensures (c.get.ensures ∙ (c.digest-digest.ensures ∙ ap (λ x. digest x) c.as_slice.ensures.value)) in
    let more = c.in_ok-insert.ensures.updates.0 d in
    rw (← c.in-Some.ensures, named, ← c.in_ok-text.ensures, ← c.from_vec.ensures) more
