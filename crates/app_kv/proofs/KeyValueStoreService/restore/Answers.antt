use Rattle.std.proofs.Common.{refl, ap, sym, subst, ◌∙◌}
use Rattle.app_kv.specs.Stores.{IsStore, ascends}
use Rattle.app_kv.specs.Restored.{valid_store}
use Rattle.app_kv.specs.Snapshots.{ascending}
use Rattle.app_kv.proofs.KeyValueStoreService.restore.Goals as goal

pub invariant_of-result : goal.invariant_of-result
invariant_of-result c =
    subst IsStore (sym c.into_vec.ensures)
    (valid_store c.in-Ok.entries c.args.bytes.now c.in-Ok.ensures.bytes
    (ap ascending c.in-Ok.ensures.exact ∙ rw (ap ascends (sym c.as_slice.ensures) ∙ sym c.ascends.ensures ∙ c.if-ascends.true) refl))
