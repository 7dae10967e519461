use Rattle.std.proofs.Common.{rules}
use Rattle.std.specs.Ordering.{is_gt}
use Rattle.std.proofs.lemmas.List.Sorted.{IsPartitionPoint-from_clause}
use Rattle.app_kv.specs.Stores.{byte_order}
use Rattle.app_kv.proofs.Places.{parted, place_is}
use Rattle.app_kv.proofs.store.entries_before.Goals as goal

pub returns-clause-place : goal.returns-clause-place
returns-clause-place c =
    place_is c.args.entries.now c.args.key.now c.partition_point.result c.partition_point.ensures.bound
    (IsPartitionPoint-from_clause (λ e. is_gt (byte_order c.args.key.now e.key)) _ _ c.partition_point.ensures.partitioned
    (parted c.args.entries.now c.args.key.now c.requires) (λ a r q k. search rules))
