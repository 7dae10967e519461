use Rattle.std.proofs.Common.{rules, ltb}
use Rattle.std.proofs.lemmas.List.Sorted.{IsPartitionPoint-from_clause}
use Rattle.smart_service.proofs.TableLines.{parted, place_is}
use Rattle.smart_service.proofs.table.lines_before.Goals as goal

pub returns-clause-place : goal.returns-clause-place
returns-clause-place c =
    place_is c.args.lines.now c.args.client c.partition_point.result c.partition_point.ensures.bound
    (IsPartitionPoint-from_clause (λ line. ltb line.last.client c.args.client) _ _ c.partition_point.ensures.partitioned
    (parted c.args.lines.now c.args.client c.requires) (λ a r q k. search rules))
