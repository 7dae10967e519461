use Rattle.std.proofs.Common.{◌≡◌, ◌++◌}
use Rattle.std.specs.List.{flat_map}
use Rattle.node_rules.specs.Deliveries.{segment_after}
use Rattle.world_rules.specs.Worlds.{segment_of, snapshot_in}
use Rattle.world_hosts.specs.Hearing.{with_segment}
use Rattle.world_hosts.proofs.host.keep_fired.Given as goal

-- keeping what is left keeps all
abbrev pub invariant-loop-rule : goal.invariant-loop-rule
invariant-loop-rule g l = record {
  host : with_segment l.host (segment_after (segment_of l.host) l.rule-iterator.rest.items) ≡ with_segment l.fn.host (segment_after (segment_of l.fn.host) l.fn.fired);
  marked : l.marked.items ++ flat_map snapshot_in l.rule-iterator.rest.items ≡ l.fn.marked.items ++ flat_map snapshot_in l.fn.fired;
}
