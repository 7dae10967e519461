use Rattle.std.proofs.Common.{◌≡◌}
use Rattle.node_rules.specs.Rules.{replying}
use Rattle.node_replica.proofs.replies.replying.Given as goal

-- the lines left complete what all make, and no entry is made
abbrev pub invariant-loop-line : goal.invariant-loop-line
invariant-loop-line g l = record {
  node : replying l.node l.line-iterator.rest.items ≡ replying l.fn.node l.fn.lines;
  book : l.node.entries ≡ l.fn.node.entries;
}
