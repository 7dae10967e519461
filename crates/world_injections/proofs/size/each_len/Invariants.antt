use Rattle.std.proofs.Common.{◌≡◌, ◌+◌, ◌*◌, ◌^◌, ◌≤◌, drop, length}
use Rattle.std.specs.List.{flat_map}
use Rattle.smart_statements.specs.Spelling.{signed}
use Rattle.world_injections.proofs.size.each_len.Given as goal

-- the bytes so far and those of the statements left are all
abbrev pub invariant-loop-item : goal.invariant-loop-item
invariant-loop-item g l = record {
  all : l.bytes + length (flat_map (signed g.S.Statement.form) (drop l.item-index l.items)) ≡ length (flat_map (signed g.S.Statement.form) l.items);
  small : l.bytes ≤ l.item-index * 2 ^ 33;
}
