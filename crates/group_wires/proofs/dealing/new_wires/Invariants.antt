use Rattle.std.proofs.Common.{◌≡◌, ◌+◌, replicate, vec_len}
use Rattle.group_wires.specs.Wires.{all_ends, row_ends, AreDealt}
use Rattle.group_wires.proofs.dealing.new_wires.Given as goal

abbrev pub invariant-loop-made : goal.invariant-loop-made
invariant-loop-made l = record {
  ends_are : row_ends l.rows.items ≡ replicate l._made (all_ends l.members);
  dealt : AreDealt l.rows.items l.inboxes.items;
  many : vec_len l.inboxes ≡ l.members + 1;
}
