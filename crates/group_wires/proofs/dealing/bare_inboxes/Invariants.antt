use Rattle.std.proofs.Common.{◌≡◌, [], vec_len}
use Rattle.group_wires.specs.Wires.{AreDealt}
use Rattle.group_wires.proofs.dealing.bare_inboxes.Given as goal

abbrev pub invariant-loop-made : goal.invariant-loop-made
invariant-loop-made l = record {
  bare : AreDealt [] l.inboxes.items;
  many : vec_len l.inboxes ≡ l._made;
}
