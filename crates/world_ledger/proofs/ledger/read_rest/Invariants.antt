use Rattle.std.proofs.Common.{◌≡◌, ◌≤◌, length, take}
use Rattle.std.specs.HashSet.{contains}
use Rattle.world_ledger.specs.Statements.{same_stated, IsStatedIndex}
use Rattle.world_ledger.proofs.ledger.read_rest.Given as goal

-- the messages so far are read
abbrev pub invariant-loop-i : goal.invariant-loop-i
invariant-loop-i l = record {
  at : l.read ≡ l.i;
  within : l.i ≤ length l.sent;
  index : IsStatedIndex (contains same_stated l.stated) (take l.i l.sent);
}
