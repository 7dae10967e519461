use Rattle.std.proofs.Common.{◌≡◌, ◌≤◌, ◌||◌, length}
use Rattle.std.specs.HashSet.{contains, spare}
use Rattle.std.specs.List.{list_any}
use Rattle.world_ledger.specs.declared.stated.Stated.{Stated}
use Rattle.world_ledger.specs.Statements.{same_stated}
use Rattle.world_ledger.proofs.stated.put_all.Given as goal

-- those left and those in the index are all, and there is room for those left
abbrev pub invariant-loop-stated : goal.invariant-loop-stated
invariant-loop-stated l = record {
  all : (s : Stated) → (list_any (λ o. same_stated o s) l.stated-iterator.rest.items || contains same_stated l.index s) ≡ (list_any (λ o. same_stated o s) l.fn.own.items || contains same_stated l.fn.index s);
  room : length l.stated-iterator.rest.items ≤ spare l.index;
}
