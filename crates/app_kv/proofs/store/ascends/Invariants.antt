use Rattle.std.proofs.Common.{◌≡◌, drop}
use Rattle.app_kv.specs.Stores.{above, ascends}
use Rattle.app_kv.proofs.store.ascends.Given as goal

-- the entries left ascend from the last key as all do
abbrev pub invariant-loop-entry : goal.invariant-loop-entry
invariant-loop-entry l = above l.last (drop l.entry-index l.others) ≡ ascends l.fn.entries
