use Rattle.std.proofs.Common.{◌≡◌, take}
use Rattle.world_ledger.proofs.managed.copy_of.Given as goal

-- what is copied is the front
abbrev pub invariant-loop-view : goal.invariant-loop-view
invariant-loop-view l = l.list.items ≡ take l.view-index l.all
