use Rattle.std.proofs.Common.{◌≡◌, ◌++◌, map, drop}
use Rattle.world_ledger.specs.Claims.{claims_by}
use Rattle.world_ledger.specs.Statements.{claim_of}
use Rattle.world_ledger.proofs.claims.keep_each.Given as goal

-- those so far and those of the statements left are all
abbrev pub invariant-loop-item : goal.invariant-loop-item
invariant-loop-item l =
    map claim_of l.found.items ++ claims_by (drop l.item-index l.items) ≡ map claim_of l.fn.found.items ++ claims_by l.fn.items
