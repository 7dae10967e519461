use Rattle.std.proofs.Common.{◌≡◌, ◌++◌, map, filter, drop}
use Rattle.world_ledger.specs.Claims.{claims_by}
use Rattle.world_ledger.specs.Statements.{claim_of, is_own}
use Rattle.world_ledger.proofs.own.keep_each.Given as goal

-- those so far and the own ones of the statements left are all
abbrev pub invariant-loop-item : goal.invariant-loop-item
invariant-loop-item l =
    map claim_of l.found.items ++ filter (is_own l.origin) (claims_by (drop l.item-index l.items))
    ≡ map claim_of l.fn.found.items ++ filter (is_own l.origin) (claims_by l.fn.items)
