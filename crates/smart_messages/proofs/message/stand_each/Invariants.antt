use Rattle.std.proofs.Common.{◌≡◌, ◌++◌, map, drop}
use Rattle.smart_messages.specs.Messages.{sealed}
use Rattle.smart_messages.proofs.message.stand_each.Given as goal

-- those so far and those of the statements left are all
abbrev pub invariant-loop-item : goal.invariant-loop-item
invariant-loop-item g l =
    l.found ++ map (sealed g.S.Statement.form) (drop l.item-index l.items)
    ≡ l.fn.found ++ map (sealed g.S.Statement.form) l.fn.items
