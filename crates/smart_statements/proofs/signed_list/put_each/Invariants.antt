use Rattle.std.proofs.Common.{◌≡◌, ◌++◌, drop}
use Rattle.std.specs.List.{flat_map}
use Rattle.smart_base.specs.Spelling.{Extends}
use Rattle.smart_statements.specs.Spelling.{signed}
use Rattle.smart_statements.proofs.signed_list.put_each.Given as goal

-- what is written and what is left are all of the text
abbrev pub invariant-loop-item : goal.invariant-loop-item
invariant-loop-item g l =
    (l.out.items ++ flat_map (signed g.S.Statement.form) (drop l.item-index l.items) ≡ l.fn.out.items ++ flat_map (signed g.S.Statement.form) l.items)
    × Extends l.fn.out.items l.out.items
