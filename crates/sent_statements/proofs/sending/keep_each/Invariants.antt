use Rattle.std.proofs.Common.{◌≡◌, ◌++◌, map, filter, drop}
use Rattle.smart_messages.specs.Messages.{sealed}
use Rattle.audit_rules.specs.Audits.{is_by}
use Rattle.sent_statements.specs.Indexes.{made_sealed}
use Rattle.sent_statements.proofs.sending.keep_each.Given as goal

-- those so far and the member's of the statements left are all
abbrev pub invariant-loop-item : goal.invariant-loop-item
invariant-loop-item g l =
    map made_sealed l.found.items ++ filter (is_by l.member) (map (sealed g.S.Statement.form) (drop l.item-index l.items))
    ≡ map made_sealed l.fn.found.items ++ filter (is_by l.member) (map (sealed g.S.Statement.form) l.fn.items)
