use Rattle.std.proofs.Common.{◌≡◌, Bool}
use Rattle.std.specs.HashSet.{contains}
use Rattle.smart_messages.specs.declared.message.Sealed.{Sealed}
use Rattle.audit_rules.specs.Audits.{is_unsent, first_of}
use Rattle.sent_statements.specs.Indexes.{same_made, IsIndex}
use Rattle.sent_statements.proofs.coming.first_unsent.Given as goal

-- the first of those left is the first of all
abbrev pub invariant-loop-item : goal.invariant-loop-item
invariant-loop-item l =
    (sent : Sealed → Bool) → IsIndex (contains same_made l.index) sent →
    first_of (is_unsent sent l.ring) l.item-iterator.rest.items ≡ first_of (is_unsent sent l.ring) l.fn.items.items
