use Rattle.std.proofs.Common.{◌≡◌, Bool, drop}
use Rattle.std.specs.HashSet.{contains}
use Rattle.smart_base.specs.Lists.{Each}
use Rattle.smart_messages.specs.declared.message.Sealed.{Sealed}
use Rattle.audit_rules.specs.Audits.{CanBegin, difference_in}
use Rattle.sent_statements.specs.Indexes.{same_made, IsIndex}
use Rattle.trail_audit.proofs.audit.difference_in.Given as goal

-- the first difference of the trails left is that of all
abbrev pub invariant-loop-trail : goal.invariant-loop-trail
invariant-loop-trail l = record {
  begin : Each CanBegin (drop l.trail-index l.trails);
  rest : (sent : Sealed → Bool) → IsIndex (contains same_made l.index) sent → difference_in sent (drop l.trail-index l.trails) ≡ difference_in sent l.fn.trails;
}
