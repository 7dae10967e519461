use Rattle.std.proofs.Common.{◌≡◌, Bool, drop}
use Rattle.std.specs.HashSet.{contains}
use Rattle.smart_messages.specs.declared.message.Sealed.{Sealed}
use Rattle.audit_rules.specs.Audits.{client_difference}
use Rattle.sent_statements.specs.Indexes.{same_made, IsIndex}
use Rattle.trail_audit.proofs.replay.client_difference.Given as goal

-- the first difference of the events left is that of all
abbrev pub invariant-loop-event : goal.invariant-loop-event
invariant-loop-event l = record {
  count : l.number ≡ l.event-index;
  rest : (sent : Sealed → Bool) → IsIndex (contains same_made l.index) sent →
      client_difference sent l.opening l.number (drop l.event-index l.events) ≡ client_difference sent l.opening 0 l.fn.events;
}
