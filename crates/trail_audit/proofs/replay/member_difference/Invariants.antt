use Rattle.std.proofs.Common.{◌≡◌, Bool, false, drop}
use Rattle.std.specs.HashSet.{contains}
use Rattle.smart_messages.specs.declared.message.Sealed.{Sealed}
use Rattle.trail_rules.specs.Replays.{core_steps}
use Rattle.audit_rules.specs.Audits.{member_difference}
use Rattle.sent_statements.specs.Indexes.{same_made, IsIndex}
use Rattle.trail_audit.proofs.replay.member_difference.Given as goal

-- the first difference of the events left is that of all
abbrev pub invariant-loop-event : goal.invariant-loop-event
invariant-loop-event g l = record {
  count : l.number ≡ l.event-index;
  whole : l.core.broken ≡ false;
  rest : (sent : Sealed → Bool) → IsIndex (contains same_made l.index) sent →
      member_difference (core_steps g.S.Service.meaning) sent l.opening l.number l.core.node (drop l.event-index l.events)
      ≡ member_difference (core_steps g.S.Service.meaning) sent l.opening 0 l.fn.core.node l.fn.events;
}
