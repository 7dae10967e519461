use Rattle.std.proofs.Common.{◌≡◌, ◌++◌, map, drop}
use Rattle.std.specs.List.{flat_map}
use Rattle.trail.specs.declared.event.Addressed.{Addressed}
use Rattle.trail_rules.specs.Replays.{sends}
use Rattle.audit_rules.specs.Audits.{made_with}
use Rattle.sent_statements.specs.Indexes.{made_sealed}
use Rattle.sent_statements.proofs.sending.keep_all_sent.Given as goal

-- those so far and those of the events left are all
abbrev pub invariant-loop-event : goal.invariant-loop-event
invariant-loop-event l =
    map made_sealed l.found.items ++ flat_map (λ (a : Addressed). made_with l.member a.message) (sends (drop l.event-index l.events))
    ≡ map made_sealed l.fn.found.items ++ flat_map (λ (a : Addressed). made_with l.member a.message) (sends l.fn.events)
