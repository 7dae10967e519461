use Rattle.std.proofs.Common.{◌≡◌, false, ◌++◌, map, drop}
use Rattle.trail_rules.specs.Replays.{core_steps, replay}
use Rattle.audit_rules.specs.Quiets.{sent_from}
use Rattle.trail_posts.specs.Counting.{post_of}
use Rattle.trail_audit.proofs.quiet.play.Given as goal

-- the replay goes on, and what was sent so far and by the events left is all
abbrev pub invariant-loop-event : goal.invariant-loop-event
invariant-loop-event g l = record {
  whole : l.core.broken ≡ false;
  node : replay (core_steps g.S.Service.meaning) l.core.node (drop l.event-index l.events) ≡ replay (core_steps g.S.Service.meaning) l.fn.core.node l.fn.events;
  sent :
      map post_of l.found.items ++ sent_from (core_steps g.S.Service.meaning) l.core.node (drop l.event-index l.events)
      ≡ map post_of l.fn.found.items ++ sent_from (core_steps g.S.Service.meaning) l.fn.core.node l.fn.events;
}
