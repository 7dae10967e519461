use Rattle.std.proofs.Common.{◌≡◌, ◌&&◌, ◌++◌, map, drop}
use Rattle.std.specs.List.{list_all, flat_map}
use Rattle.smart_base.specs.Lists.{Each}
use Rattle.audit_rules.specs.Audits.{CanBegin}
use Rattle.audit_rules.specs.Quiets.{rests, posted}
use Rattle.trail_posts.specs.Counting.{post_of}
use Rattle.trail_audit.proofs.quiet.play_all.Given as goal

-- those so far and the trails left are all
abbrev pub invariant-loop-trail : goal.invariant-loop-trail
invariant-loop-trail l = record {
  begin : Each CanBegin (drop l.trail-index l.trails);
  rest : (l.rest && list_all rests (drop l.trail-index l.trails)) ≡ list_all rests l.fn.trails;
  sent : map post_of l.found.items ++ flat_map posted (drop l.trail-index l.trails) ≡ map post_of l.fn.found.items ++ flat_map posted l.fn.trails;
}
