use Rattle.std.proofs.Common.{◌≡◌, ◌++◌, map, drop}
use Rattle.std.specs.List.{flat_map}
use Rattle.audit_rules.specs.Quiets.{came}
use Rattle.trail_posts.specs.Counting.{post_of}
use Rattle.trail_posts.proofs.posts.all_came.Given as goal

-- those so far and those of the trails left are all
abbrev pub invariant-loop-trail : goal.invariant-loop-trail
invariant-loop-trail l = map post_of l.found.items ++ flat_map came (drop l.trail-index l.trails) ≡ flat_map came l.fn.trails
