use Rattle.std.proofs.Common.{◌≡◌, ◌++◌, map, drop}
use Rattle.std.specs.List.{flat_map}
use Rattle.audit_rules.specs.Quiets.{dropped, lost_at}
use Rattle.trail_posts.specs.Counting.{post_of}
use Rattle.trail_posts.proofs.posts.add_dropped.Given as goal

-- those so far and those of the events left are all
abbrev pub invariant-loop-event : goal.invariant-loop-event
invariant-loop-event l =
    map post_of l.found.items ++ flat_map lost_at (drop l.event-index l.events) ≡ map post_of l.fn.found.items ++ dropped l.fn.trail
