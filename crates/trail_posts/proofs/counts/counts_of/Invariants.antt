use Rattle.std.proofs.Common.{◌≡◌, ◌+◌, map, drop}
use Rattle.std.specs.HashMap.{get}
use Rattle.audit_rules.specs.Quiets.{times}
use Rattle.trail_posts.specs.declared.posts.Posted.{Posted}
use Rattle.trail_posts.specs.Counting.{post_of, same_posted, count_or}
use Rattle.trail_posts.proofs.counts.counts_of.Given as goal

-- the count so far and that of the messages left is that of all
abbrev pub invariant-loop-posted : goal.invariant-loop-posted
invariant-loop-posted l =
    (p : Posted) → count_or (get same_posted l.counts p) + times (post_of p) (map post_of (drop l.posted-index l.posts)) ≡ times (post_of p) (map post_of l.fn.posts)
