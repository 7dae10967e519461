use Rattle.std.proofs.Common.{◌≡◌, ◌++◌, map, drop}
use Rattle.trail_posts.specs.Counting.{post_of, to_each}
use Rattle.trail_posts.proofs.posts.add_each.Given as goal

-- those so far and those of the members left are all
abbrev pub invariant-loop-member : goal.invariant-loop-member
invariant-loop-member l =
    map post_of l.found.items ++ to_each l.text (drop l.member-index l.members) ≡ map post_of l.fn.found.items ++ to_each l.fn.text l.fn.members
