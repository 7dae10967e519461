use Rattle.std.proofs.Common.{◌≡◌, ℕ, List, ◌++◌, map, drop}
use Rattle.trail_rules.specs.Replays.{arrivals}
use Rattle.audit_rules.specs.Quiets.{came}
use Rattle.trail_posts.specs.Counting.{post_of}
use Rattle.trail_posts.proofs.posts.add_came.Given as goal

-- those so far and those of the events left are all
abbrev pub invariant-loop-event : goal.invariant-loop-event
invariant-loop-event l =
    map post_of l.found.items ++ map (λ (bytes : List ℕ). record { to = l.trail.opening.member; text = bytes }) (arrivals (drop l.event-index l.events))
    ≡ map post_of l.fn.found.items ++ came l.fn.trail
