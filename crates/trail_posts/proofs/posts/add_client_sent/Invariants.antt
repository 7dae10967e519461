use Rattle.std.proofs.Common.{◌≡◌, ◌++◌, map, drop}
use Rattle.audit_rules.specs.Quiets.{client_sent}
use Rattle.trail_posts.specs.Counting.{post_of}
use Rattle.trail_posts.proofs.posts.add_client_sent.Given as goal

-- those so far and those of the events left are all
abbrev pub invariant-loop-event : goal.invariant-loop-event
invariant-loop-event l =
    map post_of l.found.items ++ client_sent l.view (drop l.event-index l.events) ≡ map post_of l.fn.found.items ++ client_sent l.fn.view l.fn.events
