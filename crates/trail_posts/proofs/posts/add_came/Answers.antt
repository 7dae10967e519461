use Rattle.std.proofs.Common.{◌∷◌, ◌∙◌, ◌+◌, drop, sym, ap, List, map}
use Rattle.std.proofs.lemmas.List.{drop_more}
use Rattle.trail.specs.declared.event.TrailEvent.{TrailEvent}
use Rattle.trail_posts.specs.Counting.{post_of}
use Rattle.trail_posts.proofs.Additions.{came-more}
use Rattle.trail_posts.proofs.posts.add_came.Goals as goal

pub loop-event-preserved : goal.loop-event-preserved
loop-event-preserved c =
    let events = c.as_slice-events.result.now in
    let rest : List TrailEvent = drop (c.loop-event.event-index + 1) events in
    let is = drop_more events c.loop-event.event-index _ c.loop-event-test.true ∙ ap (λ (x : TrailEvent). x ∷ rest) (sym c.event-item.is) in
    came-more c.args.trail.now.opening.member c.event-item.result rest (drop c.loop-event.event-index events) (map post_of c.loop-event.found.items) (map post_of c.add_arrived.new.found.items) _
    c.in_ok-add_arrived.ensures is c.loop-event.invariant
