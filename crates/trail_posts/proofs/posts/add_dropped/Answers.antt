use Rattle.std.proofs.Common.{◌∷◌, ◌∙◌, ◌+◌, drop, sym, ap, List, map}
use Rattle.std.proofs.lemmas.List.{drop_more}
use Rattle.trail.specs.declared.event.TrailEvent.{TrailEvent}
use Rattle.audit_rules.specs.Quiets.{lost_at}
use Rattle.trail_posts.specs.Counting.{post_of}
use Rattle.trail_posts.proofs.Additions.{part-more}
use Rattle.trail_posts.proofs.posts.add_dropped.Goals as goal

pub loop-event-preserved : goal.loop-event-preserved
loop-event-preserved c =
    let rest : List TrailEvent = drop (c.loop-event.event-index + 1) c.as_slice-events.result.now in
    let is = drop_more c.as_slice-events.result.now c.loop-event.event-index _ c.loop-event-test.true ∙ ap (λ (x : TrailEvent). x ∷ rest) (sym c.event-item.is) in
    part-more lost_at c.event-item.result rest (drop c.loop-event.event-index c.as_slice-events.result.now) (map post_of c.loop-event.found.items) (map post_of c.add_lost.new.found.items) _
    c.in_ok-add_lost.ensures is c.loop-event.invariant
