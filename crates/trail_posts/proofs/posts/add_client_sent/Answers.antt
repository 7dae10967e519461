use Rattle.std.proofs.Common.{◌∷◌, ◌++◌, ◌∙◌, ◌+◌, ℕ, drop, sym, ap, List, map}
use Rattle.std.proofs.lemmas.List.{drop_more}
use Rattle.trail.specs.declared.event.TrailEvent.{TrailEvent}
use Rattle.audit_rules.specs.Quiets.{sent_at}
use Rattle.trail_posts.specs.Counting.{post_of}
use Rattle.trail_posts.proofs.Additions.{part-more}
use Rattle.trail_posts.proofs.posts.add_client_sent.Goals as goal

pub loop-event-preserved : goal.loop-event-preserved
loop-event-preserved c =
    let rest : List TrailEvent = drop (c.loop-event.event-index + 1) c.args.events.now in
    let is = drop_more c.args.events.now c.loop-event.event-index _ c.loop-event-test.true ∙ ap (λ (x : TrailEvent). x ∷ rest) (sym c.event-item.is) in
    part-more (sent_at c.args.view.now.members) c.event-item.result rest (drop c.loop-event.event-index c.args.events.now) (map post_of c.loop-event.found.items) (map post_of c.add_sent.new.found.items) _
    (c.in_ok-add_sent.ensures ∙ ap (λ (ms : List ℕ). map post_of c.loop-event.found.items ++ sent_at ms c.event-item.result) c.members.ensures.value) is c.loop-event.invariant
