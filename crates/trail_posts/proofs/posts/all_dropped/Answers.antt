use Rattle.std.proofs.Common.{◌∷◌, ◌∙◌, ◌+◌, drop, sym, ap, List, map}
use Rattle.std.proofs.lemmas.List.{drop_more}
use Rattle.audit_rules.specs.declared.recorded.Recorded.{Recorded}
use Rattle.audit_rules.specs.Quiets.{dropped}
use Rattle.trail_posts.specs.Counting.{post_of}
use Rattle.trail_posts.proofs.Additions.{part-more}
use Rattle.trail_posts.proofs.posts.all_dropped.Goals as goal

pub loop-trail-preserved : goal.loop-trail-preserved
loop-trail-preserved c =
    let rest : List Recorded = drop (c.loop-trail.trail-index + 1) c.args.trails.now in
    let is = drop_more c.args.trails.now c.loop-trail.trail-index _ c.loop-trail-test.true ∙ ap (λ (x : Recorded). x ∷ rest) (sym c.trail-item.is) in
    part-more dropped c.trail-item.result rest (drop c.loop-trail.trail-index c.args.trails.now) (map post_of c.loop-trail.found.items) (map post_of c.add_dropped.new.found.items) _
    c.in_ok-add_dropped.ensures is c.loop-trail.invariant
