use Rattle.std.proofs.Common.{Bool, ◌&&◌, ◌∷◌, ◌∙◌, ◌+◌, drop, sym, ap, List, map}
use Rattle.std.proofs.lemmas.List.{drop_more}
use Rattle.std.specs.List.{list_all}
use Rattle.audit_rules.specs.declared.recorded.Recorded.{Recorded}
use Rattle.audit_rules.specs.Quiets.{rests, posted}
use Rattle.trail_posts.specs.Counting.{post_of}
use Rattle.trail_posts.proofs.Additions.{part-more}
use Rattle.trail_audit.proofs.Quiets.{all-more}
use Rattle.trail_audit.proofs.Walks.{begins-first}
use Rattle.trail_audit.proofs.quiet.play_all.Goals as goal

pub play_trail-requires : goal.play_trail-requires
play_trail-requires c =
    let rest : List Recorded = drop (c.loop-trail.trail-index + 1) c.args.trails.now in
    let is = drop_more c.args.trails.now c.loop-trail.trail-index _ c.loop-trail-test.true ∙ ap (λ (x : Recorded). x ∷ rest) (sym c.trail-item.is) in
    (begins-first c.trail-item.result rest (drop c.loop-trail.trail-index c.args.trails.now) is c.loop-trail.invariant.begin).0

pub loop-trail-preserved : goal.loop-trail-preserved
loop-trail-preserved c =
    let rest : List Recorded = drop (c.loop-trail.trail-index + 1) c.args.trails.now in
    let all : List Recorded = drop c.loop-trail.trail-index c.args.trails.now in
    let is = drop_more c.args.trails.now c.loop-trail.trail-index _ c.loop-trail-test.true ∙ ap (λ (x : Recorded). x ∷ rest) (sym c.trail-item.is) in
    record {
      begin = (begins-first c.trail-item.result rest all is c.loop-trail.invariant.begin).1;
      rest = ap (λ (t : Bool). t && list_all rests rest) c.both-rest.ensures
          ∙ all-more rests c.trail-item.result rest all c.loop-trail.rest c.in_ok-told.told _ is c.in_ok-told.ensures.rests c.loop-trail.invariant.rest;
      sent = part-more posted c.trail-item.result rest all (map post_of c.loop-trail.found.items) (map post_of c.play_trail.new.found.items) _ c.in_ok-told.ensures.sent is c.loop-trail.invariant.sent;
    }
