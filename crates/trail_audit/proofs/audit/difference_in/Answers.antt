use Rattle.std.proofs.Common.{◌∷◌, ◌∙◌, ◌+◌, drop, sym, ap, List}
use Rattle.std.proofs.lemmas.List.{drop_more}
use Rattle.audit_rules.specs.declared.recorded.Recorded.{Recorded}
use Rattle.trail_audit.proofs.Walks.{trails-more, trails-found, begins-first}
use Rattle.trail_audit.proofs.audit.difference_in.Goals as goal

pub trail_difference-requires : goal.trail_difference-requires
trail_difference-requires c =
    let rest : List Recorded = drop (c.loop-trail.trail-index + 1) c.args.trails.now in
    let is = drop_more c.args.trails.now c.loop-trail.trail-index _ c.loop-trail-test.true ∙ ap (λ (x : Recorded). x ∷ rest) (sym c.trail-item.is) in
    (begins-first c.trail-item.result rest (drop c.loop-trail.trail-index c.args.trails.now) is c.loop-trail.invariant.begin).0

pub returns-in-Some : goal.returns-in-Some
returns-in-Some c = λ sent index.
    let rest : List Recorded = drop (c.loop-trail.trail-index + 1) c.args.trails.now in
    let is = drop_more c.args.trails.now c.loop-trail.trail-index _ c.loop-trail-test.true ∙ ap (λ (x : Recorded). x ∷ rest) (sym c.trail-item.is) in
    trails-found sent c.trail-item.result rest (drop c.loop-trail.trail-index c.args.trails.now) c.in_ok-told.told _ c.in-Some.difference is (c.in_ok-told.ensures sent index)
    c.in-Some.is (c.loop-trail.invariant.rest sent index)

pub loop-trail-preserved : goal.loop-trail-preserved
loop-trail-preserved c =
    let rest : List Recorded = drop (c.loop-trail.trail-index + 1) c.args.trails.now in
    let is = drop_more c.args.trails.now c.loop-trail.trail-index _ c.loop-trail-test.true ∙ ap (λ (x : Recorded). x ∷ rest) (sym c.trail-item.is) in
    record {
      begin = (begins-first c.trail-item.result rest (drop c.loop-trail.trail-index c.args.trails.now) is c.loop-trail.invariant.begin).1;
      rest = λ sent index.
          trails-more sent c.trail-item.result rest (drop c.loop-trail.trail-index c.args.trails.now) c.in_ok-told.told _ is (c.in_ok-told.ensures sent index) c.in-None.is
          (c.loop-trail.invariant.rest sent index);
    }
