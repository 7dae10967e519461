use Rattle.std.proofs.Common.{◌∷◌, ◌∙◌, ◌+◌, drop, sym, ap, List}
use Rattle.std.proofs.lemmas.List.{drop_more}
use Rattle.audit_rules.specs.declared.recorded.Recorded.{Recorded}
use Rattle.trail_audit.proofs.Damages.{damage-more, damage-found}
use Rattle.trail_audit.proofs.damage.damaged_part.Goals as goal

pub returns-in-Some : goal.returns-in-Some
returns-in-Some c =
    let rest : List Recorded = drop (c.loop-trail.trail-index + 1) c.args.trails.now in
    let is = drop_more c.args.trails.now c.loop-trail.trail-index _ c.loop-trail-test.true ∙ ap (λ (x : Recorded). x ∷ rest) (sym c.trail-item.is) in
    damage-found c.loop-trail.before c.trail-item.result rest (drop c.loop-trail.trail-index c.args.trails.now) c.in_ok-damage.damage c.in_ok-told.told _ c.in-Some.part is c.in_ok-damage.ensures
    c.in_ok-told.ensures c.in-Some.is c.loop-trail.invariant

pub loop-trail-preserved : goal.loop-trail-preserved
loop-trail-preserved c =
    let rest : List Recorded = drop (c.loop-trail.trail-index + 1) c.args.trails.now in
    let is = drop_more c.args.trails.now c.loop-trail.trail-index _ c.loop-trail-test.true ∙ ap (λ (x : Recorded). x ∷ rest) (sym c.trail-item.is) in
    damage-more c.loop-trail.before c.trail-item.result rest (drop c.loop-trail.trail-index c.args.trails.now) c.in_ok-damage.damage c.in_ok-told.told c.in_ok-parts.parts c.in_ok-behind.behind _ is
    c.in_ok-damage.ensures c.in_ok-told.ensures c.in-None.is c.in_ok-parts.ensures c.in_ok-behind.ensures c.loop-trail.invariant
