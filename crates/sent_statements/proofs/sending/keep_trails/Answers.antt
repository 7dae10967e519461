use Rattle.std.proofs.Common.{◌∷◌, ◌∙◌, ◌+◌, drop, sym, ap, List, map}
use Rattle.std.proofs.lemmas.List.{drop_more}
use Rattle.audit_rules.specs.declared.recorded.Recorded.{Recorded}
use Rattle.audit_rules.specs.Audits.{made_by}
use Rattle.sent_statements.specs.Indexes.{made_sealed}
use Rattle.sent_statements.proofs.Makings.{part-more}
use Rattle.sent_statements.proofs.sending.keep_trails.Goals as goal

pub loop-trail-preserved : goal.loop-trail-preserved
loop-trail-preserved c =
    let rest : List Recorded = drop (c.loop-trail.trail-index + 1) c.args.trails.now in
    let is = drop_more c.args.trails.now c.loop-trail.trail-index _ c.loop-trail-test.true ∙ ap (λ (x : Recorded). x ∷ rest) (sym c.trail-item.is) in
    part-more made_by c.trail-item.result rest (drop c.loop-trail.trail-index c.args.trails.now) (map made_sealed c.loop-trail.found.items)
    (map made_sealed c.keep_trail.new.found.items) _ c.in_ok-keep_trail.ensures is c.loop-trail.invariant
