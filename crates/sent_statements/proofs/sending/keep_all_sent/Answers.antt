use Rattle.std.proofs.Common.{◌∷◌, ◌∙◌, ◌+◌, drop, sym, ap, List, map}
use Rattle.std.proofs.lemmas.List.{drop_more}
use Rattle.trail.specs.declared.event.Addressed.{Addressed}
use Rattle.trail.specs.declared.event.TrailEvent.{TrailEvent}
use Rattle.audit_rules.specs.Audits.{made_with}
use Rattle.sent_statements.specs.Indexes.{made_sealed}
use Rattle.sent_statements.proofs.Makings.{sent-more}
use Rattle.sent_statements.proofs.sending.keep_all_sent.Goals as goal

pub loop-event-preserved : goal.loop-event-preserved
loop-event-preserved c =
    let rest : List TrailEvent = drop (c.loop-event.event-index + 1) c.args.events.now in
    let is = drop_more c.args.events.now c.loop-event.event-index _ c.loop-event-test.true ∙ ap (λ (x : TrailEvent). x ∷ rest) (sym c.event-item.is) in
    sent-more (λ (a : Addressed). made_with c.args.member a.message) c.event-item.result rest (drop c.loop-event.event-index c.args.events.now)
    (map made_sealed c.loop-event.found.items) (map made_sealed c.keep_sent.new.found.items) _ c.in_ok-keep_sent.ensures is c.loop-event.invariant
