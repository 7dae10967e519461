use Rattle.std.proofs.Common.{◌∙◌, ap, List}
use Rattle.trail.specs.declared.event.TrailEvent.{TrailEvent}
use Rattle.trail_rules.specs.Replays.{core_steps}
use Rattle.audit_rules.specs.Audits.{member_difference}
use Rattle.trail_audit.proofs.Walks.{by_core}
use Rattle.trail_audit.proofs.replay.service_difference.Goals as goal

pub returns-in_ok-told-in-Ok : goal.returns-in_ok-told-in-Ok
returns-in_ok-told-in-Ok g c = λ sent index.
    let m = g.S.Service.meaning in
    let t = c.args.trail.now in
    by_core m sent t c.in-Ok.core.node c.in_ok-told-in-Ok.told c.in-Ok.ensures.node
    (c.in_ok-told-in-Ok.ensures sent index ∙ ap (λ (es : List TrailEvent). member_difference (core_steps m) sent t.opening 0 c.in-Ok.core.node es) c.as_slice-events.ensures)
