use Rattle.std.proofs.Common.{◌++◌, ◌∙◌, ap, List, map}
use Rattle.trail.specs.declared.event.TrailEvent.{TrailEvent}
use Rattle.trail_rules.specs.Replays.{core_steps, replay}
use Rattle.audit_rules.specs.Quiets.{seems_at_rest, sent_from}
use Rattle.trail_posts.specs.Counting.{post_of}
use Rattle.trail_audit.proofs.Quiets.{rests_by_core, sent_by_core}
use Rattle.trail_audit.proofs.quiet.play_over.Goals as goal

pub returns-in_ok-told-in-Ok : goal.returns-in_ok-told-in-Ok
returns-in_ok-told-in-Ok g c =
    let m = g.S.Service.meaning in
    let old = map post_of c.args.found.now.items in
    record {
      rests = rests_by_core m c.args.trail.now c.in-Ok.core.node c.in-Ok.ensures.node c.in_ok-told-in-Ok.told
          (c.in_ok-told-in-Ok.ensures.rests ∙ ap (λ (es : List TrailEvent). seems_at_rest (replay (core_steps m) c.in-Ok.core.node es)) c.as_slice-events.ensures);
      sent = sent_by_core m c.args.trail.now c.in-Ok.core.node c.in-Ok.ensures.node old (map post_of c.play.new.found.items)
          (c.in_ok-told-in-Ok.ensures.sent ∙ ap (λ (es : List TrailEvent). old ++ sent_from (core_steps m) c.in-Ok.core.node es) c.as_slice-events.ensures);
    }
