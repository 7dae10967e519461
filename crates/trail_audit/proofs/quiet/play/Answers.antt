use Rattle.std.proofs.Common.{ℕ, ◌∷◌, ◌++◌, ◌∙◌, ◌+◌, drop, sym, ap, List, map}
use Rattle.std.proofs.lemmas.List.{drop_more}
use Rattle.smart_base.specs.Views.{View}
use Rattle.audit_rules.specs.Quiets.{sent_at}
use Rattle.trail.specs.declared.event.TrailEvent.{TrailEvent}
use Rattle.trail_rules.specs.Replays.{core_steps}
use Rattle.trail_posts.specs.Counting.{post_of}
use Rattle.trail_audit.proofs.Quiets.{replay-more, sent_from-more}
use Rattle.trail_audit.proofs.quiet.play.Goals as goal

pub loop-event-preserved : goal.loop-event-preserved
loop-event-preserved g c =
    let step = core_steps g.S.Service.meaning in
    let rest : List TrailEvent = drop (c.loop-event.event-index + 1) c.args.events.now in
    let all : List TrailEvent = drop c.loop-event.event-index c.args.events.now in
    let is = drop_more c.args.events.now c.loop-event.event-index _ c.loop-event-test.true ∙ ap (λ (x : TrailEvent). x ∷ rest) (sym c.event-item.is) in
    let members = c.members.ensures.value ∙ ap (λ (v : View). v.members) c.view.ensures in
    record {
      whole = c.in_ok-play_event.ensures.whole;
      node = replay-more step c.loop-event.core.node c.play_event.new.core.node _ c.event-item.result rest all c.in_ok-play_event.ensures.node is c.loop-event.invariant.node;
      sent = sent_from-more step c.loop-event.core.node c.play_event.new.core.node c.event-item.result rest all (map post_of c.loop-event.found.items) (map post_of c.add_sent.new.found.items) _
          c.in_ok-play_event.ensures.node is (c.in_ok-add_sent.ensures ∙ ap (λ (ms : List ℕ). map post_of c.loop-event.found.items ++ sent_at ms c.event-item.result) members) c.loop-event.invariant.sent;
    }
