use Rattle.std.proofs.Common.{◌∙◌, ◌<◌, ◌++◌, List, Bool, false, length, get_or, ap, sym, arith}
use Rattle.trail.specs.declared.event.TrailEvent.{TrailEvent}
use Rattle.group_ends.specs.Ports.{lost_if}
use Rattle.group_ends.proofs.Offering.{losts-more, losts-whole}
use Rattle.group_ends.proofs.sending.losts_of.Goals as goal

pub loop-index-preserved : goal.loop-index-preserved
loop-index-preserved c =
    let a = c.args.sent.now in
    let ps = c.args.ports.now in
    let ds = c.args.dropped.now in
    let l = c.loop-index in
    let p = c.index-ports-index.result in
    let within : l.index < length ps = omega arith in record {
      events = c.in_ok-push_lost.ensures
          ∙ ap (λ (d : Bool). l.events.items ++ lost_if d a p.end) c.is_set.ensures
          ∙ ap (λ (es : List TrailEvent). es ++ lost_if (get_or ds l.index false) a p.end) l.invariant.events
          ∙ sym (losts-more a ps ds l.index p within c.index-ports-index.is);
    }

pub returns : goal.returns
returns c = c.loop-index.invariant.events ∙ losts-whole c.args.sent.now c.args.ports.now c.args.dropped.now c.loop-index.index (omega arith)
