use Rattle.std.proofs.Common.{◌≡◌, ◌∙◌, ℕ, List, [], length, take, take_at, refl, sym, ap, subst, arith}
use Rattle.faults.specs.Counts.{Rose}
use Rattle.log_lane.specs.Lane.{lane_taken}
use Rattle.node_rules.specs.declared.node.Target.{Target}
use Rattle.trail.specs.declared.event.TrailEvent.{TrailEvent}
use Rattle.group_ends.specs.Carried.{DropsLate}
use Rattle.group_ends.specs.Facts.{HasComeAtMost}
use Rattle.group_ends.specs.Journals.{has_end}
use Rattle.group_ends.specs.Ports.{inbox_links}
use Rattle.group_parties.specs.Manned.{IsManned, IsLeftOver}
use Rattle.group_parties.proofs.ending.take_apart.Goals as goal

pub rejoin-requires : goal.rejoin-requires
rejoin-requires g c =
    let same : c.args.seat.inner.journal.number ≡ c.args.member = sym c.number-number.ensures ∙ c.if-number-get.false ∙ c.get.ensures in
    c.into_parts-course.ensures.lane.0 ∙ ap g.P.GroupLife.lane same ∙ sym c.requires.desk.lane_is

pub returns-clause-cause : goal.returns-clause-cause
returns-clause-cause g c = λ is.
    let same : c.args.seat.inner.journal.number ≡ c.args.member = sym c.number-number.ensures ∙ c.if-number-get.false ∙ c.get.ensures in
    subst (λ (n : ℕ). Rose (g.P.Owner.failures n) (g.O.Sink.faults c.into_parts-course.result.course.journal.sink)) same (c.into_parts-course.ensures.failed is)

pub returns-clause-lived : goal.returns-clause-lived
returns-clause-lived g c = λ origin manned.
    let d = g.D.Disk in
    let p = g.P.GroupLife in
    let o = g.P.Owner in
    let m = g.S.Service.meaning in
    let desk = c.args.desk in
    let seat = c.args.seat.inner.journal.number in
    let parts = c.into_parts-course.ensures in
    let left = c.into_parts-course.result in
    let events = left.course.journal.events.items in
    let sink = left.course.journal.sink in
    let same : seat ≡ c.args.member = sym c.number-number.ensures ∙ c.if-number-get.false ∙ c.get.ensures in
    let at = subst (λ (n : ℕ). IsManned d.told d.remembers d.cells d.moment d.left_since m origin (p.lane n) (p.opening n) (p.restored n) desk) (sym same) manned in
    let taken = lane_taken desk.lane in
    subst (λ (n : ℕ). IsLeftOver d.told d.remembers d.cells d.moment d.left_since m g.O.Sink.written origin (p.opening n) (p.restored n) (o.head n) (o.entries n) (o.begun n) (o.receivers n) (o.leaving n) (o.arriving n) desk.store sink (record { events = c.from_vec.result; whole = c.args.ended; row = record { ports = left.ports }; inbox = c.new.result })) same
    (subst (λ (es : List TrailEvent). IsLeftOver d.told d.remembers d.cells d.moment d.left_since m g.O.Sink.written origin (p.opening seat) (p.restored seat) (o.head seat) (o.entries seat) (o.begun seat) (o.receivers seat) (o.leaving seat) (o.arriving seat) desk.store sink (record { events = es; whole = c.args.ended; row = record { ports = left.ports }; inbox = c.new.result })) (sym c.from_vec.ensures)
    (record {
      released = parts.released;
      end_last = parts.end_last;
      needs = omega (arith, parts.needs, c.rejoin.ensures.firm, c.rejoin.ensures.numbers.0, at.of.stored);
      told_firm = omega (arith, parts.firm, c.rejoin.ensures.firm, c.rejoin.ensures.numbers.0, at.of.stored);
      faulty = desk.faulty;
      taken = taken;
      front = ap (take (length taken)) (sym parts.lane.1 ∙ c.rejoin.ensures.order.1) ∙ take_at taken c.rejoin.ensures.order.0 (length taken) refl;
      since = at.since;
      late = subst (λ (ts : List Target). DropsLate ts [] events) parts.named.0 parts.late;
      left = parts.left;
      came = subst (λ links. HasComeAtMost events links.items) (sym c.new.ensures) parts.came;
      named = (parts.named.0, (parts.named.1.0, ap (λ links. inbox_links links.items) c.new.ensures ∙ parts.named.1.1));
      text = parts.text;
      all_text = λ whole. parts.all_text (parts.cut.1 (parts.events.1.1 ∙ (c.requires.ended whole).0));
      ended = λ whole. ap has_end (ap (λ v. v.items) parts.events.0) ∙ (c.requires.ended whole).1;
    }))
