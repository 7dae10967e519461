use Rattle.std.proofs.Common.{◌≡◌, ◌∙◌, sym, subst, false, List, rules}
use Rattle.trail.specs.declared.event.TrailEvent.{TrailEvent}
use Rattle.trail_rules.specs.Replays.{core_steps, replay}
use Rattle.node_endings.specs.Settled.{IsSettled}
use Rattle.node_endings.proofs.settling.settle.Goals as goal

pub returns-in-Ok : goal.returns-in-Ok
returns-in-Ok g c = record {
  settled = λ is.
      let s = c.args.seat.now in
      let step = core_steps g.S.Service.meaning in
      let opening = g.P.Life.opening in
      let over : s.over ≡ false = sym c.is_over.ensures ∙ c.if-is_over.false in
      let stuck : s.inner.stuck ≡ false = s.whole over in
      let sent = rw c.in-Ok-false.field-0-test at c.in-Ok-false.ensures.ok in
      let settled : IsSettled (replay step opening s.inner.trail.items) =
      record {
        none_waits = sym (c.waits.ensures stuck) ∙ c.if-waits.false;
        all_firm = (c.is_firm.ensures stuck).0 (search rules);
        none_leaves = sent.1;
      } in (
        c.in-Ok.ensures.ok.1,
        record {
          before = c.send.new.self.inner.trail.items;
          is = c.in-Ok.ensures.ok.0;
          last = c.end.new.self.inner.end_last;
          settled = subst (λ (l : List TrailEvent). IsSettled (replay step opening l)) (sym {A = List TrailEvent} sent.0) settled;
        },
      );
}
