use Rattle.std.proofs.Common.{◌≡◌}
use Rattle.group_seat.proofs.Links.{some-by}
use Rattle.group_seat.proofs.seat.GroupSeat.take_handed.Goals as goal

pub invariant_of-self : goal.invariant_of-self
invariant_of-self g c =
    let s = c.args.self.now in record {
      uncut = s.uncut;
      whole = s.whole;
      came = s.came;
      all_came = s.all_came;
      left = s.left;
      all_left = s.all_left;
      late = s.late;
      apart = s.apart;
      named = s.named;
      own = some-by _ _ c.take.ensures.after (λ h. h.number ≡ s.inner.journal.number) tt;
    }

pub returns-clause-own : goal.returns-clause-own
returns-clause-own g c =
    let s = c.args.self.now in
    some-by _ _ c.take.ensures.value (λ h. h.number ≡ s.inner.journal.number) s.own
