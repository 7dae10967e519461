use Rattle.group_seat.proofs.seat.GroupSeat.drop.Goals as goal

pub invariant_of-self : goal.invariant_of-self
invariant_of-self g c =
    let s = c.args.self in record {
      uncut = s.uncut;
      whole = s.whole;
      came = s.came;
      all_came = s.all_came;
      left = s.left;
      all_left = s.all_left;
      late = s.late;
      apart = s.apart;
      named = s.named;
      own = s.own;
    }
