use Rattle.node_seat.proofs.seat.Seat.into_parts.Goals as goal

pub invariant_of-self : goal.invariant_of-self
invariant_of-self g c =
    let s = c.args.self in record {
      whole = s.whole;
      uncut = s.uncut;
      came = s.came;
      all_came = s.all_came;
      left = s.left;
      all_left = s.all_left;
      text = s.text;
      all_text = s.all_text;
      named = s.named;
      later = s.later;
      cause = s.cause;
    }
