use Rattle.client_seat.proofs.seat.ClientSeat.drop.Goals as goal

pub invariant_of-self : goal.invariant_of-self
invariant_of-self g c =
    let s = c.args.self in record {
      number = s.number;
      whole = s.whole;
      head = s.head;
      group = s.group;
      kept = s.kept;
      asks = s.asks;
      came = s.came;
      left = s.left;
      all_left = s.all_left;
      late = s.late;
      apart = s.apart;
      named = s.named;
      polled = s.polled;
    }
