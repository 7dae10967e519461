use Rattle.std.proofs.Common.{◌∙◌, ℕ, List, Option, refl, subst}
use Rattle.group_ends.specs.Facts.{HasCome}
use Rattle.group_ends.proofs.Seated.{come-taken, come-links}
use Rattle.client_seat.proofs.seat.ClientSeat.poll.Goals as goal

pub invariant_of-self : goal.invariant_of-self
invariant_of-self g c =
    let s = c.args.self.now in
    let es = s.journal.events.items in
    let was = subst (λ (p : Option (List ℕ)). HasCome es p s.inbox.links.items) c.requires.played s.came in record {
      number = s.number;
      whole = s.whole;
      head = s.head;
      group = s.group;
      kept = s.kept;
      asks = s.asks;
      came = come-taken es c.in-Some.bytes s.inbox.links.items c.take.new.self.links.items c.in-Some.ensures.some was;
      left = s.left;
      all_left = s.all_left;
      late = s.late;
      apart = s.apart;
      named = (s.named.0, s.named.1, c.take.ensures.links ∙ s.named.2);
      polled = s.polled;
    }

pub invariant_of-self-in-None : goal.invariant_of-self-in-None
invariant_of-self-in-None g c =
    let s = c.args.self.now in
    let es = s.journal.events.items in
    let was = subst (λ (p : Option (List ℕ)). HasCome es p s.inbox.links.items) c.requires.played s.came in record {
      number = s.number;
      whole = s.whole;
      head = s.head;
      group = s.group;
      kept = s.kept;
      asks = s.asks;
      came = come-links es s.pending s.inbox.links.items c.take.new.self.links.items (c.in-None.ensures.none refl) s.came;
      left = s.left;
      all_left = s.all_left;
      late = s.late;
      apart = s.apart;
      named = (s.named.0, s.named.1, c.take.ensures.links ∙ s.named.2);
      polled = s.polled;
    }
