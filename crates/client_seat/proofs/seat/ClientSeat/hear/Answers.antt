use Rattle.std.proofs.Common.{◌∙◌, List, length, get_or, ap, sym, arith}
use Rattle.atomic_table.specs.Seated.{TableId}
use Rattle.queue_ends.specs.Ends.{told_queue}
use Rattle.group_ends.proofs.Seated.{come-links}
use Rattle.group_ends.proofs.Telling.{inbox-length}
use Rattle.client_seat.proofs.seat.ClientSeat.hear.Goals as goal

pub hear-requires-clause-within : goal.hear-requires-clause-within
hear-requires-clause-within g c =
    let s = c.args.self.now in
    omega (arith, c.requires.within, ap length s.named.2, inbox-length s.inbox.links.items, s.inbox.links.ok.0)

pub hear-requires-clause-link : goal.hear-requires-clause-link
hear-requires-clause-link g c =
    let s = c.args.self.now in
    c.requires.link ∙ ap (λ (ts : List TableId). get_or ts c.args.index (told_queue c.args.told)) (sym s.named.2)

pub invariant_of-self : goal.invariant_of-self
invariant_of-self g c =
    let s = c.args.self.now in
    let es = s.journal.events.items in record {
      number = s.number;
      whole = s.whole;
      head = s.head;
      group = s.group;
      kept = s.kept;
      asks = s.asks;
      came = come-links es s.pending s.inbox.links.items c.hear.new.self.links.items c.hear.ensures.same.1 s.came;
      left = s.left;
      all_left = s.all_left;
      late = s.late;
      apart = s.apart;
      named = (s.named.0, s.named.1, c.hear.ensures.same.0 ∙ s.named.2);
      polled = s.polled;
    }
