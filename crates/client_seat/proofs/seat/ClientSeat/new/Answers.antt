use Rattle.std.proofs.Common.{◌∙◌, [], sym, ap, subst, arith}
use Rattle.smart_base.specs.Lists.{Each}
use Rattle.client_quorum.specs.Clients.{fresh}
use Rattle.group_ends.specs.Carried.{DropsLate}
use Rattle.group_ends.specs.Ports.{ends, Carries}
use Rattle.group_ends.proofs.Offering.{carries-front}
use Rattle.group_ends.proofs.Seated.{come-first}
use Rattle.client_seat.specs.Asks.{client_of, Asks, polls_since}
use Rattle.client_seat.proofs.seat.ClientSeat.new.Goals as goal

pub invariant_of-result : goal.invariant_of-result
invariant_of-result g c =
    let a = c.args in
    let head = g.P.Owner.head 0 in
    let none = c.requires.journal.1 in
    let es = a.journal.events.items in
    let all = subst (λ xs. Each (Carries xs) a.ports.items) (sym none) c.requires.ports.1 in record {
      number = c.requires.journal.0;
      whole = λ _. c.requires.journal.2;
      head = c.requires.head;
      group = c.requires.group.0;
      kept = λ _. c.requires.group.1 ∙ sym (ap (client_of head.secret (fresh head.view 1)) none);
      asks = subst (Asks head.secret (fresh head.view 1)) (sym none) tt;
      came = come-first es a.inbox.links.items none c.requires.inbox;
      left = carries-front es a.ports.items all;
      all_left = λ _. all;
      late = subst (DropsLate (ends a.ports.items) []) (sym none) tt;
      apart = c.requires.ports.0;
      named = c.requires.named;
      polled = omega (arith, ap (polls_since 0) none);
    }
