use Rattle.std.proofs.Common.{◌∙◌, List, None, length, get_or, ap, sym, arith}
use Rattle.atomic_table.specs.Seated.{TableId}
use Rattle.queue_ends.specs.Ends.{told_queue}
use Rattle.group_ends.proofs.Seated.{come-links}
use Rattle.group_ends.proofs.Telling.{inbox-length}
use Rattle.group_seat.proofs.Links.{most-links}
use Rattle.group_seat.proofs.seat.GroupSeat.hear.Goals as goal

pub hear-requires-clause-within : goal.hear-requires-clause-within
hear-requires-clause-within g c =
    let s = c.args.self.now in
    omega (arith, c.requires.within, ap length s.named.1.1, inbox-length s.inbox.links.items, s.inbox.links.ok.0)

pub hear-requires-clause-link : goal.hear-requires-clause-link
hear-requires-clause-link g c =
    let s = c.args.self.now in
    c.requires.link ∙ ap (λ (ts : List TableId). get_or ts c.args.index (told_queue c.args.told)) (sym s.named.1.1)

pub invariant_of-self : goal.invariant_of-self
invariant_of-self g c =
    let s = c.args.self.now in
    let es = s.inner.journal.events.items in
    let old = s.inbox.links.items in
    let new = c.hear.new.self.links.items in
    let same = c.hear.ensures.same in record {
      uncut = s.uncut;
      whole = s.whole;
      came = most-links es old new same.1 s.came;
      all_came = λ uncut. come-links es None old new same.1 (s.all_came uncut);
      left = s.left;
      all_left = s.all_left;
      late = s.late;
      apart = s.apart;
      named = (s.named.0, (s.named.1.0, same.0 ∙ s.named.1.1));
      own = s.own;
    }
