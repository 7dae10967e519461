use Rattle.std.proofs.Common.{◌≡◌, ◌∙◌, [], ◌∷◌, ◌++◌, refl, sym, true≢false}
use Rattle.client_quorum.specs.Clients.{fresh}
use Rattle.trail.specs.declared.event.TrailEvent.TheVariants.{End}
use Rattle.group_ends.specs.Ports.{ends}
use Rattle.group_ends.proofs.Offering.{carries-front, carries-mute}
use Rattle.group_ends.proofs.Seated.{come-same, late-mute, same-mute}
use Rattle.client_seat.proofs.Grown.{asks-more, client-more, polled-same}
use Rattle.client_seat.proofs.seat.ClientSeat.end.Goals as goal

pub invariant_of-self-2 : goal.invariant_of-self-2
invariant_of-self-2 g c =
    let s = c.args.self.now in
    let head = g.P.Owner.head 0 in
    let es = s.journal.events.items in
    let new = c.note.new.self.events.items in
    let longer : new ≡ es ++ End ∷ [] = c.note.ensures.events in
    let all = carries-mute es new End s.ports.items longer refl (s.all_left c.requires.whole) in record {
      number = c.note.ensures.number ∙ s.number;
      whole = λ _. c.in_ok-note.ensures.whole;
      head = s.head;
      group = s.group;
      kept = λ _. s.kept c.requires.whole ∙ sym (client-more head.secret (fresh head.view 1) es new End longer);
      asks = asks-more head.secret (fresh head.view 1) es new End longer tt s.asks;
      came = come-same es new s.pending s.inbox.links.items (same-mute es new End 1 longer refl refl) s.came;
      left = carries-front new s.ports.items all;
      all_left = λ _. all;
      late = late-mute es new End 1 longer refl (ends s.ports.items) tt s.late;
      apart = s.apart;
      named = s.named;
      polled = polled-same s.told es new End longer refl s.polled;
    }

pub invariant_of-self : goal.invariant_of-self
invariant_of-self g c =
    let s = c.args.self.now in
    let head = g.P.Owner.head 0 in
    let es = s.journal.events.items in
    let new = c.note.new.self.events.items in
    let longer : new ≡ es ++ End ∷ [] = c.note.ensures.events in
    let all = carries-mute es new End s.ports.items longer refl (s.all_left c.requires.whole) in record {
      number = c.note.ensures.number ∙ s.number;
      whole = λ over. absurd (true≢false over);
      head = s.head;
      group = s.group;
      kept = λ over. absurd (true≢false over);
      asks = asks-more head.secret (fresh head.view 1) es new End longer tt s.asks;
      came = come-same es new s.pending s.inbox.links.items (same-mute es new End 1 longer refl refl) s.came;
      left = carries-front new s.ports.items all;
      all_left = λ over. absurd (true≢false over);
      late = late-mute es new End 1 longer refl (ends s.ports.items) tt s.late;
      apart = s.apart;
      named = s.named;
      polled = polled-same s.told es new End longer refl s.polled;
    }
