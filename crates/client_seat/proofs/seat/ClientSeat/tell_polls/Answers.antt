use Rattle.std.proofs.Common.{min, ◌+◌, ◌-◌, ◌^◌, rules, ◌≡◌, ◌∙◌, [], ◌∷◌, ◌++◌, refl, sym, true≢false}
use Rattle.client_quorum.specs.Clients.{fresh}
use Rattle.trail.specs.declared.event.TrailEvent.TheVariants.{Polls}
use Rattle.group_ends.specs.Ports.{ends}
use Rattle.group_ends.proofs.Offering.{carries-front, carries-mute}
use Rattle.group_ends.proofs.Seated.{come-same, late-mute, same-mute}
use Rattle.client_seat.proofs.Grown.{asks-more, client-more, polled-more, told-none, told-some}
use Rattle.client_seat.proofs.seat.ClientSeat.tell_polls.Goals as goal

pub invariant_of-self-2 : goal.invariant_of-self-2
invariant_of-self-2 g c =
    let s = c.args.self.now in
    let head = g.P.Owner.head 0 in
    let es = s.journal.events.items in
    let new = c.note.new.self.events.items in
    let longer : new ≡ es ++ (Polls s.idle) ∷ [] = c.note.ensures.events in
    let sum : c.saturating_add-self.result ≡ min (s.told + s.idle) (2 ^ 64 - 1) = search rules in
    let all = carries-mute es new (Polls s.idle) s.ports.items longer refl (s.all_left c.requires.whole) in record {
      number = c.note.ensures.number ∙ s.number;
      whole = λ _. c.in_ok-note.ensures.whole;
      head = s.head;
      group = s.group;
      kept = λ _. s.kept c.requires.whole ∙ sym (client-more head.secret (fresh head.view 1) es new (Polls s.idle) longer);
      asks = asks-more head.secret (fresh head.view 1) es new (Polls s.idle) longer tt s.asks;
      came = come-same es new s.pending s.inbox.links.items (same-mute es new (Polls s.idle) 1 longer refl refl) s.came;
      left = carries-front new s.ports.items all;
      all_left = λ _. all;
      late = late-mute es new (Polls s.idle) 1 longer refl (ends s.ports.items) tt s.late;
      apart = s.apart;
      named = s.named;
      polled = polled-more s.told s.idle c.saturating_add-self.result es new longer s.polled sum;
    }

pub invariant_of-self : goal.invariant_of-self
invariant_of-self g c =
    let s = c.args.self.now in
    let head = g.P.Owner.head 0 in
    let es = s.journal.events.items in
    let new = c.note.new.self.events.items in
    let longer : new ≡ es ++ (Polls s.idle) ∷ [] = c.note.ensures.events in
    let sum : c.saturating_add-self.result ≡ min (s.told + s.idle) (2 ^ 64 - 1) = search rules in
    let all = carries-mute es new (Polls s.idle) s.ports.items longer refl (s.all_left c.requires.whole) in record {
      number = c.note.ensures.number ∙ s.number;
      whole = λ over. absurd (true≢false over);
      head = s.head;
      group = s.group;
      kept = λ over. absurd (true≢false over);
      asks = asks-more head.secret (fresh head.view 1) es new (Polls s.idle) longer tt s.asks;
      came = come-same es new s.pending s.inbox.links.items (same-mute es new (Polls s.idle) 1 longer refl refl) s.came;
      left = carries-front new s.ports.items all;
      all_left = λ over. absurd (true≢false over);
      late = late-mute es new (Polls s.idle) 1 longer refl (ends s.ports.items) tt s.late;
      apart = s.apart;
      named = s.named;
      polled = polled-more s.told s.idle c.saturating_add-self.result es new longer s.polled sum;
    }

pub returns-clause-events : goal.returns-clause-events
returns-clause-events g c = told-some c.args.self.now.idle c.args.self.now.journal.events.items c.note.new.self.events.items c.if-self-eq0.false c.note.ensures.events

pub returns-in_err-note-clause-events : goal.returns-in_err-note-clause-events
returns-in_err-note-clause-events g c = told-some c.args.self.now.idle c.args.self.now.journal.events.items c.note.new.self.events.items c.if-self-eq0.false c.note.ensures.events

pub returns-then-self-eq0-clause-events : goal.returns-then-self-eq0-clause-events
returns-then-self-eq0-clause-events g c = told-none c.args.self.now.idle c.args.self.now.journal.events.items c.if-self-eq0.true

pub returns-clause-going : goal.returns-clause-going
returns-clause-going g c = c.note.ensures.ended

pub returns-in_err-note-clause-going : goal.returns-in_err-note-clause-going
returns-in_err-note-clause-going g c = c.note.ensures.ended
