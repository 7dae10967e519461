use Rattle.std.proofs.Common.{None, rules, inr, ◌≡◌, ◌∙◌, ℕ, List, [], ◌∷◌, ◌++◌, Option, refl, sym, ap, subst, true≢false}
use Rattle.smart_statements.specs.declared.entry.NodeEvent.TheVariants.{Arrive}
use Rattle.client_quorum.specs.Clients.{fresh}
use Rattle.client_quorum.specs.Readings.{after_bytes, heard_bytes}
use Rattle.trail.specs.declared.event.TrailEvent.TheVariants.{Happens}
use Rattle.group_ends.specs.Facts.{HasCome}
use Rattle.group_ends.specs.Ports.{ends}
use Rattle.group_ends.proofs.Leaving.{on-err}
use Rattle.group_ends.proofs.Offering.{carries-front, carries-mute}
use Rattle.group_ends.proofs.Seated.{come-noted, late-mute}
use Rattle.client_seat.proofs.Grown.{asks-more, client-heard, polled-same}
use Rattle.client_seat.proofs.seat.ClientSeat.play.Goals as goal

pub invariant_of-self-2 : goal.invariant_of-self-2
invariant_of-self-2 g c =
    let s = c.args.self.now in
    let head = g.P.Owner.head 0 in
    let es = s.journal.events.items in
    let x = c.in-Some.bytes in
    let b = c.as_slice.result.now in
    let e = Happens (Arrive x) in
    let new = c.note.new.self.events.items in
    let longer : new ≡ es ++ e ∷ [] = c.note.ensures.events in
    let all = carries-mute es new e s.ports.items longer refl (s.all_left c.requires.whole) in
    let taken : c.take.result ≡ s.pending = search rules in
    let gone : c.take.new.self ≡ None = search rules in
    let was = subst (λ (p : Option (List ℕ)). HasCome es p s.inbox.links.items) (sym taken ∙ c.in-Some.is) s.came in record {
      number = c.note.ensures.number ∙ s.number;
      whole = λ _. c.in_ok-note.ensures.whole;
      head = s.head;
      group = s.group;
      kept = λ _. client-heard head.secret (fresh head.view 1) es new e longer x s.client _ refl (s.kept c.requires.whole) (c.in-Ok.ensures.client ∙ ap (λ (k : List ℕ). after_bytes k s.client b) s.group ∙ ap (λ (bytes : List ℕ). after_bytes head.secret s.client bytes) c.as_slice.ensures);
      asks = asks-more head.secret (fresh head.view 1) es new e longer tt s.asks;
      came = subst (λ (p : Option (List ℕ)). HasCome new p s.inbox.links.items) (sym gone) (come-noted es new x s.inbox.links.items longer was);
      left = carries-front new s.ports.items all;
      all_left = λ _. all;
      late = late-mute es new e 1 longer refl (ends s.ports.items) tt s.late;
      apart = s.apart;
      named = s.named;
      polled = polled-same s.told es new e longer refl s.polled;
    }

pub invariant_of-self-in-Break-1 : goal.invariant_of-self-in-Break-1
invariant_of-self-in-Break-1 g c =
    let s = c.args.self.now in
    let head = g.P.Owner.head 0 in
    let es = s.journal.events.items in
    let x = c.in-Some.bytes in
    let b = c.as_slice.result.now in
    let e = Happens (Arrive x) in
    let new = c.note.new.self.events.items in
    let longer : new ≡ es ++ e ∷ [] = c.note.ensures.events in
    let all = carries-mute es new e s.ports.items longer refl (s.all_left c.requires.whole) in
    let taken : c.take.result ≡ s.pending = search rules in
    let gone : c.take.new.self ≡ None = search rules in
    let was = subst (λ (p : Option (List ℕ)). HasCome es p s.inbox.links.items) (sym taken ∙ c.in-Some.is) s.came in record {
      number = c.note.ensures.number ∙ s.number;
      whole = λ over. absurd (true≢false over);
      head = s.head;
      group = s.group;
      kept = λ over. absurd (true≢false over);
      asks = asks-more head.secret (fresh head.view 1) es new e longer tt s.asks;
      came = subst (λ (p : Option (List ℕ)). HasCome new p s.inbox.links.items) (sym gone) (come-noted es new x s.inbox.links.items longer was);
      left = carries-front new s.ports.items all;
      all_left = λ over. absurd (true≢false over);
      late = late-mute es new e 1 longer refl (ends s.ports.items) tt s.late;
      apart = s.apart;
      named = s.named;
      polled = polled-same s.told es new e longer refl s.polled;
    }

pub returns-clause-ok : goal.returns-clause-ok
returns-clause-ok g c =
    let s = c.args.self.now in
    let head = g.P.Owner.head 0 in
    let b = c.as_slice.result.now in
    let taken : c.take.result ≡ s.pending = search rules in (
      c.in-Some.bytes,
      sym taken ∙ c.in-Some.is,
      c.in-Ok.ensures.heard ∙ ap (λ (k : List ℕ). heard_bytes k s.client b) s.group ∙ ap (λ (bytes : List ℕ). heard_bytes head.secret s.client bytes) c.as_slice.ensures,
      c.note.ensures.events,
    )

pub returns-in_err-note-clause-err : goal.returns-in_err-note-clause-err
returns-in_err-note-clause-err g c =
    let s = c.args.self.now in
    let taken : c.take.result ≡ s.pending = search rules in
    on-err c.from_residual.result (inr (c.in-Some.bytes, sym taken ∙ c.in-Some.is, c.note.ensures.events))

pub returns-clause-going : goal.returns-clause-going
returns-clause-going g c = c.note.ensures.ended

pub returns-in_err-note-clause-going : goal.returns-in_err-note-clause-going
returns-in_err-note-clause-going g c = c.note.ensures.ended
