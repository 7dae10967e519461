use Rattle.std.proofs.Common.{◌≡◌, ◌∙◌, [], ◌∷◌, ◌++◌, None, refl, sym, ap, true≢false, ℕ, IfSome, subst}
use Rattle.trail.specs.declared.event.TrailEvent.TheVariants.{Happens}
use Rattle.group_ends.specs.Ports.{ends}
use Rattle.group_ends.proofs.Offering.{carries-front, carries-mute}
use Rattle.group_ends.proofs.Seated.{come-most, come-same, first-mute, late-mute, most-same, same-mute}
use Rattle.node_seat.proofs.Seated.{own-brings}
use Rattle.group_seat.proofs.seat.GroupSeat.event.Goals as goal

pub invariant_of-self-2 : goal.invariant_of-self-2
invariant_of-self-2 g c =
    let s = c.args.self.now in
    let uncut = s.uncut c.requires.over in
    let es = s.inner.journal.events.items in
    let e = Happens c.args.event in
    let new = c.event.new.self.journal.events.items in
    let longer : new ≡ es ++ e ∷ [] = c.in_ok-outcome.ensures.ok in
    let same = sym c.event.ensures.number in
    let all = carries-mute es new e s.ports.items longer refl (s.all_left uncut) in
    let come = come-same es new None s.inbox.links.items (same-mute es new e 1 longer refl (own-brings c.args.event c.requires.own)) (s.all_came uncut) in record {
      uncut = λ _. refl;
      whole = λ _. c.in_ok-outcome.ensures.whole;
      came = come-most new s.inbox.links.items come;
      all_came = λ _. come;
      left = carries-front new s.ports.items all;
      all_left = λ _. all;
      late = late-mute es new e 1 longer refl (ends s.ports.items) tt s.late;
      apart = s.apart;
      named = (s.named.0 ∙ ap g.P.Owner.receivers same, (s.named.1.0 ∙ ap g.P.Owner.leaving same, s.named.1.1 ∙ ap g.P.Owner.arriving same));
      own = subst (λ (n : ℕ). IfSome s.handed (λ h. h.number ≡ n)) same s.own;
    }

pub invariant_of-self : goal.invariant_of-self
invariant_of-self g c =
    let s = c.args.self.now in
    let uncut = s.uncut c.requires.over in
    let es = s.inner.journal.events.items in
    let e = Happens c.args.event in
    let new = c.event.new.self.journal.events.items in
    let noted = c.event.ensures.events in
    let same = sym c.event.ensures.number in record {
      uncut = λ is. absurd (true≢false is);
      whole = λ is. absurd (true≢false is);
      came = most-same es new s.inbox.links.items (same-mute es new e noted.0 noted.1 refl (own-brings c.args.event c.requires.own)) s.came;
      all_came = λ is. absurd (true≢false is);
      left = first-mute es new e noted.0 noted.1 refl s.ports.items (s.all_left uncut);
      all_left = λ is. absurd (true≢false is);
      late = late-mute es new e noted.0 noted.1 refl (ends s.ports.items) tt s.late;
      apart = s.apart;
      named = (s.named.0 ∙ ap g.P.Owner.receivers same, (s.named.1.0 ∙ ap g.P.Owner.leaving same, s.named.1.1 ∙ ap g.P.Owner.arriving same));
      own = subst (λ (n : ℕ). IfSome s.handed (λ h. h.number ≡ n)) same s.own;
    }
