use Rattle.std.proofs.Common.{◌≡◌, ◌∙◌, None, refl, sym, ap, subst, true≢false, ℕ, IfSome}
use Rattle.group_ends.specs.Ports.{AreApart}
use Rattle.group_ends.proofs.Seated.{come-most, come-same, most-same}
use Rattle.group_seat.proofs.seat.GroupSeat.send.Goals as goal

pub invariant_of-self-2 : goal.invariant_of-self-2
invariant_of-self-2 g c =
    let s = c.args.self.now in
    let uncut = s.uncut c.requires.over in
    let es = s.inner.journal.events.items in
    let new = c.send.new.self.journal.events.items in
    let same = sym c.send.ensures.number in
    let come = come-same es new None s.inbox.links.items c.send.ensures.came (s.all_came uncut) in record {
      uncut = λ _. refl;
      whole = λ _. c.in_ok-left.ensures.whole;
      came = come-most new s.inbox.links.items come;
      all_came = λ _. come;
      left = c.send.ensures.first;
      all_left = λ _. c.in_ok-left.ensures.carries;
      late = c.send.ensures.late;
      apart = subst AreApart (sym c.send.ensures.ports.0) s.apart;
      named = (c.send.ensures.ports.0 ∙ s.named.0 ∙ ap g.P.Owner.receivers same, (c.send.ensures.ports.1 ∙ s.named.1.0 ∙ ap g.P.Owner.leaving same, s.named.1.1 ∙ ap g.P.Owner.arriving same));
      own = subst (λ (n : ℕ). IfSome s.handed (λ h. h.number ≡ n)) same s.own;
    }

pub invariant_of-self : goal.invariant_of-self
invariant_of-self g c =
    let s = c.args.self.now in
    let es = s.inner.journal.events.items in
    let new = c.send.new.self.journal.events.items in
    let same = sym c.send.ensures.number in record {
      uncut = λ is. absurd (true≢false is);
      whole = λ is. absurd (true≢false is);
      came = most-same es new s.inbox.links.items c.send.ensures.came s.came;
      all_came = λ is. absurd (true≢false is);
      left = c.send.ensures.first;
      all_left = λ is. absurd (true≢false is);
      late = c.send.ensures.late;
      apart = subst AreApart (sym c.send.ensures.ports.0) s.apart;
      named = (c.send.ensures.ports.0 ∙ s.named.0 ∙ ap g.P.Owner.receivers same, (c.send.ensures.ports.1 ∙ s.named.1.0 ∙ ap g.P.Owner.leaving same, s.named.1.1 ∙ ap g.P.Owner.arriving same));
      own = subst (λ (n : ℕ). IfSome s.handed (λ h. h.number ≡ n)) same s.own;
    }
