use Rattle.std.proofs.Common.{◌≡◌, ◌∙◌, [], ◌∷◌, ◌++◌, None, refl, sym, ap, true≢false, ℕ, IfSome, subst}
use Rattle.trail.specs.declared.event.TrailEvent.TheVariants.{Happens}
use Rattle.smart_statements.specs.declared.entry.NodeEvent.TheVariants.{Arrive}
use Rattle.group_ends.specs.Ports.{ends}
use Rattle.group_ends.proofs.Offering.{carries-front, carries-mute}
use Rattle.group_ends.proofs.Seated.{come-links, come-most, come-noted, come-taken, first-mute, late-mute, most-taken}
use Rattle.group_seat.proofs.Links.{most-links}
use Rattle.group_seat.proofs.seat.GroupSeat.arrive.Goals as goal

pub invariant_of-self-2 : goal.invariant_of-self-2
invariant_of-self-2 g c =
    let s = c.args.self.now in
    let uncut = s.uncut c.requires.over in
    let es = s.inner.journal.events.items in
    let x = c.in-Some.bytes in
    let e = Happens (Arrive x) in
    let links = c.take.new.self.links.items in
    let new = c.event.new.self.journal.events.items in
    let longer : new ≡ es ++ e ∷ [] = c.in_ok-event.ensures.ok in
    let same = sym c.event.ensures.number in
    let taken = come-taken es x s.inbox.links.items links c.in-Some.ensures.some (s.all_came uncut) in
    let come = come-noted es new x links longer taken in
    let all = carries-mute es new e s.ports.items longer refl (s.all_left uncut) in record {
      uncut = λ _. refl;
      whole = λ _. c.in_ok-event.ensures.whole;
      came = come-most new links come;
      all_came = λ _. come;
      left = carries-front new s.ports.items all;
      all_left = λ _. all;
      late = late-mute es new e 1 longer refl (ends s.ports.items) tt s.late;
      apart = s.apart;
      named = (s.named.0 ∙ ap g.P.Owner.receivers same, (s.named.1.0 ∙ ap g.P.Owner.leaving same, c.take.ensures.links ∙ s.named.1.1 ∙ ap g.P.Owner.arriving same));
      own = subst (λ (n : ℕ). IfSome s.handed (λ h. h.number ≡ n)) same s.own;
    }

pub invariant_of-self-in-Break-1 : goal.invariant_of-self-in-Break-1
invariant_of-self-in-Break-1 g c =
    let s = c.args.self.now in
    let uncut = s.uncut c.requires.over in
    let es = s.inner.journal.events.items in
    let x = c.in-Some.bytes in
    let e = Happens (Arrive x) in
    let links = c.take.new.self.links.items in
    let new = c.event.new.self.journal.events.items in
    let noted = c.event.ensures.events in
    let same = sym c.event.ensures.number in
    let taken = come-taken es x s.inbox.links.items links c.in-Some.ensures.some (s.all_came uncut) in record {
      uncut = λ is. absurd (true≢false is);
      whole = λ is. absurd (true≢false is);
      came = most-taken es new x noted.0 links noted.1 taken;
      all_came = λ is. absurd (true≢false is);
      left = first-mute es new e noted.0 noted.1 refl s.ports.items (s.all_left uncut);
      all_left = λ is. absurd (true≢false is);
      late = late-mute es new e noted.0 noted.1 refl (ends s.ports.items) tt s.late;
      apart = s.apart;
      named = (s.named.0 ∙ ap g.P.Owner.receivers same, (s.named.1.0 ∙ ap g.P.Owner.leaving same, c.take.ensures.links ∙ s.named.1.1 ∙ ap g.P.Owner.arriving same));
      own = subst (λ (n : ℕ). IfSome s.handed (λ h. h.number ≡ n)) same s.own;
    }

pub invariant_of-self : goal.invariant_of-self
invariant_of-self g c =
    let s = c.args.self.now in
    let es = s.inner.journal.events.items in
    let old = s.inbox.links.items in
    let new = c.take.new.self.links.items in
    let same = c.take.ensures.none c.in_default.is in record {
      uncut = s.uncut;
      whole = s.whole;
      came = most-links es old new same s.came;
      all_came = λ uncut. come-links es None old new same (s.all_came uncut);
      left = s.left;
      all_left = s.all_left;
      late = s.late;
      apart = s.apart;
      named = (s.named.0, (s.named.1.0, c.take.ensures.links ∙ s.named.1.1));
      own = s.own;
    }
