use Rattle.std.proofs.Common.{◌≡◌, ◌∙◌, [], List, None, ℕ, IfSome, sym, ap, subst}
use Rattle.smart_base.specs.Lists.{Each}
use Rattle.trail.specs.declared.event.TrailEvent.{TrailEvent}
use Rattle.group_ends.specs.Carried.{DropsLate}
use Rattle.group_ends.specs.Facts.{HasCome, HasComeAtMost}
use Rattle.group_ends.specs.Ports.{ends, Carries, CarriesFirst}
use Rattle.group_seat.proofs.seat.GroupSeat.look.Goals as goal

pub invariant_of-self : goal.invariant_of-self
invariant_of-self g c =
    let s = c.args.self.now in
    let links = s.inbox.links.items in
    let ports = s.ports.items in
    let same = c.look.ensures.same in
    let events = sym (ap (λ j. j.events.items) same.0) in
    let number = sym (ap (λ j. j.number) same.0) in record {
      uncut = s.uncut;
      whole = λ uncut. (same.1.1 ∙ (s.whole uncut).0, ap (λ j. j.whole) same.0 ∙ (s.whole uncut).1);
      came = subst (λ (es : List TrailEvent). HasComeAtMost es links) events s.came;
      all_came = λ uncut. subst (λ (es : List TrailEvent). HasCome es None links) events (s.all_came uncut);
      left = subst (λ (es : List TrailEvent). Each (CarriesFirst es) ports) events s.left;
      all_left = λ uncut. subst (λ (es : List TrailEvent). Each (Carries es) ports) events (s.all_left uncut);
      late = subst (DropsLate (ends ports) []) events s.late;
      apart = s.apart;
      named = (s.named.0 ∙ ap g.P.Owner.receivers number, (s.named.1.0 ∙ ap g.P.Owner.leaving number, s.named.1.1 ∙ ap g.P.Owner.arriving number));
      own = subst (λ (n : ℕ). IfSome s.handed (λ h. h.number ≡ n)) number s.own;
    }
