use Rattle.std.proofs.Common.{[], refl, sym, subst}
use Rattle.smart_base.specs.Lists.{Each}
use Rattle.group_ends.specs.Carried.{DropsLate}
use Rattle.group_ends.specs.Ports.{ends, Carries}
use Rattle.group_ends.proofs.Offering.{carries-front}
use Rattle.group_ends.proofs.Seated.{come-first, come-most}
use Rattle.group_seat.proofs.seat.GroupSeat.new.Goals as goal

pub invariant_of-result : goal.invariant_of-result
invariant_of-result g c =
    let a = c.args in
    let none = c.requires.inner.0 in
    let es = a.inner.journal.events.items in
    let come = come-first es a.inbox.links.items none c.requires.inbox in
    let all = subst (λ xs. Each (Carries xs) a.ports.items) (sym none) c.requires.ports.1 in record {
      uncut = λ _. refl;
      whole = λ _. c.requires.inner.1;
      came = come-most es a.inbox.links.items come;
      all_came = λ _. come;
      left = carries-front es a.ports.items all;
      all_left = λ _. all;
      late = subst (DropsLate (ends a.ports.items) []) (sym none) tt;
      apart = c.requires.ports.0;
      named = c.requires.named;
      own = tt;
    }
