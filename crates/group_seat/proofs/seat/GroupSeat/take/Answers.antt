use Rattle.std.proofs.Common.{◌≡◌, ◌∙◌, false, rules, subst}
use Rattle.smart_base.specs.Lists.{Each}
use Rattle.group_ends.specs.Ports.{heard_and_taken, IsEmptied}
use Rattle.group_ends.specs.declared.inbox.Inbox.{Inbox}
use Rattle.group_seat.proofs.seat.GroupSeat.take.Goals as goal

pub returns-in-Ok-false-clause-came : goal.returns-in-Ok-false-clause-came
returns-in-Ok-false-clause-came g c = λ _.
    let none : c.in-Ok-false.field-0 ≡ false = search (rules, c.in-Ok-false.field-0-test) in
    subst (λ (i : Inbox). Each IsEmptied (heard_and_taken i.links.items)) (c.look.ensures.inbox ∙ c.goes_on.ensures.inbox) (c.in-Ok-false.ensures.nothing none)
