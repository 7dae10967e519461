use Rattle.std.proofs.Common.{◌≡◌, ◌++◌, drop}
use Rattle.std.specs.Prelude.{filter}
use Rattle.std.specs.List.{flat_map}
use Rattle.transfer_form.specs.declared.transfer.StateOffer.{StateOffer}
use Rattle.state_transfer.specs.Plans.{counts}
use Rattle.state_transfer.proofs.plan.usable.Given as goal

-- those found so far and those of the offers left are all that count
abbrev pub invariant-loop-offer : goal.invariant-loop-offer
invariant-loop-offer l =
    l.found ++ flat_map (λ (o : StateOffer). filter (counts l.offers l.place) o.marks) (drop l.offer-index l.offers)
    ≡ filter (counts l.offers l.place) l.kept ++ flat_map (λ (o : StateOffer). filter (counts l.offers l.place) o.marks) l.offers
