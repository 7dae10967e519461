use Rattle.std.proofs.Common.{◌≡◌, drop}
use Rattle.std.specs.Prelude.{None}
use Rattle.state_transfer.specs.Plans.{lowest}
use Rattle.state_transfer.proofs.plan.seeder_of.Given as goal

-- who is found so far, and by the offers left, is found by all
abbrev pub invariant-loop-offer : goal.invariant-loop-offer
invariant-loop-offer l = lowest l.place l.found (drop l.offer-index l.offers) ≡ lowest l.place None l.offers
