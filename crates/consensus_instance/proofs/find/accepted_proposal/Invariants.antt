use Rattle.std.proofs.Common.{◌≡◌, drop}
use Rattle.std.specs.Prelude.{filter_map}
use Rattle.node_rules.specs.Votes.{named_in, accepted_in}
use Rattle.consensus_instance.proofs.find.accepted_proposal.Given as goal

-- the first of those left is the first of all
abbrev pub invariant-loop-message : goal.invariant-loop-message
invariant-loop-message l =
    accepted_in l.view l.slot l.arrivals (filter_map (named_in l.slot.view l.slot.place l.regency) (drop l.message-index l.arrivals))
    ≡ accepted_in l.view l.slot l.arrivals (filter_map (named_in l.slot.view l.slot.place l.regency) l.arrivals)
