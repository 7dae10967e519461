use Rattle.std.proofs.Common.{◌≡◌}
use Rattle.std.specs.Prelude.{slice_get}
use Rattle.world_nodes.specs.Idling.{met_at}
use Rattle.world_nodes.proofs.Hosts.{at_there}
use Rattle.world_nodes.proofs.Meeting.{met_by}
use Rattle.world_nodes.proofs.events.meet_completed.Goals as goal

pub returns : goal.returns
returns g c =
    let w = c.args.world.now in
    at_there w.hosts c.args.i (c.meet_all.new.self ≡ met_at c.args.event.now w (slice_get w.hosts c.args.i)) c.requires (λ h there.
    met_by c.args.i c.args.event.now w c.completed_at.new.world c.meet_all.new.self h c.in_ok-texts.texts.items there (c.in_ok-texts.ensures.texts h there) c.completed_at.ensures.same c.in_ok-meet_all.ensures)
