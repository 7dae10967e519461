use Rattle.std.proofs.Common.{◌≡◌, refl}
use Rattle.std.specs.Prelude.{slice_get}
use Rattle.world_rules.specs.Worlds.{core_course}
use Rattle.world_hosts.specs.Lives.{node_in, host_with}
use Rattle.world_nodes.specs.Crashes.{goes_on}
use Rattle.world_nodes.proofs.Hosts.{at_there}
use Rattle.world_nodes.proofs.Stopping.{resumed_at}
use Rattle.world_nodes.proofs.crashes.resume_at.Goals as goal

pub returns : goal.returns
returns g c =
    let w = c.args.world.now in
    at_there w.hosts c.args.i (c.tell_if.new.world ≡ goes_on (core_course g.S.Service.meaning) c.args.i w (slice_get w.hosts c.args.i)) c.requires.within (λ h there.
    resumed_at g.S.Service.meaning c.args.i w c.resume_host.new.world c.tell_if.new.world h (host_with h (node_in g.S.Service.meaning w.view w.period h)) c.in_ok-line.line there
    refl
    (c.in_ok-line.ensures.line h there)
    (c.in_ok-line.ensures.world h there)
    c.in_ok-tell_if.ensures)
