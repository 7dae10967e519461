use Rattle.world_core.proofs.Shown.{shown}
use Rattle.world_core.proofs.lines.show.Goals as goal

pub returns : goal.returns
returns g c =
    shown _ _ _ _ _ c.world.view_is c.as_slice.ensures.value c.as_slice-2.ensures.value c.as_slice-3.ensures.value c.in_ok-show_hosts.ensures c.in_ok-show_clients.ensures
