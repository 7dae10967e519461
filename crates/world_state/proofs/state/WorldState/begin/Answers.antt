use Rattle.std.proofs.Common.{refl}
use Rattle.world_state.proofs.Beginning.{begins}
use Rattle.world_state.proofs.state.WorldState.begin.Goals as goal

pub returns : goal.returns
returns g c =
    begins g.S.Service.meaning c.args.header.now c.in_ok-view.view c.in_ok-first_hosts.field-0.items c.in_ok-first_clients.field-0.items c.in_ok-new.field-0 c.in_ok-new-2.field-0 _
    (rw (c.new-4.ensures.items, c.new-5.ensures.items, c.new-6.ensures.items, c.new-7.ensures.items) refl) c.in_ok-view.ensures c.in_ok-first_hosts.ensures c.in_ok-first_clients.ensures
    c.in_ok-new.ensures c.in_ok-new-2.ensures
