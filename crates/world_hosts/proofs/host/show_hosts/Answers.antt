use Rattle.std.proofs.Common.{◌∷◌, ◌∙◌, ◌+◌, drop, sym, ap, List}
use Rattle.std.proofs.lemmas.List.{drop_more}
use Rattle.world_rules.specs.Worlds.{Host, shown_host}
use Rattle.world_hosts.proofs.Telling.{told-more, told-all}
use Rattle.world_hosts.proofs.host.show_hosts.Goals as goal

pub loop-host-preserved : goal.loop-host-preserved
loop-host-preserved g c =
    let hosts = c.args.hosts.now in
    let rest : List (Host g.row.S.Denot) = drop (c.loop-host.host-index + 1) hosts in
    let is = drop_more hosts c.loop-host.host-index _ c.loop-host-test.true ∙ ap (λ (x : Host g.row.S.Denot). x ∷ rest) (sym c.host-item.is) in
    told-more (shown_host c.args.faulty.now) c.host-item.result rest (drop c.loop-host.host-index hosts) c.loop-host.told.items c.show_host.new.told.items _
    c.in_ok-show_host.ensures is c.loop-host.invariant

pub returns : goal.returns
returns g c = told-all (shown_host c.args.faulty.now) c.args.hosts.now c.loop-host.host-index c.loop-host.told.items _ c.loop-host-test.false c.loop-host.invariant
