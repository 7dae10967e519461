use Rattle.std.proofs.Common.{◌≡◌, rules}
use Rattle.std.specs.Prelude.{nat_lt, Bool}
use Rattle.world_rules.specs.Worlds.{Host}
use Rattle.world_hosts.proofs.Below.{one-more-fits, passing-more, passing-within, passing-all, all-within}
use Rattle.world_hosts.proofs.host.hosts_below.Goals as goal

pub count_below-count-requires : goal.count_below-count-requires
count_below-count-requires g c =
    let p : Host g.row.S.Denot → Bool = λ h. nat_lt h.node.id c.args.member in
    one-more-fits c.loop-host.count c.loop-host.host-index _ c.loop-host-test.true (search rules)
    (passing-within p c.args.hosts.now c.loop-host.host-index c.loop-host.count c.loop-host.invariant)

pub loop-host-preserved : goal.loop-host-preserved
loop-host-preserved g c =
    let p : Host g.row.S.Denot → Bool = λ h. nat_lt h.node.id c.args.member in
    passing-more p c.args.hosts.now c.loop-host.host-index c.loop-host.count c.count_below-count.result c.host-item.result c.loop-host-test.true c.host-item.is c.loop-host.invariant c.count_below-count.ensures

pub returns-clause-count : goal.returns-clause-count
returns-clause-count g c =
    let p : Host g.row.S.Denot → Bool = λ h. nat_lt h.node.id c.args.member in
    passing-all p c.args.hosts.now c.loop-host.host-index c.loop-host.count c.loop-host-test.false c.loop-host.invariant

pub returns-clause-within : goal.returns-clause-within
returns-clause-within g c =
    let p : Host g.row.S.Denot → Bool = λ h. nat_lt h.node.id c.args.member in
    all-within p c.args.hosts.now c.loop-host.host-index c.loop-host.count c.loop-host-test.false c.loop-host.invariant
