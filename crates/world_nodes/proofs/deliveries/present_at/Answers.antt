use Rattle.std.proofs.Common.{◌<◌, ◌≤◌, ◌∙◌, sym, length}
use Rattle.std.proofs.lemmas.Option.{slice_get_past}
use Rattle.world_nodes.proofs.Hosts.{read_there}
use Rattle.world_nodes.proofs.Running.{none_at, up_at, absent_at}
use Rattle.world_nodes.proofs.deliveries.present_at.Goals as goal

pub returns-then-i-hosts : goal.returns-then-i-hosts
returns-then-i-hosts g c =
    let past : length c.args.world.now.hosts ≤ c.args.i = rw (← c.hosts-hosts.ensures) c.if-i-hosts.true in
    λ f. none_at f c.args.i c.args.world.now (slice_get_past c.args.world.now.hosts c.args.i past)

pub returns-then-is_up : goal.returns-then-is_up
returns-then-is_up g c =
    let w = c.args.world.now in
    let within : c.args.i < length c.args.world.now.hosts = rw (← c.hosts-hosts.ensures) c.if-i-hosts.false in
    let there = read_there w.hosts c.hosts-hosts.result.now c.args.i c.index-hosts-i.result c.index-hosts-i.result c.hosts-hosts.ensures within c.index-hosts-i.is in
    λ f. up_at f c.args.i w c.index-hosts-i.result there (sym c.is_up.ensures ∙ c.if-is_up.true)

pub returns : goal.returns
returns g c =
    let w = c.args.world.now in
    let within : c.args.i < length c.args.world.now.hosts = rw (← c.hosts-hosts.ensures) c.if-i-hosts.false in
    let there = read_there w.hosts c.hosts-hosts.result.now c.args.i c.index-hosts-i.result c.index-hosts-i.result c.hosts-hosts.ensures within c.index-hosts-i.is in
    λ f. absent_at f c.args.i w c.tell.new.self c.index-hosts-i.result c.id-member.result there (sym c.is_up.ensures ∙ c.if-is_up.false) c.id-member.ensures c.in_ok-tell.ensures
