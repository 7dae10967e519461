use Rattle.std.proofs.Common.{◌<◌, ◌≤◌, ◌∙◌, sym, length}
use Rattle.std.proofs.lemmas.Option.{slice_get_past}
use Rattle.world_nodes.proofs.Acting.{acts_over, acts_past, acts_at}
use Rattle.world_nodes.proofs.Hosts.{read_there}
use Rattle.world_nodes.proofs.events.acts.Goals as goal

pub returns-then-is_halted : goal.returns-then-is_halted
returns-then-is_halted g c = acts_over c.args.world.now _ (sym c.is_halted.ensures ∙ c.if-is_halted.true)

pub returns-then-i-hosts : goal.returns-then-i-hosts
returns-then-i-hosts g c =
    let past : length c.args.world.now.hosts ≤ c.args.i = rw (← c.hosts-hosts.ensures) c.if-i-hosts.true in
    acts_past c.args.world.now c.args.i (slice_get_past c.args.world.now.hosts c.args.i past)

pub returns : goal.returns
returns g c =
    let h = c.index-hosts-i.result in
    let within : c.args.i < length c.args.world.now.hosts = rw (← c.hosts-hosts.ensures) c.if-i-hosts.false in
    acts_at c.args.world.now c.args.i h c.is_up.result (read_there c.args.world.now.hosts c.hosts-hosts.result.now c.args.i h h c.hosts-hosts.ensures within c.index-hosts-i.is)
    (sym c.is_halted.ensures ∙ c.if-is_halted.false) c.is_up.ensures
