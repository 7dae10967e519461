use Rattle.std.proofs.Common.{◌≡◌, ◌∙◌, ap, sym, Some}
use Rattle.world_rules.specs.Worlds.{host_index}
use Rattle.world_nodes.proofs.Stopping.{found_at}
use Rattle.world_nodes.proofs.deliveries.present.Goals as goal

pub returns-in-Some : goal.returns-in-Some
returns-in-Some g c =
    let there : host_index c.args.world.now.hosts c.args.member ≡ Some c.in-Some.i =
    ap (λ hs. host_index hs c.args.member) (sym c.hosts.ensures) ∙ sym c.in-Some.ensures in
    found_at c.args.member c.args.world.now c.present_at.new.world c.in-Some.i c.present_at.result there c.present_at.ensures
