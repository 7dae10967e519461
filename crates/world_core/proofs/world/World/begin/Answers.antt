use Rattle.std.proofs.Common.{ap}
use Rattle.world_rules.specs.Worlds.{World}
use Rattle.world_core.proofs.world.World.begin.Goals as goal

pub invariant_of-result : goal.invariant_of-result
invariant_of-result g c =
    let begins = c.in_ok-state.ensures in
    record {
      stands = λ still. rw c.new.ensures begins;
      going = λ still. ap (λ (w : World g.row.S.Denot). w.ending) begins;
    }
