use Rattle.std.proofs.Common.{◌∙◌, sym}
use Rattle.world_script.proofs.Spaces.{spaces_left}
use Rattle.world_script.proofs.words.behind_spaces.Goals as goal

pub loop-preserved : goal.loop-preserved
loop-preserved c =
    rw c.behind_space-rest.ensures (sym (spaces_left c.args.count c.loop.counter c.loop.rest.now c.loop-test.true) ∙ c.loop.invariant)
