use Rattle.std.proofs.Common.{◌∙◌}
use Rattle.world_rules.specs.Scripts.{patch_of, patches_of}
use Rattle.world_script.proofs.Patches.{next_patch}
use Rattle.world_script.proofs.crash.patches_of.Goals as goal

pub loop-word-preserved : goal.loop-word-preserved
loop-word-preserved c =
    let e = next_patch c.loop-word.patches (patch_of c.in-Some.word.now) (patches_of c.in-Some.more) in
    rw (c.in_ok-patches.ensures, c.in_ok-next.ensures) (e ∙ (rw c.in-Some.ensures at c.loop-word.invariant))
