use Rattle.std.proofs.Common.{◌≡◌, length}
use Rattle.world_rules.specs.Scripts.{patches_of}
use Rattle.world_script.specs.Patches.{patches_then}
use Rattle.world_script.proofs.crash.patches_of.Given as goal

abbrev pub invariant-loop-word : goal.invariant-loop-word
invariant-loop-word l = patches_then l.patches (patches_of l.words) ≡ patches_of l.fn.words

abbrev pub decreases-loop-word : goal.decreases-loop-word
decreases-loop-word l = length l.words
