use Rattle.std.proofs.Common.{◌≡◌, length}
use Rattle.world_rules.specs.Scripts.{each_word, changed_member_of}
use Rattle.world_script.proofs.Values.{behind_values}
use Rattle.world_script.proofs.numbers.changed_members_of.Given as goal

abbrev pub invariant-loop-word : goal.invariant-loop-word
invariant-loop-word l = behind_values l.members (each_word changed_member_of l.words) ≡ each_word changed_member_of l.fn.words

abbrev pub decreases-loop-word : goal.decreases-loop-word
decreases-loop-word l = length l.words
