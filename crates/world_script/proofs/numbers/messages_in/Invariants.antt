use Rattle.std.proofs.Common.{◌≡◌, ◌^◌, length}
use Rattle.world_rules.specs.Scripts.{each_word, number_in}
use Rattle.world_script.proofs.Values.{behind_values}
use Rattle.world_script.proofs.numbers.messages_in.Given as goal

abbrev pub invariant-loop-word : goal.invariant-loop-word
invariant-loop-word l = behind_values l.numbers (each_word (number_in 1 (2 ^ 24)) l.words) ≡ each_word (number_in 1 (2 ^ 24)) l.fn.words

abbrev pub decreases-loop-word : goal.decreases-loop-word
decreases-loop-word l = length l.words
