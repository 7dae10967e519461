use Rattle.std.proofs.Common.{◌≡◌, length, take, drop}
use Rattle.world_rules.specs.Scripts.{numbers_in}
use Rattle.world_script.proofs.Values.{behind_values}
use Rattle.world_script.proofs.numbers.numbers_in.Given as goal

abbrev pub invariant-loop-i : goal.invariant-loop-i
invariant-loop-i g l = record {
  long : length l.numbers ≡ g.row.N;
  rest : l.words ≡ drop l.i l.fn.words;
  numbers : behind_values (take l.i l.numbers) (numbers_in (drop l.i l.ranges) l.words) ≡ numbers_in l.ranges l.fn.words;
}
