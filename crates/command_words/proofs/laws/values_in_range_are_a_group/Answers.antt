use Rattle.command_words.proofs.GroupRows.{group_usual, group_no_turns, group_most, group_joined}
use Rattle.command_words.proofs.laws.values_in_range_are_a_group.Goals as goal

pub returns : goal.returns
returns c = record {
  usual = group_usual;
  no_turns = group_no_turns;
  most = group_most;
  joined = group_joined;
}
