use Rattle.command_words.proofs.GroupRows.{group_none, group_no_dir, group_few_members, group_no_members, group_many_members, group_many_faulty, group_short_period, group_long_period, group_many_turns, group_many_asks, group_leading_zero, group_no_number, group_twice, group_secret, group_more, group_help}
use Rattle.command_words.proofs.laws.other_values_are_no_group.Goals as goal

pub returns : goal.returns
returns c = record {
  none = group_none;
  no_dir = group_no_dir;
  few_members = group_few_members;
  no_members = group_no_members;
  many_members = group_many_members;
  many_faulty = group_many_faulty;
  short_period = group_short_period;
  long_period = group_long_period;
  many_turns = group_many_turns;
  many_asks = group_many_asks;
  leading_zero = group_leading_zero;
  no_number = group_no_number;
  twice = group_twice;
  secret = group_secret;
  more = group_more;
  help = group_help;
}
