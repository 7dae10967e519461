use Rattle.command_words.proofs.NodeRows.{node_none, node_no_group, node_no_member, node_great_member, node_no_secret, node_half_a_byte, node_capital, node_few_members, node_many_members, node_many_faulty, node_one_number, node_short_period, node_long_period, node_twice, node_help}
use Rattle.command_words.proofs.laws.other_values_are_no_node.Goals as goal

pub returns : goal.returns
returns c = record {
  none = node_none;
  no_group = node_no_group;
  no_member = node_no_member;
  great_member = node_great_member;
  no_secret = node_no_secret;
  half_a_byte = node_half_a_byte;
  capital = node_capital;
  few_members = node_few_members;
  many_members = node_many_members;
  many_faulty = node_many_faulty;
  one_number = node_one_number;
  short_period = node_short_period;
  long_period = node_long_period;
  twice = node_twice;
  help = node_help;
}
