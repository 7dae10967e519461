use Rattle.command_words.proofs.NodeRows.{node_usual, node_period, node_joined}
use Rattle.command_words.proofs.laws.values_in_range_are_a_node.Goals as goal

pub returns : goal.returns
returns c = record {
  usual = node_usual;
  period = node_period;
  joined = node_joined;
}
