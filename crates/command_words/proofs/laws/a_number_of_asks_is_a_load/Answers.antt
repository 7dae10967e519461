use Rattle.command_words.proofs.Rows.{least_load, greatest_load, marked_load, load_marked_behind}
use Rattle.command_words.proofs.laws.a_number_of_asks_is_a_load.Goals as goal

pub returns : goal.returns
returns c = record {
  least = least_load;
  greatest = greatest_load;
  marked = marked_load;
  marked_behind = load_marked_behind;
}
