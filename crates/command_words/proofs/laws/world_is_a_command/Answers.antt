use Rattle.command_words.proofs.Rows.{alone, marked}
use Rattle.command_words.proofs.laws.world_is_a_command.Goals as goal

pub returns : goal.returns
returns c = record {
  alone = alone;
  marked = marked;
}
