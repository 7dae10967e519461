use Rattle.command_words.proofs.Rows.{other, empty, capital, longer, more, twice, behind_the_mark, flag, long_flag, no_text}
use Rattle.command_words.proofs.laws.wrong_words_are_no_command.Goals as goal

pub returns : goal.returns
returns c = record {
  other = other;
  empty = empty;
  capital = capital;
  longer = longer;
  more = more;
  twice = twice;
  behind_the_mark = behind_the_mark;
  flag = flag;
  long_flag = long_flag;
  no_text = no_text;
}
