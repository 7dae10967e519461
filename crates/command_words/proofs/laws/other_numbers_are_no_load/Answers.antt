use Rattle.command_words.proofs.Rows.{load_missing, load_none, load_too_great, load_leading_zero, load_plus, load_minus, load_no_number, load_empty_number, load_more, load_option}
use Rattle.command_words.proofs.laws.other_numbers_are_no_load.Goals as goal

pub returns : goal.returns
returns c = record {
  missing = load_missing;
  none = load_none;
  too_great = load_too_great;
  leading_zero = load_leading_zero;
  plus = load_plus;
  minus = load_minus;
  no_number = load_no_number;
  empty_number = load_empty_number;
  more = load_more;
  option = load_option;
}
