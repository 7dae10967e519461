use Rattle.smart_top.proofs.LoadMeanings.{load_means}
use Rattle.smart_top.proofs.laws.each_line_of_a_load_has_a_meaning.Goals as goal

pub returns : goal.returns
returns c = load_means
