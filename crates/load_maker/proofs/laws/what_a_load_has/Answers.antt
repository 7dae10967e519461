use Rattle.load_maker.proofs.Totals.{asks_in, flows_in, crashes_in, restarts_in, lines_in, ranges}
use Rattle.load_maker.proofs.laws.what_a_load_has.Goals as goal

pub returns : goal.returns
returns c = record {
  asks = asks_in;
  flows = flows_in;
  crashes = crashes_in;
  restarts = restarts_in;
  lines = lines_in;
  within = ranges;
}
