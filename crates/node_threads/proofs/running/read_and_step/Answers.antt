use Rattle.std.proofs.Common.{rules}
use Rattle.node_threads.proofs.running.read_and_step.Goals as goal

pub returns-clause-made : goal.returns-clause-made
returns-clause-made g c = record {
  link = search rules;
  reads = search rules;
  whole = search rules;
  form = search rules;
  cause = search rules;
  later = search rules;
}
