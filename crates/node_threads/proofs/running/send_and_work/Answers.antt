use Rattle.std.proofs.Common.{rules}
use Rattle.node_threads.proofs.running.send_and_work.Goals as goal

pub returns-clause-written : goal.returns-clause-written
returns-clause-written g c = record {
  link = search rules;
  wrote = search rules;
  cause = search rules;
  later = search rules;
}
