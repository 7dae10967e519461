use Rattle.group_threads.proofs.group.ask_all.Goals as goal

pub returns-clause-made : goal.returns-clause-made
returns-clause-made g c =
    let e = c.client_loop.ensures in record {
      going = e.going;
      asked = e.asked;
      up_to = e.up_to;
      done = e.done;
      spent = e.spent;
      unended = e.open;
      told = e.told;
      told_first = e.told_first;
      lines = e.lines;
      trail = e.trail;
      output = e.failed;
      want = e.want;
      later = e.later;
    }
