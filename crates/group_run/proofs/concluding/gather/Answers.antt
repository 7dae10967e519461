use Rattle.group_run.proofs.concluding.gather.Goals as goal

pub returns-in-Ok-clause-trails : goal.returns-in-Ok-clause-trails
returns-in-Ok-clause-trails g c =
    let made = c.in-Ok.ensures in
    let lives = c.in-Ok-Some.lives in
    let found = rw c.in-Ok-Some.field-0-is at c.in-Ok-Some.ensures.lives in record {
      own = lives.client;
      lives = lives.members.items;
      own_is = found.0;
      lives_are = found.1;
      trails = made.trails;
      whole = made.whole;
      rows = made.rows;
      inboxes = made.inboxes;
    }
