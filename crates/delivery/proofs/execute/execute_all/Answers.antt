use Rattle.delivery.proofs.execute.execute_all.Goals as goal

pub returns-in-Ok-clause-begun : goal.returns-in-Ok-clause-begun
returns-in-Ok-clause-begun g c = c.begun_by.ensures c.args.replica.now.views c.execute_each.new.replica.views c.execute_each.ensures.moved

pub returns-in-Err-clause-err : goal.returns-in-Err-clause-err
returns-in-Err-clause-err g c = c.put_back.ensures c.args.replica.now.views c.execute_each.ensures.moved
