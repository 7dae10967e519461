use Rattle.group_run.proofs.concluding.lived_status.Goals as goal

pub returns-clause-concluded : goal.returns-clause-concluded
returns-clause-concluded g c =
    let t = c.args.trails in
    c.end_line.ensures t.recorded.items t.whole c.args.failures c.args.end c.args.polls c.audited-found.result (rw c.as_slice.ensures.value at c.audited-found.ensures) c.failed_status.ensures
