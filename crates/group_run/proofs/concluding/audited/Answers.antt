use Rattle.std.proofs.Common.{◌≡◌}
use Rattle.group_run.specs.Statuses.{audited_status, quiet_status}
use Rattle.group_run.proofs.Conclusions.{audited-by, audited-none, on-by}
use Rattle.group_run.proofs.concluding.audited.Goals as goal

pub returns-in-GaveUp : goal.returns-in-GaveUp
returns-in-GaveUp c = audited-none c.args.recorded.now c.args.whole c.args.end c.args.polls

pub returns-in_default-judge : goal.returns-in_default-judge
returns-in_default-judge c = audited-none c.args.recorded.now c.args.whole c.args.end c.args.polls

pub returns : goal.returns
returns c =
    let j = c.in-Ok.ensures in
    let found = c.in-Ok.field-0 in
    let says : c.audited_status.result ≡ audited_status found.verdict (quiet_status c.has_wanted-wanted.result c.is_done-done.result c.is_still-still.result c.args.polls) = cc (c.audited_status.ensures) in
    audited-by c.args.recorded.now c.args.whole c.args.end c.args.polls found.verdict found.quiet c.has_wanted-wanted.result c.is_done-done.result c.is_still-still.result c.audited_status.result (on-by c.args.end c.in_default.not-GaveUp) j.verdict j.quiet
    c.has_wanted-wanted.ensures c.is_done-done.ensures c.is_still-still.ensures says
