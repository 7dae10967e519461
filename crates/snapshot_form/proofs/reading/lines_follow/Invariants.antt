use Rattle.std.proofs.Common.{◌≡◌, drop}
use Rattle.snapshot_form.specs.Snapshots.{lines_above, lines_follow}
use Rattle.snapshot_form.proofs.reading.lines_follow.Given as goal

-- the lines left ascend from the last client as all do
abbrev pub invariant-loop-line : goal.invariant-loop-line
invariant-loop-line l = lines_above l.fn.place l.fn.views l.last (drop l.line-index l.others) ≡ lines_follow l.fn.place l.fn.views l.fn.lines
