use Rattle.std.proofs.Common.{◌≡◌, drop}
use Rattle.snapshot_form.specs.Replicas.{follow, views_follow}
use Rattle.snapshot_form.proofs.reading.views_follow.Given as goal

-- the views left follow the last one as all do
abbrev pub invariant-loop-view : goal.invariant-loop-view
invariant-loop-view l = follow l.fn.place l.number l.start (drop l.view-index l.others) ≡ views_follow l.fn.place l.fn.views
