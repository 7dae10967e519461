use Rattle.std.proofs.Common.{◌≡◌, vec_len}
use Rattle.group_run.proofs.Turnings.{AreGathered}
use Rattle.group_run.proofs.parties.trails_of.Given as goal

abbrev pub invariant-loop-lived : goal.invariant-loop-lived
invariant-loop-lived l = record {
  many : vec_len l.heads ≡ vec_len l.members;
  gathered : AreGathered l.fn.head l.fn.lives.client l.fn.heads.items l.fn.lives.members.items l.heads.items l.members.items l.made.recorded.items l.made.rows.items l.made.inboxes.items l.made.whole;
}

abbrev pub decreases-loop-lived : goal.decreases-loop-lived
decreases-loop-lived l = vec_len l.members
