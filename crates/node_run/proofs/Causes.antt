-- Why a node has its status.
use Rattle.std.proofs.Common.{◌≡◌, ◌&&◌, Bool, true, false, not, refl, if◌then◌else◌}
use Rattle.node_endings.specs.Loops.{is_done, gave_up}
use Rattle.node_endings.specs.declared.ending.Ends.{Ends}
use Rattle.node_endings.specs.declared.ending.LoopEnd.{LoopEnd}
use Rattle.node_endings.specs.declared.ending.LoopEnd.TheVariants as loops
use Rattle.node_run.specs.Statuses.{has_failed, is_whole, status_behind, status_by, status_of}
use Rattle.node_run.specs.declared.status.NodeStatus.{NodeStatus}
use Rattle.node_run.specs.declared.status.NodeStatus.TheVariants as statuses

pub both-true : (a b : Bool) → (a && b) ≡ true → (a ≡ true) × (b ≡ true)
both-true true b e = (refl, e)
both-true false b e = absurd (cc)

pub done-is : (r : LoopEnd) → is_done r ≡ true → r ≡ loops.Done
done-is loops.Done e = refl
done-is loops.Over e = cc
done-is (loops.Form n) e = cc
done-is loops.Failed e = cc
done-is loops.NoMemory e = cc

pub done-goes-on : (r : LoopEnd) → is_done r ≡ true → not (gave_up r) ≡ true
done-goes-on loops.Done e = refl
done-goes-on loops.Over e = cc
done-goes-on (loops.Form n) e = cc
done-goes-on loops.Failed e = cc
done-goes-on loops.NoMemory e = cc

failed-is : (r : LoopEnd) → has_failed r ≡ true → r ≡ loops.Failed
failed-is loops.Done e = cc
failed-is loops.Over e = cc
failed-is (loops.Form n) e = cc
failed-is loops.Failed e = refl
failed-is loops.NoMemory e = cc

-- a choice of a status by tests, in order
choice : Bool → Bool → Bool → Bool → NodeStatus
choice sent failed logged whole =
    if sent then statuses.WriteFault
    else if failed then statuses.TrailFault
    else if logged then statuses.DiskFault
    else if whole then statuses.Ok
    else statuses.NoMemory

write-choice : (a b c d : Bool) → choice a b c d ≡ statuses.WriteFault → a ≡ true
unfolding choice
write-choice true b c d e = refl
write-choice false true c d e = cc
write-choice false false true d e = cc
write-choice false false false true e = cc
write-choice false false false false e = cc

trail-choice : (a b c d : Bool) → choice a b c d ≡ statuses.TrailFault → b ≡ true
unfolding choice
trail-choice true b c d e = cc
trail-choice false true c d e = refl
trail-choice false false true d e = cc
trail-choice false false false true e = cc
trail-choice false false false false e = cc

disk-choice : (a b c d : Bool) → choice a b c d ≡ statuses.DiskFault → c ≡ true
unfolding choice
disk-choice true b c d e = cc
disk-choice false true c d e = cc
disk-choice false false true d e = refl
disk-choice false false false true e = cc
disk-choice false false false false e = cc

ok-choice : (a b c d : Bool) → choice a b c d ≡ statuses.Ok → d ≡ true
unfolding choice
ok-choice true b c d e = cc
ok-choice false true c d e = cc
ok-choice false false true d e = cc
ok-choice false false false true e = refl
ok-choice false false false false e = cc

no-read-choice : (a b c d : Bool) → choice a b c d ≡ statuses.ReadFault → ⊥
unfolding choice
no-read-choice true b c d e = cc
no-read-choice false true c d e = cc
no-read-choice false false true d e = cc
no-read-choice false false false true e = cc
no-read-choice false false false false e = cc

-- the status behind the reading, where it is not that of the reading
behind-write : (r : LoopEnd) (behind : NodeStatus) → status_by r behind ≡ statuses.WriteFault → behind ≡ statuses.WriteFault
behind-write loops.Done behind e = e
behind-write loops.Over behind e = e
behind-write (loops.Form n) behind e = cc
behind-write loops.Failed behind e = cc
behind-write loops.NoMemory behind e = e

behind-trail : (r : LoopEnd) (behind : NodeStatus) → status_by r behind ≡ statuses.TrailFault → behind ≡ statuses.TrailFault
behind-trail loops.Done behind e = e
behind-trail loops.Over behind e = e
behind-trail (loops.Form n) behind e = cc
behind-trail loops.Failed behind e = cc
behind-trail loops.NoMemory behind e = e

behind-disk : (r : LoopEnd) (behind : NodeStatus) → status_by r behind ≡ statuses.DiskFault → behind ≡ statuses.DiskFault
behind-disk loops.Done behind e = e
behind-disk loops.Over behind e = e
behind-disk (loops.Form n) behind e = cc
behind-disk loops.Failed behind e = cc
behind-disk loops.NoMemory behind e = e

behind-ok : (r : LoopEnd) (behind : NodeStatus) → status_by r behind ≡ statuses.Ok → behind ≡ statuses.Ok
behind-ok loops.Done behind e = e
behind-ok loops.Over behind e = e
behind-ok (loops.Form n) behind e = cc
behind-ok loops.Failed behind e = cc
behind-ok loops.NoMemory behind e = e

behind-read : (r : LoopEnd) (behind : NodeStatus) → (behind ≡ statuses.ReadFault → ⊥) → status_by r behind ≡ statuses.ReadFault → r ≡ loops.Failed
behind-read loops.Done behind not-read e = absurd (not-read e)
behind-read loops.Over behind not-read e = absurd (not-read e)
behind-read (loops.Form n) behind not-read e = cc
behind-read loops.Failed behind not-read e = refl
behind-read loops.NoMemory behind not-read e = absurd (not-read e)

module _ (ends : Ends) (failed settled : Bool) where
  pub read-cause : status_of ends failed settled ≡ statuses.ReadFault → ends.received ≡ loops.Failed
  unfolding choice
  read-cause = behind-read ends.received (status_behind ends failed settled) (no-read-choice (has_failed ends.sent) failed (has_failed ends.logged) (settled && is_whole ends))

  pub ok-cause : status_of ends failed settled ≡ statuses.Ok → (settled ≡ true) × (is_whole ends ≡ true)
  unfolding choice
  ok-cause e =
      both-true settled (is_whole ends) (ok-choice (has_failed ends.sent) failed (has_failed ends.logged) (settled && is_whole ends) (behind-ok ends.received (status_behind ends failed settled) e))

  pub write-cause : status_of ends failed settled ≡ statuses.WriteFault → ends.sent ≡ loops.Failed
  unfolding choice
  write-cause e =
      failed-is ends.sent (write-choice (has_failed ends.sent) failed (has_failed ends.logged) (settled && is_whole ends) (behind-write ends.received (status_behind ends failed settled) e))

  pub trail-cause : status_of ends failed settled ≡ statuses.TrailFault → failed ≡ true
  unfolding choice
  trail-cause e = trail-choice (has_failed ends.sent) failed (has_failed ends.logged) (settled && is_whole ends) (behind-trail ends.received (status_behind ends failed settled) e)

  pub disk-cause : status_of ends failed settled ≡ statuses.DiskFault → ends.logged ≡ loops.Failed
  unfolding choice
  disk-cause e =
      failed-is ends.logged (disk-choice (has_failed ends.sent) failed (has_failed ends.logged) (settled && is_whole ends) (behind-disk ends.received (status_behind ends failed settled) e))
