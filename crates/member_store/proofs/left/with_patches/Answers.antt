use Rattle.std.proofs.Common.{◌<◌, length, arith}
use Rattle.member_store.proofs.Patches.{with-patch, with-other}
use Rattle.member_store.proofs.left.with_patches.Goals as goal
use Rattle.member_store.proofs.left.with_patches.Goals.{then-patch-device+in_ok-patch, else-patch-device}

pub loop-patch-preserved : goal.loop-patch-preserved
loop-patch-preserved c =
    let p = c.patch-item.result in
    let i = c.loop-patch.patch-index in
    let lt : i < length c.args.patches.now = omega arith in
    elim c.if-patch-device.branch [
      | then-patch-device+in_ok-patch w ↦
          rw (with-patch c.args.device c.args.patches.now i p _ lt c.patch-item.is w.if-patch-device.true, w.left-is) (rw w.greatest.ensures at w.in_ok-patch.ensures _ c.loop-patch.invariant)
      | else-patch-device w ↦ rw (with-other c.args.device c.args.patches.now i p _ lt c.patch-item.is w.if-patch-device.false, w.left-is) c.loop-patch.invariant
    ]
