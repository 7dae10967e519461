use Rattle.std.proofs.Common.{◌+◌, ◌∙◌, Some, None, true, false, w64, refl, arith, length-drop}
use Rattle.log_stream.proofs.Pieces.{at_is}
use Rattle.log_stream.proofs.Walks.{no_length, group_small, group_over, group_whole, group_torn, walked_is}
use Rattle.log_stream.proofs.group.group_after.Goals as goal

pub returns-in_default-clause-found : goal.returns-in_default-clause-found
returns-in_default-clause-found g c = λ told.
    let s = g.D.Disk.cells c.args.device.now in
    no_length s.now c.args.gate (at_is w64 s s (c.args.gate + 1) c.in_ok-size.field-0 None refl c.in_default.is (c.in_ok-size.ensures.number told))

pub returns-then-size-lt8-clause-found : goal.returns-then-size-lt8-clause-found
returns-then-size-lt8-clause-found g c = λ told.
    let s = g.D.Disk.cells c.args.device.now in
    group_small s.now c.args.gate c.in-Some.size (at_is w64 s s (c.args.gate + 1) c.in_ok-size.field-0 (Some c.in-Some.size) refl c.in-Some.is (c.in_ok-size.ensures.number told)) c.if-size-lt8.true

pub returns-then-saturating_sub-size-clause-found : goal.returns-then-saturating_sub-size-clause-found
returns-then-saturating_sub-size-clause-found g c = λ told.
    let s = g.D.Disk.cells c.args.device.now in
    group_over s.now c.args.gate c.in-Some.size (at_is w64 s s (c.args.gate + 1) c.in_ok-size.field-0 (Some c.in-Some.size) refl c.in-Some.is (c.in_ok-size.ensures.number told))
    (omega (arith, c.requires.long told, c.saturating_sub.ensures, c.if-saturating_sub-size.true, length-drop (c.args.gate + 9) s.now))

pub returns-then-branch-clause-found : goal.returns-then-branch-clause-found
returns-then-branch-clause-found g c = λ told.
    let s = g.D.Disk.cells c.args.device.now in
    let same = (c.u64_at.ensures.still told).same in
    group_whole s.now c.args.gate c.in-Some.size c.in-Some-2.count (at_is w64 s s (c.args.gate + 1) c.in_ok-size.field-0 (Some c.in-Some.size) refl c.in-Some.is (c.in_ok-size.ensures.number told))
    (at_is w64 s (g.D.Disk.cells c.u64_at.new.device) (c.args.gate + 9) c.in_ok-count.field-0 (Some c.in-Some-2.count) same c.in-Some-2.is (c.in_ok-count.ensures.number told))
    c.if-size-lt8.false (omega (arith, c.requires.long told, c.saturating_sub.ensures, c.if-saturating_sub-size.false, length-drop (c.args.gate + 9) s.now))
    (walked_is s (g.D.Disk.cells c.u64_at-2.new.device) (c.args.gate + 9 + 8) (c.args.gate + 17) (c.args.gate + 9 + c.in-Some.size) c.in-Some-2.count c.in_ok-walk.field-0 true ((c.u64_at-2.ensures.still told).same ∙ same) (omega arith) c.if-branch.true (c.in_ok-walk.ensures.walked told))

pub returns-clause-found : goal.returns-clause-found
returns-clause-found g c = λ told.
    let s = g.D.Disk.cells c.args.device.now in
    let same = (c.u64_at.ensures.still told).same in
    group_torn s.now c.args.gate c.in-Some.size c.in-Some-2.count (at_is w64 s s (c.args.gate + 1) c.in_ok-size.field-0 (Some c.in-Some.size) refl c.in-Some.is (c.in_ok-size.ensures.number told))
    (at_is w64 s (g.D.Disk.cells c.u64_at.new.device) (c.args.gate + 9) c.in_ok-count.field-0 (Some c.in-Some-2.count) same c.in-Some-2.is (c.in_ok-count.ensures.number told))
    c.if-size-lt8.false (omega (arith, c.requires.long told, c.saturating_sub.ensures, c.if-saturating_sub-size.false, length-drop (c.args.gate + 9) s.now))
    (walked_is s (g.D.Disk.cells c.u64_at-2.new.device) (c.args.gate + 9 + 8) (c.args.gate + 17) (c.args.gate + 9 + c.in-Some.size) c.in-Some-2.count c.in_ok-walk.field-0 false ((c.u64_at-2.ensures.still told).same ∙ same) (omega arith) c.if-branch.false (c.in_ok-walk.ensures.walked told))
