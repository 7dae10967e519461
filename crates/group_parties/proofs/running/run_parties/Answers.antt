use Rattle.std.proofs.Common.{◌≡◌, ◌<◌, ◌∙◌, Bool, true, false, List, length, get_or, Option, Result, Ok, Err, OnOk, ap, sym, subst, true≢false, arith}
use Rattle.std.specs.Result.{is_err}
use Rattle.std.specs.List.{All}
use Rattle.group_client.specs.Ends.{gave_up}
use Rattle.group_client.specs.Loops.{Output}
use Rattle.group_threads.specs.declared.desk.Desk.{Desk}
use Rattle.group_parties.specs.Courses.{is_cut_off, CourseMade}
use Rattle.group_parties.specs.Manned.{HasDesk, HasWorked, IsWholeDesk}
use Rattle.group_parties.specs.declared.running.CourseEnd.{CourseEnd}
use Rattle.group_client.specs.declared.asking.ClientFault.TheVariants as faults
use Rattle.group_parties.proofs.Coursing.{asked-polled, course-done, course-given-up, course-over, course-played, course-stopped, course-wants, cut-off-of, few-polled, given-up-of}
use Rattle.group_parties.proofs.Manned.{all-left, desk-left, numbers-left, ready-more, worked-left}
use Rattle.group_parties.proofs.running.run_parties.Goals as goal

-- what a call tells that has not failed
gone-well : {A E P : Type 0} (r : Result A E) (b : Bool) → b ≡ is_err r → b ≡ false → OnOk r P → P
gone-well (Ok x) b is fine ok = ok
gone-well (Err e) b is fine ok = absurd (true≢false (sym is ∙ fine))

-- each of the same list has a desk at which no round has failed
whole-as : {R D : Type 0} (desk : R → Option (Desk D)) (xs ys : List R) → xs ≡ ys → All (λ r. IsWholeDesk (desk r)) xs → All (λ r. IsWholeDesk (desk r)) ys
whole-as {R} desk xs ys same = subst (λ (l : List R). All (λ r. IsWholeDesk (desk r)) l) same

-- ---- the members

pub returns-in-Done-clause-since : goal.returns-in-Done-clause-since
returns-in-Done-clause-since g c =
    let d = g.D.Disk in
    let p = g.P.GroupLife in
    let old = c.args.members.now.runners in
    let new = c.run_group-end.new.members.runners in
    let e = c.run_group-end.ensures in
    let many : length new.items ≡ length old.items = omega (arith, e.many, old.ok.0, new.ok.0) in
    λ origins. all-left (λ r. HasDesk d.told d.remembers d.cells d.moment d.left_since g.S.Service.meaning (origins r.member) (p.lane r.member) (p.opening r.member) (p.restored r.member) r.desk)
    (λ r. HasDesk d.told d.remembers d.cells d.moment d.left_since g.S.Service.meaning (origins r.member) (p.lane r.member) (p.opening r.member) (p.restored r.member) r.desk) old.items new.items many
    (λ i r within had. let below : i < old.len = omega (arith, within, old.ok.0) in desk-left d.told d.remembers d.cells d.moment d.left_since g.S.Service.meaning p.lane p.opening p.restored d.faults _ _ _ _ _ (e.same i r below) origins (c.requires.ready i r within) (e.left i r below) had)

pub returns-in-Done-clause-worked : goal.returns-in-Done-clause-worked
returns-in-Done-clause-worked g c =
    let d = g.D.Disk in
    let p = g.P.GroupLife in
    let old = c.args.members.now.runners in
    let new = c.run_group-end.new.members.runners in
    let e = c.run_group-end.ensures in
    let many : length new.items ≡ length old.items = omega (arith, e.many, old.ok.0, new.ok.0) in
    λ begun. all-left (λ r. HasWorked d.faults (begun r.member) r.ends r.desk) (λ r. HasWorked d.faults (begun r.member) r.ends r.desk) old.items new.items many
    (λ i r within had. let below : i < old.len = omega (arith, within, old.ok.0) in worked-left d.told d.remembers d.cells d.moment d.left_since g.S.Service.meaning p.lane p.opening p.restored d.faults _ _ _ _ _ (e.same i r below) begun (get_or old.items i r).ends (e.left i r below) had)

pub returns-in-Done-clause-same : goal.returns-in-Done-clause-same
returns-in-Done-clause-same g c =
    let old = c.args.members.now.runners in
    let new = c.run_group-end.new.members.runners in
    let e = c.run_group-end.ensures in
    numbers-left (λ r. r.member) old.items new.items (omega (arith, e.many, old.ok.0, new.ok.0)) (λ i r within. e.same i r (omega (arith, within, old.ok.0)))

pub returns-in-Over-clause-since : goal.returns-in-Over-clause-since
returns-in-Over-clause-since g c =
    let d = g.D.Disk in
    let p = g.P.GroupLife in
    let old = c.args.members.now.runners in
    let new = c.run_group-end.new.members.runners in
    let e = c.run_group-end.ensures in
    let many : length new.items ≡ length old.items = omega (arith, e.many, old.ok.0, new.ok.0) in
    λ origins. all-left (λ r. HasDesk d.told d.remembers d.cells d.moment d.left_since g.S.Service.meaning (origins r.member) (p.lane r.member) (p.opening r.member) (p.restored r.member) r.desk)
    (λ r. HasDesk d.told d.remembers d.cells d.moment d.left_since g.S.Service.meaning (origins r.member) (p.lane r.member) (p.opening r.member) (p.restored r.member) r.desk) old.items new.items many
    (λ i r within had. let below : i < old.len = omega (arith, within, old.ok.0) in desk-left d.told d.remembers d.cells d.moment d.left_since g.S.Service.meaning p.lane p.opening p.restored d.faults _ _ _ _ _ (e.same i r below) origins (c.requires.ready i r within) (e.left i r below) had)

pub returns-in-Over-clause-worked : goal.returns-in-Over-clause-worked
returns-in-Over-clause-worked g c =
    let d = g.D.Disk in
    let p = g.P.GroupLife in
    let old = c.args.members.now.runners in
    let new = c.run_group-end.new.members.runners in
    let e = c.run_group-end.ensures in
    let many : length new.items ≡ length old.items = omega (arith, e.many, old.ok.0, new.ok.0) in
    λ begun. all-left (λ r. HasWorked d.faults (begun r.member) r.ends r.desk) (λ r. HasWorked d.faults (begun r.member) r.ends r.desk) old.items new.items many
    (λ i r within had. let below : i < old.len = omega (arith, within, old.ok.0) in worked-left d.told d.remembers d.cells d.moment d.left_since g.S.Service.meaning p.lane p.opening p.restored d.faults _ _ _ _ _ (e.same i r below) begun (get_or old.items i r).ends (e.left i r below) had)

pub returns-in-Over-clause-same : goal.returns-in-Over-clause-same
returns-in-Over-clause-same g c =
    let old = c.args.members.now.runners in
    let new = c.run_group-end.new.members.runners in
    let e = c.run_group-end.ensures in
    numbers-left (λ r. r.member) old.items new.items (omega (arith, e.many, old.ok.0, new.ok.0)) (λ i r within. e.same i r (omega (arith, within, old.ok.0)))

pub returns-in-GaveUp-clause-since : goal.returns-in-GaveUp-clause-since
returns-in-GaveUp-clause-since g c =
    let d = g.D.Disk in
    let p = g.P.GroupLife in
    let old = c.args.members.now.runners in
    let new = c.run_group-end.new.members.runners in
    let e = c.run_group-end.ensures in
    let many : length new.items ≡ length old.items = omega (arith, e.many, old.ok.0, new.ok.0) in
    λ origins. all-left (λ r. HasDesk d.told d.remembers d.cells d.moment d.left_since g.S.Service.meaning (origins r.member) (p.lane r.member) (p.opening r.member) (p.restored r.member) r.desk)
    (λ r. HasDesk d.told d.remembers d.cells d.moment d.left_since g.S.Service.meaning (origins r.member) (p.lane r.member) (p.opening r.member) (p.restored r.member) r.desk) old.items new.items many
    (λ i r within had. let below : i < old.len = omega (arith, within, old.ok.0) in desk-left d.told d.remembers d.cells d.moment d.left_since g.S.Service.meaning p.lane p.opening p.restored d.faults _ _ _ _ _ (e.same i r below) origins (c.requires.ready i r within) (e.left i r below) had)

pub returns-in-GaveUp-clause-worked : goal.returns-in-GaveUp-clause-worked
returns-in-GaveUp-clause-worked g c =
    let d = g.D.Disk in
    let p = g.P.GroupLife in
    let old = c.args.members.now.runners in
    let new = c.run_group-end.new.members.runners in
    let e = c.run_group-end.ensures in
    let many : length new.items ≡ length old.items = omega (arith, e.many, old.ok.0, new.ok.0) in
    λ begun. all-left (λ r. HasWorked d.faults (begun r.member) r.ends r.desk) (λ r. HasWorked d.faults (begun r.member) r.ends r.desk) old.items new.items many
    (λ i r within had. let below : i < old.len = omega (arith, within, old.ok.0) in worked-left d.told d.remembers d.cells d.moment d.left_since g.S.Service.meaning p.lane p.opening p.restored d.faults _ _ _ _ _ (e.same i r below) begun (get_or old.items i r).ends (e.left i r below) had)

pub returns-in-GaveUp-clause-same : goal.returns-in-GaveUp-clause-same
returns-in-GaveUp-clause-same g c =
    let old = c.args.members.now.runners in
    let new = c.run_group-end.new.members.runners in
    let e = c.run_group-end.ensures in
    numbers-left (λ r. r.member) old.items new.items (omega (arith, e.many, old.ok.0, new.ok.0)) (λ i r within. e.same i r (omega (arith, within, old.ok.0)))

pub returns-then-is_err-clause-since : goal.returns-then-is_err-clause-since
returns-then-is_err-clause-since g c =
    let d = g.D.Disk in
    let p = g.P.GroupLife in
    let old = c.args.members.now.runners in
    let new = c.run_group-end.new.members.runners in
    let e = c.run_group-end.ensures in
    let many : length new.items ≡ length old.items = omega (arith, e.many, old.ok.0, new.ok.0) in
    λ origins. all-left (λ r. HasDesk d.told d.remembers d.cells d.moment d.left_since g.S.Service.meaning (origins r.member) (p.lane r.member) (p.opening r.member) (p.restored r.member) r.desk)
    (λ r. HasDesk d.told d.remembers d.cells d.moment d.left_since g.S.Service.meaning (origins r.member) (p.lane r.member) (p.opening r.member) (p.restored r.member) r.desk) old.items new.items many
    (λ i r within had. let below : i < old.len = omega (arith, within, old.ok.0) in desk-left d.told d.remembers d.cells d.moment d.left_since g.S.Service.meaning p.lane p.opening p.restored d.faults _ _ _ _ _ (e.same i r below) origins (c.requires.ready i r within) (e.left i r below) had)

pub returns-then-is_err-clause-worked : goal.returns-then-is_err-clause-worked
returns-then-is_err-clause-worked g c =
    let d = g.D.Disk in
    let p = g.P.GroupLife in
    let old = c.args.members.now.runners in
    let new = c.run_group-end.new.members.runners in
    let e = c.run_group-end.ensures in
    let many : length new.items ≡ length old.items = omega (arith, e.many, old.ok.0, new.ok.0) in
    λ begun. all-left (λ r. HasWorked d.faults (begun r.member) r.ends r.desk) (λ r. HasWorked d.faults (begun r.member) r.ends r.desk) old.items new.items many
    (λ i r within had. let below : i < old.len = omega (arith, within, old.ok.0) in worked-left d.told d.remembers d.cells d.moment d.left_since g.S.Service.meaning p.lane p.opening p.restored d.faults _ _ _ _ _ (e.same i r below) begun (get_or old.items i r).ends (e.left i r below) had)

pub returns-then-is_err-clause-same : goal.returns-then-is_err-clause-same
returns-then-is_err-clause-same g c =
    let old = c.args.members.now.runners in
    let new = c.run_group-end.new.members.runners in
    let e = c.run_group-end.ensures in
    numbers-left (λ r. r.member) old.items new.items (omega (arith, e.many, old.ok.0, new.ok.0)) (λ i r within. e.same i r (omega (arith, within, old.ok.0)))

pub returns-then-not-are_whole-clause-since : goal.returns-then-not-are_whole-clause-since
returns-then-not-are_whole-clause-since g c =
    let d = g.D.Disk in
    let p = g.P.GroupLife in
    let old = c.args.members.now.runners in
    let new = c.run_group-end.new.members.runners in
    let e = c.run_group-end.ensures in
    let many : length new.items ≡ length old.items = omega (arith, e.many, old.ok.0, new.ok.0) in
    λ origins. all-left (λ r. HasDesk d.told d.remembers d.cells d.moment d.left_since g.S.Service.meaning (origins r.member) (p.lane r.member) (p.opening r.member) (p.restored r.member) r.desk)
    (λ r. HasDesk d.told d.remembers d.cells d.moment d.left_since g.S.Service.meaning (origins r.member) (p.lane r.member) (p.opening r.member) (p.restored r.member) r.desk) old.items new.items many
    (λ i r within had. let below : i < old.len = omega (arith, within, old.ok.0) in desk-left d.told d.remembers d.cells d.moment d.left_since g.S.Service.meaning p.lane p.opening p.restored d.faults _ _ _ _ _ (e.same i r below) origins (c.requires.ready i r within) (e.left i r below) had)

pub returns-then-not-are_whole-clause-worked : goal.returns-then-not-are_whole-clause-worked
returns-then-not-are_whole-clause-worked g c =
    let d = g.D.Disk in
    let p = g.P.GroupLife in
    let old = c.args.members.now.runners in
    let new = c.run_group-end.new.members.runners in
    let e = c.run_group-end.ensures in
    let many : length new.items ≡ length old.items = omega (arith, e.many, old.ok.0, new.ok.0) in
    λ begun. all-left (λ r. HasWorked d.faults (begun r.member) r.ends r.desk) (λ r. HasWorked d.faults (begun r.member) r.ends r.desk) old.items new.items many
    (λ i r within had. let below : i < old.len = omega (arith, within, old.ok.0) in worked-left d.told d.remembers d.cells d.moment d.left_since g.S.Service.meaning p.lane p.opening p.restored d.faults _ _ _ _ _ (e.same i r below) begun (get_or old.items i r).ends (e.left i r below) had)

pub returns-then-not-are_whole-clause-same : goal.returns-then-not-are_whole-clause-same
returns-then-not-are_whole-clause-same g c =
    let old = c.args.members.now.runners in
    let new = c.run_group-end.new.members.runners in
    let e = c.run_group-end.ensures in
    numbers-left (λ r. r.member) old.items new.items (omega (arith, e.many, old.ok.0, new.ok.0)) (λ i r within. e.same i r (omega (arith, within, old.ok.0)))

pub returns-clause-since : goal.returns-clause-since
returns-clause-since g c =
    let d = g.D.Disk in
    let p = g.P.GroupLife in
    let old = c.args.members.now.runners in
    let new = c.run_group-end.new.members.runners in
    let e = c.run_group-end.ensures in
    let many : length new.items ≡ length old.items = omega (arith, e.many, old.ok.0, new.ok.0) in
    λ origins begun. c.play_on.ensures.since origins (all-left (λ r. HasDesk d.told d.remembers d.cells d.moment d.left_since g.S.Service.meaning (origins r.member) (p.lane r.member) (p.opening r.member) (p.restored r.member) r.desk)
    (λ r. HasDesk d.told d.remembers d.cells d.moment d.left_since g.S.Service.meaning (origins r.member) (p.lane r.member) (p.opening r.member) (p.restored r.member) r.desk) old.items new.items many
    (λ i r within had. let below : i < old.len = omega (arith, within, old.ok.0) in desk-left d.told d.remembers d.cells d.moment d.left_since g.S.Service.meaning p.lane p.opening p.restored d.faults _ _ _ _ _ (e.same i r below) origins (c.requires.ready i r within) (e.left i r below) had) begun)

pub returns-clause-worked : goal.returns-clause-worked
returns-clause-worked g c =
    let d = g.D.Disk in
    let p = g.P.GroupLife in
    let old = c.args.members.now.runners in
    let new = c.run_group-end.new.members.runners in
    let e = c.run_group-end.ensures in
    let many : length new.items ≡ length old.items = omega (arith, e.many, old.ok.0, new.ok.0) in
    λ begun had. c.play_on.ensures.worked begun (all-left (λ r. HasWorked d.faults (begun r.member) r.ends r.desk) (λ r. HasWorked d.faults (begun r.member) r.ends r.desk) old.items new.items many
    (λ i r within one. let below : i < old.len = omega (arith, within, old.ok.0) in worked-left d.told d.remembers d.cells d.moment d.left_since g.S.Service.meaning p.lane p.opening p.restored d.faults _ _ _ _ _ (e.same i r below) begun (get_or old.items i r).ends (e.left i r below) one) had)

pub returns-clause-same : goal.returns-clause-same
returns-clause-same g c =
    let old = c.args.members.now.runners in
    let new = c.run_group-end.new.members.runners in
    let e = c.run_group-end.ensures in
    c.play_on.ensures.same ∙ numbers-left (λ r. r.member) old.items new.items (omega (arith, e.many, old.ok.0, new.ok.0)) (λ i r within. e.same i r (omega (arith, within, old.ok.0)))

pub play_on-requires-clause-ready : goal.play_on-requires-clause-ready
play_on-requires-clause-ready g c =
    let d = g.D.Disk in
    let p = g.P.GroupLife in
    let old = c.args.members.now.runners in
    let new = c.run_group-end.new.members.runners in
    let e = c.run_group-end.ensures in
    let many : length new.items ≡ length old.items = omega (arith, e.many, old.ok.0, new.ok.0) in
    let whole = whole-as (λ r. r.desk) c.as_slice.result.now new.items c.as_slice.ensures.value (c.are_whole.ensures c.if-not-are_whole.false) in
    λ i r within.
    let below : i < old.len = omega (arith, within, many, old.ok.0) in
    ready-more d.told d.remembers d.cells d.moment d.left_since g.S.Service.meaning p.lane p.opening p.restored d.faults _ _ _ _ _ (e.same i r below) (e.left i r below) (whole i r within)

-- ---- the client

pub returns-in-Done-clause-made : goal.returns-in-Done-clause-made
returns-in-Done-clause-made g c =
    let head = g.P.Owner.head 0 in
    let s = g.W.Sink in
    let task = c.args.task.now in
    let old = c.args.client.now.journal.events.items in
    let ran = c.run_group-end.new.client in
    let made = c.run_group-end.ensures.made in
    let fresh = c.requires.fresh.1.1.0 in
    let before : Output = record { written = s.written c.args.output.now; faults = s.faults c.args.output.now; wants = s.wants c.args.output.now } in
    let after : Output = record { written = s.written c.run_group-end.new.output; faults = s.faults c.run_group-end.new.output; wants = s.wants c.run_group-end.new.output } in
    course-done head task.asks task.turns c.run_group-end.result old ran.journal.events.items ran.client ran.over ran.pending ran.idle ran.journal.failed before after fresh made c.in-Done.is

pub returns-in-Over-clause-made : goal.returns-in-Over-clause-made
returns-in-Over-clause-made g c =
    let head = g.P.Owner.head 0 in
    let s = g.W.Sink in
    let task = c.args.task.now in
    let old = c.args.client.now.journal.events.items in
    let ran = c.run_group-end.new.client in
    let made = c.run_group-end.ensures.made in
    let fresh = c.requires.fresh.1.1.0 in
    let before : Output = record { written = s.written c.args.output.now; faults = s.faults c.args.output.now; wants = s.wants c.args.output.now } in
    let after : Output = record { written = s.written c.run_group-end.new.output; faults = s.faults c.run_group-end.new.output; wants = s.wants c.run_group-end.new.output } in
    course-over head task.asks task.turns c.run_group-end.result old ran.journal.events.items ran.client ran.over ran.pending ran.idle ran.journal.failed before after fresh made c.in-Over.is

pub returns-in-GaveUp-clause-made : goal.returns-in-GaveUp-clause-made
returns-in-GaveUp-clause-made g c =
    let head = g.P.Owner.head 0 in
    let s = g.W.Sink in
    let task = c.args.task.now in
    let old = c.args.client.now.journal.events.items in
    let ran = c.run_group-end.new.client in
    let made = c.run_group-end.ensures.made in
    let fresh = c.requires.fresh.1.1.0 in
    let before : Output = record { written = s.written c.args.output.now; faults = s.faults c.args.output.now; wants = s.wants c.args.output.now } in
    let after : Output = record { written = s.written c.run_group-end.new.output; faults = s.faults c.run_group-end.new.output; wants = s.wants c.run_group-end.new.output } in
    course-given-up head task.asks task.turns c.run_group-end.result old ran.journal.events.items ran.client ran.over ran.pending ran.idle ran.journal.failed before after fresh made c.in-GaveUp.fault c.in-GaveUp.is

pub returns-then-is_err-clause-made : goal.returns-then-is_err-clause-made
returns-then-is_err-clause-made g c =
    let head = g.P.Owner.head 0 in
    let s = g.W.Sink in
    let task = c.args.task.now in
    let old = c.args.client.now.journal.events.items in
    let ran = c.run_group-end.new.client in
    let made = c.run_group-end.ensures.made in
    let fresh = c.requires.fresh.1.1.0 in
    let before : Output = record { written = s.written c.args.output.now; faults = s.faults c.args.output.now; wants = s.wants c.args.output.now } in
    let after : Output = record { written = s.written c.run_group-end.new.output; faults = s.faults c.run_group-end.new.output; wants = s.wants c.run_group-end.new.output } in
    course-wants head task.asks task.turns c.run_group-end.result old ran.journal.events.items ran.client ran.over ran.pending ran.idle ran.journal.failed before after fresh made c.in-Spent.is c.tell_polls.new.self.journal.events.items c.tell_polls.new.self.client c.tell_polls.ensures.events c.tell_polls.ensures.same.0

pub returns-then-not-are_whole-clause-made : goal.returns-then-not-are_whole-clause-made
returns-then-not-are_whole-clause-made g c =
    let head = g.P.Owner.head 0 in
    let s = g.W.Sink in
    let task = c.args.task.now in
    let old = c.args.client.now.journal.events.items in
    let ran = c.run_group-end.new.client in
    let made = c.run_group-end.ensures.made in
    let fresh = c.requires.fresh.1.1.0 in
    let before : Output = record { written = s.written c.args.output.now; faults = s.faults c.args.output.now; wants = s.wants c.args.output.now } in
    let after : Output = record { written = s.written c.run_group-end.new.output; faults = s.faults c.run_group-end.new.output; wants = s.wants c.run_group-end.new.output } in
    course-stopped head task.asks task.turns c.run_group-end.result old ran.journal.events.items ran.client ran.over ran.pending ran.idle ran.journal.failed before after fresh made c.in-Spent.is c.tell_polls.new.self.journal.events.items c.tell_polls.new.self.client c.tell_polls.ensures.events c.tell_polls.ensures.same.0

pub play_on-requires-clause-asked : goal.play_on-requires-clause-asked
play_on-requires-clause-asked g c =
    let head = g.P.Owner.head 0 in
    let s = g.W.Sink in
    let task = c.args.task.now in
    let old = c.args.client.now.journal.events.items in
    let ran = c.run_group-end.new.client in
    let made = c.run_group-end.ensures.made in
    let fresh = c.requires.fresh.1.1.0 in
    let before : Output = record { written = s.written c.args.output.now; faults = s.faults c.args.output.now; wants = s.wants c.args.output.now } in
    let after : Output = record { written = s.written c.run_group-end.new.output; faults = s.faults c.run_group-end.new.output; wants = s.wants c.run_group-end.new.output } in
    asked-polled head task.asks task.turns c.run_group-end.result old ran.journal.events.items ran.client ran.over ran.pending ran.idle ran.journal.failed before after fresh made c.in-Spent.is c.tell_polls.new.self.journal.events.items c.tell_polls.new.self.client c.tell_polls.ensures.events c.tell_polls.ensures.same.0

pub play_on-requires-clause-few : goal.play_on-requires-clause-few
play_on-requires-clause-few g c =
    let head = g.P.Owner.head 0 in
    let s = g.W.Sink in
    let task = c.args.task.now in
    let old = c.args.client.now.journal.events.items in
    let ran = c.run_group-end.new.client in
    let made = c.run_group-end.ensures.made in
    let fresh = c.requires.fresh.1.1.0 in
    let before : Output = record { written = s.written c.args.output.now; faults = s.faults c.args.output.now; wants = s.wants c.args.output.now } in
    let after : Output = record { written = s.written c.run_group-end.new.output; faults = s.faults c.run_group-end.new.output; wants = s.wants c.run_group-end.new.output } in
    few-polled head task.asks task.turns c.run_group-end.result old ran.journal.events.items ran.client ran.over ran.pending ran.idle ran.journal.failed before after fresh made c.in-Spent.is c.tell_polls.new.self.journal.events.items c.tell_polls.new.self.client c.tell_polls.ensures.events c.tell_polls.ensures.same.0

pub returns-clause-made : goal.returns-clause-made
returns-clause-made g c =
    let head = g.P.Owner.head 0 in
    let s = g.W.Sink in
    let task = c.args.task.now in
    let old = c.args.client.now.journal.events.items in
    let ran = c.run_group-end.new.client in
    let made = c.run_group-end.ensures.made in
    let fresh = c.requires.fresh.1.1.0 in
    let before : Output = record { written = s.written c.args.output.now; faults = s.faults c.args.output.now; wants = s.wants c.args.output.now } in
    let after : Output = record { written = s.written c.run_group-end.new.output; faults = s.faults c.run_group-end.new.output; wants = s.wants c.run_group-end.new.output } in
    let last = c.play_on.new.client in
    let written : Output = record { written = s.written c.play_on.new.output; faults = s.faults c.play_on.new.output; wants = s.wants c.play_on.new.output } in
    subst (λ (end : CourseEnd). CourseMade head task.asks task.turns end last.client last.journal.events.items before written) (sym c.course_of.ensures)
    (course-played head task.asks task.turns c.run_group-end.result old ran.journal.events.items ran.client ran.over ran.pending ran.idle ran.journal.failed before after fresh made c.in-Spent.is c.tell_polls.new.self.journal.events.items c.tell_polls.new.self.client c.tell_polls.ensures.events c.tell_polls.ensures.same.0
    c.play_on.result last.journal.events.items last.client last.over last.pending last.journal.failed written c.play_on.ensures.made)

pub returns-clause-going : goal.returns-clause-going
returns-clause-going g c = λ fine. (c.play_on.ensures.made.going (sym (cut-off-of c.play_on.result) ∙ ap is_cut_off (sym c.course_of.ensures) ∙ fine)).0

pub returns-clause-trail : goal.returns-clause-trail
returns-clause-trail g c = λ is. c.play_on.ensures.made.trail (given-up-of c.play_on.result faults.Trail (sym c.course_of.ensures ∙ is))

pub returns-then-not-are_whole-clause-going : goal.returns-then-not-are_whole-clause-going
returns-then-not-are_whole-clause-going g c = λ _. gone-well c.tell_polls.result c.is_err.result c.is_err.ensures.value c.if-is_err.false c.tell_polls.ensures.ok

pub play_on-requires-clause-whole : goal.play_on-requires-clause-whole
play_on-requires-clause-whole g c = gone-well c.tell_polls.result c.is_err.result c.is_err.ensures.value c.if-is_err.false c.tell_polls.ensures.ok

pub play_on-requires-clause-played : goal.play_on-requires-clause-played
play_on-requires-clause-played g c = c.tell_polls.ensures.same.1.0 ∙ (c.run_group-end.ensures.made.going (ap gave_up c.in-Spent.is)).1
