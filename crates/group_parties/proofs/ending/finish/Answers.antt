use Rattle.std.proofs.Common.{◌∙◌, sym, subst}
use Rattle.durable_store.specs.Disks.{DiskRose, NoneFell}
use Rattle.log_lane.specs.Lane.{lane_taken}
use Rattle.group_parties.specs.Manned.{HasDesk, HasWorked, IsSince}
use Rattle.group_parties.proofs.ending.finish.Goals as goal

pub returns-clause-lived : goal.returns-clause-lived
returns-clause-lived g c = λ origin held.
    let d = g.D.Disk in
    let p = g.P.GroupLife in
    let member = c.args.runner.member in
    c.take_apart.ensures.lived origin (subst (λ desk. HasDesk d.told d.remembers d.cells d.moment d.left_since g.S.Service.meaning origin (p.lane member) (p.opening member) (p.restored member) desk) c.in-Some.is held)

pub returns-clause-since : goal.returns-clause-since
returns-clause-since g c = λ origin held.
    let d = g.D.Disk in
    let p = g.P.GroupLife in
    let m = g.S.Service.meaning in
    let member = c.args.runner.member in
    let desk = c.in-Some.desk in
    let manned = subst (λ x. HasDesk d.told d.remembers d.cells d.moment d.left_since m origin (p.lane member) (p.opening member) (p.restored member) x) c.in-Some.is held in
    (desk.faulty, (lane_taken desk.lane, subst (λ store. IsSince d.told d.remembers d.cells d.moment d.left_since m origin (p.opening member) (p.restored member) desk.faulty (lane_taken desk.lane) store) (sym c.take_apart.ensures.member.1.0) manned.since))

pub returns-clause-devices : goal.returns-clause-devices
returns-clause-devices g c = λ begun worked.
    let counts = g.D.Disk.faults in
    let ends = c.args.runner.ends in
    let left = c.take_apart.ensures.member.1 in
    let had = subst (λ desk. HasWorked counts begun ends desk) c.in-Some.is worked in (
      subst (λ store. NoneFell counts begun store.disks) (sym left.0) had.0,
      λ worn. subst (λ store. DiskRose counts begun store.disks) (sym left.0) (had.1.rose (c.has_failed.ensures (sym left.1 ∙ worn))),
    )
