use Rattle.std.proofs.Common.{refl}
use Rattle.node_endings.specs.declared.ending.LoopEnd.TheVariants.{Over}
use Rattle.group_threads.specs.declared.desk.MemberEnds.{MemberEnds}
use Rattle.group_parties.proofs.Desking.{worked-first}
use Rattle.group_parties.proofs.Manned.{manned-first}
use Rattle.group_parties.proofs.seating.seat_member.Goals as goal

pub returns-in-Ok-clause-manned : goal.returns-in-Ok-clause-manned
returns-in-Ok-clause-manned g c =
    let d = g.D.Disk in
    let p = g.P.GroupLife in
    let m = c.args.station.member in
    let e = c.desk_for.ensures in
    λ origin opens. manned-first d.told d.remembers d.cells d.moment d.left_since g.S.Service.meaning origin (p.lane m) (p.opening m) (p.restored m) c.args.station.store c.desk_for.result opens e.as_opened e.untaken e.ready

pub returns-in-Ok-clause-worked : goal.returns-in-Ok-clause-worked
returns-in-Ok-clause-worked g c =
    let ends : MemberEnds = record { delivered = Over; sent = Over; logged = Over; checked = Over } in
    worked-first g.D.Disk.faults g.D.Disk.told c.args.station.store ends c.desk_for.result c.desk_for.ensures.as_opened refl
