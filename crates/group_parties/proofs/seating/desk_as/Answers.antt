use Rattle.group_parties.proofs.Desking.{as-opened-by, desk-ready}
use Rattle.group_parties.proofs.seating.desk_as.Goals as goal

pub returns-clause-ready : goal.returns-clause-ready
returns-clause-ready g c =
    let d = g.D.Disk in
    let n = g.M.Numbered.number in
    let w = c.new-worker in
    let s = c.desk_of.ensures.same in
    desk-ready d.told d.cells (g.P.GroupLife.lane n) (g.P.GroupLife.restored n) c.desk_of.result w.result.store w.result.faulty c.desk_of.ensures.desk s.1.0 s.1.1.0 w.ensures.whole (w.ensures.stands c.requires.opened.stands)

pub returns-clause-as_opened : goal.returns-clause-as_opened
returns-clause-as_opened g c =
    let w = c.new-worker in
    let e = w.ensures in
    as-opened-by g.D.Disk.told c.args.store w.result.store c.desk_of.result c.desk_of.ensures.same.1.0 (record { disks = e.disks; firm = e.store.0; generation = e.store.1; waiting = e.waiting.0; state = e.waiting.1; plan = e.told })
