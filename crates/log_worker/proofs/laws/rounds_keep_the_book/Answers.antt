use Rattle.log_worker.proofs.Booked.{rounds_hold, switch_holds}
use Rattle.log_worker.proofs.laws.rounds_keep_the_book.Goals as goal

pub returns-clause-taken : goal.returns-clause-taken
returns-clause-taken g c = λ restored present stake gone n a taken now old new told holds rounds.
    rounds_hold g.D.Disk.told g.D.Disk.remembers g.D.Disk.cells g.D.Disk.moment g.D.Disk.left_since g.E.Stops.stops present stake gone restored n a taken now old new told holds rounds

pub returns-clause-switched : goal.returns-clause-switched
returns-clause-switched g c = switch_holds g.D.Disk.told g.D.Disk.remembers g.D.Disk.cells g.D.Disk.moment g.D.Disk.left_since g.E.Stops.stops
