use Rattle.std.proofs.Common.{[], false, true}
use Rattle.store_form.specs.declared.checkpoint.Checkpoint.{Checkpoint}
use Rattle.checkpoint_store.specs.Slots.{slot_of, instead_of}
use Rattle.checkpoint_store.proofs.reopening.reopen.Goals as goal

pub returns-in-Ok-clause-underway : goal.returns-in-Ok-clause-underway
returns-in-Ok-clause-underway g c = λ told.
    let any : Checkpoint = record { generation = 0; snapshot = [] } in
    let e = c.in-Ok.ensures in (
      record { next = any; has = slot_of false (g.D.Disk.cells c.args.even).now; other = instead_of false (g.D.Disk.cells c.args.even).now; stands = e.even told any },
      record { next = any; has = slot_of true (g.D.Disk.cells c.args.odd).now; other = instead_of true (g.D.Disk.cells c.args.odd).now; stands = e.odd told any },
    )
