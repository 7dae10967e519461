use Rattle.std.proofs.Common.{subst, None}
use Rattle.disk_model.specs.Cells.{IsImage}
use Rattle.checkpoint_store.specs.Slots.{is_odd, by_gate}
use Rattle.checkpoint_store.specs.Stores.{slot}
use Rattle.checkpoint_store.proofs.Resting.{idle_settled, idle_gate}
use Rattle.checkpoint_store.proofs.Runs.{begins}
use Rattle.checkpoint_store.proofs.Whole.{closed_leaves}
use Rattle.checkpoint_store.proofs.store.CheckpointStore.close_slot.Goals as goal

pub returns-in_err-close_start-clause-any_moment : goal.returns-in_err-close_start-clause-any_moment
returns-in_err-close_start-clause-any_moment g c = λ told remembers next has other s.
    let odd = is_odd c.args.generation in
    let own = slot c.args.generation c.args.self.now in
    rw (c.close_start.ensures.device)
    (begins g.D.Disk.moment g.D.Disk.left_since g.D.Disk.cells odd own.device None (by_gate odd (g.D.Disk.cells own.device).now)
    (idle_gate odd (g.D.Disk.cells own.device) (idle_settled odd (g.D.Disk.cells own.device) own.job next has other c.requires.idle s)) (g.met.D.Disk.only_now remembers own.device))

pub returns-in_err-close_start-clause-crash : goal.returns-in_err-close_start-clause-crash
returns-in_err-close_start-clause-crash g c = λ told next has other s image is.
    let odd = is_odd c.args.generation in
    let own = slot c.args.generation c.args.self.now in
    idle_gate odd (g.D.Disk.cells own.device) (idle_settled odd (g.D.Disk.cells own.device) own.job next has other c.requires.idle s) image
    (subst (λ (d : _). IsImage (g.D.Disk.cells d) image) c.close_start.ensures.device is)

pub returns-in_err-run-clause-crash : goal.returns-in_err-run-clause-crash
returns-in_err-run-clause-crash g c = λ told next has other s.
    let odd = is_odd c.args.generation in
    let e = c.in_ok-close_start.ensures in
    let gate = by_gate odd (g.D.Disk.cells (slot c.args.generation c.args.self.now).device).now in
    closed_leaves odd (g.D.Disk.cells (slot c.args.generation c.run.new.self).device) (slot c.args.generation c.close_start.new.self).job next gate e.job
    (c.run.ensures.crash told next None gate (e.ok told next has other s))
