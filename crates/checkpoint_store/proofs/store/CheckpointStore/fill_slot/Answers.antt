use Rattle.std.proofs.Common.{subst, None}
use Rattle.disk_model.specs.Cells.{IsImage}
use Rattle.store_form.specs.Spelling.{checkpoint_text}
use Rattle.store_form.specs.declared.checkpoint.Checkpoint.{Checkpoint}
use Rattle.checkpoint_store.specs.Slots.{is_odd}
use Rattle.checkpoint_store.specs.Stores.{slot}
use Rattle.checkpoint_store.proofs.Phases.{leaves}
use Rattle.checkpoint_store.proofs.Resting.{closed_nothing}
use Rattle.checkpoint_store.proofs.Runs.{begins}
use Rattle.checkpoint_store.proofs.Whole.{filled_leaves}
use Rattle.checkpoint_store.proofs.store.CheckpointStore.fill_slot.Goals as goal

pub returns-in_err-fill_start-clause-any_moment : goal.returns-in_err-fill_start-clause-any_moment
returns-in_err-fill_start-clause-any_moment g c = λ told remembers next has other s.
    let odd = is_odd c.args.generation in
    let own = slot c.args.generation c.args.self.now in
    rw (c.fill_start.ensures.device)
    (begins g.D.Disk.moment g.D.Disk.left_since g.D.Disk.cells odd own.device has other (leaves odd (g.D.Disk.cells own.device) own.job next has other s) (g.met.D.Disk.only_now remembers own.device))

pub returns-in_err-fill_start-clause-crash : goal.returns-in_err-fill_start-clause-crash
returns-in_err-fill_start-clause-crash g c = λ told next has other s image is.
    let odd = is_odd c.args.generation in
    let own = slot c.args.generation c.args.self.now in
    leaves odd (g.D.Disk.cells own.device) own.job next has other s image (subst (λ (d : _). IsImage (g.D.Disk.cells d) image) c.fill_start.ensures.device is)

pub returns-in_err-run-clause-crash : goal.returns-in_err-run-clause-crash
returns-in_err-run-clause-crash g c = λ told next has other s.
    let e = c.in_ok-fill_start.ensures in
    let odd = is_odd c.args.generation in
    let own = slot c.args.generation c.args.self.now in
    let made : Checkpoint = record { generation = c.args.generation; snapshot = c.args.snapshot.now } in
    let none = closed_nothing odd (g.D.Disk.cells own.device) own.job next has other c.requires.idle s (c.requires.closed e.closes.0 told) in
    rw (none.0, none.1)
    (filled_leaves odd (g.D.Disk.cells (slot c.args.generation c.run.new.self).device) (slot c.args.generation c.fill_start.new.self).job (checkpoint_text made) made e.job
    (c.run.ensures.crash told made None None (e.ok told next has other s)))
