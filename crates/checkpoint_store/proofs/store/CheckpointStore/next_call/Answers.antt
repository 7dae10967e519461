use Rattle.std.proofs.Common.{subst, sym}
use Rattle.checkpoint_store.specs.Slots.{is_odd}
use Rattle.checkpoint_store.specs.Stores.{slot}
use Rattle.checkpoint_store.specs.SlotJobs.{SlotLeaves, slot_stake}
use Rattle.checkpoint_store.proofs.Phases.{stakes}
use Rattle.checkpoint_store.proofs.Runs.{made_leaves, same_devices}
use Rattle.checkpoint_store.proofs.store.CheckpointStore.next_call.Goals as goal

pub returns-in_err-check-clause-crash : goal.returns-in_err-check-clause-crash
returns-in_err-check-clause-crash g c = λ told next has other s.
    stakes (is_odd c.args.generation) (g.D.Disk.cells (slot c.args.generation c.args.self.now).device) (slot c.args.generation c.args.self.now).job next has other s

pub returns-in-Ok-clause-crash : goal.returns-in-Ok-clause-crash
returns-in-Ok-clause-crash g c = λ told next has other s.
    made_leaves (is_odd c.args.generation) (g.D.Disk.cells (slot c.args.generation c.args.self.now).device) (g.D.Disk.cells (slot c.args.generation c.call.new.self).device)
    (slot c.args.generation c.args.self.now).job next has other (c.call.ensures.torn told) s

pub returns-in-Err-clause-crash : goal.returns-in-Err-clause-crash
returns-in-Err-clause-crash g c = λ told next has other s.
    subst (λ (d : _). SlotLeaves (is_odd c.args.generation) (g.D.Disk.cells d) has (slot_stake (slot c.args.generation c.args.self.now).job next other))
    (sym (same_devices c.args.generation c.closed_by.new.self c.call.new.self c.closed_by.ensures.even c.closed_by.ensures.odd))
    (made_leaves (is_odd c.args.generation) (g.D.Disk.cells (slot c.args.generation c.args.self.now).device) (g.D.Disk.cells (slot c.args.generation c.call.new.self).device)
    (slot c.args.generation c.args.self.now).job next has other (c.call.ensures.torn told) s)
