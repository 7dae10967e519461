use Rattle.std.proofs.Common.{◌≡◌, ◌≤◌, Option}
use Rattle.disk_model.specs.Calls.{LeavesOnly}
use Rattle.store_form.specs.declared.checkpoint.Checkpoint.{Checkpoint}
use Rattle.store_form.specs.declared.ends.State.TheVariants.{Open}
use Rattle.checkpoint_store.specs.Slots.{is_odd}
use Rattle.checkpoint_store.specs.Stores.{slot, beside, StandsAt, UnderWayAt}
use Rattle.checkpoint_store.specs.SlotJobs.{Leaves, slot_stake, end_of, calls_left}
use Rattle.checkpoint_store.proofs.Runs.{Reaches}
use Rattle.checkpoint_store.proofs.store.CheckpointStore.run.Given as goal

abbrev pub invariant-loop-self : goal.invariant-loop-self
invariant-loop-self g l = record {
  is_open : l.self.state ≡ Open;
  ends : end_of (slot l.generation l.self).job ≡ end_of (slot l.generation l.fn.self).job;
  underway : g.D.Disk.told → UnderWayAt g.D.Disk.cells l.generation l.self;
  stands : g.D.Disk.told → (next : Checkpoint) (has other : Option Checkpoint) → StandsAt g.D.Disk.cells l.generation l.fn.self next has other
      → Reaches (is_odd l.generation) (g.D.Disk.cells (slot l.generation l.self).device) (slot l.generation l.fn.self).job (slot l.generation l.self).job next has other;
  moments : g.D.Disk.told → g.D.Disk.remembers → (next : Checkpoint) (has other : Option Checkpoint) → StandsAt g.D.Disk.cells l.generation l.fn.self next has other
      → LeavesOnly g.D.Disk.moment g.D.Disk.left_since (slot l.generation l.fn.self).device (slot l.generation l.self).device (Leaves (is_odd l.generation) has (slot_stake (slot l.generation l.fn.self).job next other));
  apart : beside l.generation l.self ≡ beside l.generation l.fn.self;
  later : g.D.Disk.faults (slot l.generation l.fn.self).device ≤ g.D.Disk.faults (slot l.generation l.self).device;
  wants : g.D.Disk.wants (slot l.generation l.fn.self).device ≤ g.D.Disk.wants (slot l.generation l.self).device;
}

abbrev pub decreases-loop-self : goal.decreases-loop-self
decreases-loop-self g l = calls_left (slot l.generation l.self).job
