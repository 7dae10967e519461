use Rattle.std.proofs.Common.{◌≡◌, ◌+◌}
use Rattle.store_form.specs.declared.ends.State.TheVariants.{Open}
use Rattle.store_laws.specs.States.{Devices}
use Rattle.store_plan.specs.Plans.{state_with}
use Rattle.store_plan.proofs.Due.{nowhere}
use Rattle.durable_store.specs.Disks.{NoneFell}
use Rattle.durable_store.specs.Stores.{state_of, Stands}
use Rattle.durable_store.specs.Runs.{SwitchIsOnOrDone, EndsWithSwitch}
use Rattle.durable_store.proofs.Runs.{Going}
use Rattle.durable_store.proofs.Weighs.{weight}
use Rattle.durable_store.proofs.store.Store.go_to.Given as goal

abbrev pub invariant-loop-self : goal.invariant-loop-self
invariant-loop-self g l = record {
  is_open : l.self.state ≡ Open;
  run : (x : Going g.D.Disk.told g.D.Disk.remembers g.D.Disk.cells g.D.Disk.moment g.D.Disk.left_since g.E.Stops.stops l.tail (λ d. state_with l.fn.self.plan d) l.fn.self.disks l.self)
      × (l.self.plan.generation ≡ l.fn.self.plan.generation + 1 → (d : Devices) → EndsWithSwitch g.E.Stops.stops l.tail x.calls (state_with l.fn.self.plan d));
  stands : g.D.Disk.told → Stands (state_of g.D.Disk.cells l.self);
  comes : (d : Devices) → SwitchIsOnOrDone l.fn.self.plan.generation (state_with l.self.plan d);
  falls : NoneFell g.D.Disk.faults l.fn.self.disks l.self.disks;
  wants : NoneFell g.D.Disk.wants l.fn.self.disks l.self.disks;
}

abbrev pub decreases-loop-self : goal.decreases-loop-self
decreases-loop-self g l = weight (state_with l.self.plan nowhere)
