use Rattle.std.proofs.Common.{◌≡◌, ◌≤◌, ◌+◌, length}
use Rattle.store_form.specs.declared.ends.State.TheVariants.{Open}
use Rattle.store_laws.specs.Firm.{GroupAdds}
use Rattle.store_laws.specs.States.{Devices, greatest}
use Rattle.store_plan.specs.Plans.{state_with}
use Rattle.store_plan.proofs.Due.{nowhere}
use Rattle.durable_store.specs.Disks.{NoneFell}
use Rattle.durable_store.specs.Stores.{state_of, Stands}
use Rattle.durable_store.specs.Runs.{IsUnasked}
use Rattle.durable_store.proofs.Runs.{Going}
use Rattle.durable_store.proofs.Held.{Held}
use Rattle.durable_store.proofs.Counted.{Counted}
use Rattle.durable_store.proofs.Weighs.{weight}
use Rattle.durable_store.proofs.store.Store.finish.Given as goal

abbrev pub invariant-loop-alloc : goal.invariant-loop-alloc
invariant-loop-alloc g l = record {
  is_open : l.self.state ≡ Open;
  run : Going g.D.Disk.told g.D.Disk.remembers g.D.Disk.cells g.D.Disk.moment g.D.Disk.left_since g.E.Stops.stops l.tail (λ d. state_with l.fn.self.plan d) l.fn.self.disks l.self;
  stands : g.D.Disk.told → Stands (state_of g.D.Disk.cells l.self);
  held : (d : Devices) → IsUnasked (state_with l.fn.self.plan d) → Held g.E.Stops.stops l.fn.self.plan.waiting (state_with l.self.plan d);
  counted : (d : Devices) → IsUnasked (state_with l.fn.self.plan d) → GroupAdds (state_with l.fn.self.plan d) → Counted l.fn.self.plan.waiting (l.fn.self.plan.firm + length l.fn.self.plan.adding) (state_with l.self.plan d);
  small : l.fn.self.plan.firm ≤ greatest → l.self.plan.firm ≤ greatest;
  falls : NoneFell g.D.Disk.faults l.fn.self.disks l.self.disks;
  wants : NoneFell g.D.Disk.wants l.fn.self.disks l.self.disks;
}

abbrev pub decreases-loop-alloc : goal.decreases-loop-alloc
decreases-loop-alloc g l = weight (state_with l.self.plan nowhere)
