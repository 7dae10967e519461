use Rattle.std.proofs.Common.{◌≡◌, ◌≤◌, ◌++◌, ◌∷◌, [], List}
use Rattle.disk_model.specs.Calls.{LeavesOnly}
use Rattle.store_form.specs.Spelling.{Group}
use Rattle.batch_log.specs.Log.{restored}
use Rattle.batch_log.specs.Jobs.{IsUnderWay, Stands, Runs, Adds, OneOf, code}
use Rattle.store_form.specs.declared.ends.State.TheVariants.{Open}
use Rattle.batch_log.proofs.log.BatchLog.append_group.Given as goal

abbrev pub invariant-loop-self : goal.invariant-loop-self
invariant-loop-self g l = record {
  was_open : l.fn.self.state ≡ Open;
  is_open : l.self.state ≡ Open;
  adds : Adds l.self.job;
  underway : g.D.Disk.told → IsUnderWay (g.D.Disk.cells l.self.device) l.self.end l.self.job;
  runs : g.D.Disk.told → (gs other : List Group) → Stands (g.D.Disk.cells l.fn.self.device) l.fn.self.end l.fn.self.job l.entries gs other
      → Runs (g.D.Disk.cells l.self.device) l.self.end l.self.job l.entries gs other;
  moments : g.D.Disk.told → g.D.Disk.remembers → (gs other : List Group) → Stands (g.D.Disk.cells l.fn.self.device) l.fn.self.end l.fn.self.job l.entries gs other
      → LeavesOnly g.D.Disk.moment g.D.Disk.left_since l.fn.self.device l.self.device (λ c. OneOf (restored c) gs other (gs ++ l.entries ∷ []));
  later : g.D.Disk.faults l.fn.self.device ≤ g.D.Disk.faults l.self.device;
  wants : g.D.Disk.wants l.fn.self.device ≤ g.D.Disk.wants l.self.device;
}

abbrev pub decreases-loop-self : goal.decreases-loop-self
decreases-loop-self g l = code l.self.job
