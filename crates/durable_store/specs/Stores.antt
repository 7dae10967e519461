-- The state of a store.
use Rattle.std.specs.Prelude.{◌≡◌, ℕ, ◌+◌, ◌<◌, ◌^◌, length}
use Rattle.disk_model.specs.Cells.{Cells}
use Rattle.store_laws.specs.States.{StoreState, given, asked}
use Rattle.store_laws.specs.Stands.{Aim, StoreStands}
use Rattle.store_plan.specs.Fit.{AreEntries}
use Rattle.store_plan.specs.Plans.{state_with}
use Rattle.durable_store.specs.Disks.{cells_of}
use Rattle.durable_store.specs.declared.store.Job.{Job}
use Rattle.durable_store.specs.declared.store.Job.TheVariants.{Append, Switch}
use Rattle.durable_store.specs.declared.store.Store.{Store}

abbrev pub state_of : {D : Type 0} → (D → Cells) → Store D → StoreState
state_of cells s = state_with s.plan (cells_of cells s.disks)

-- a store that its own calls, or its opening, have left
abbrev pub Stands : StoreState → Type 0
Stands s = (a : Aim) × StoreStands s a

-- a task of which the bytes fit, and whose generation is the next one
abbrev pub JobFits : Job → ℕ → Type 0
JobFits (Append entries) generation = AreEntries entries
JobFits (Switch next snapshot) generation = (length snapshot < 2 ^ 32) × (next ≡ generation + 1)

-- the store after it was given a task
abbrev pub started : Job → StoreState → StoreState
started (Append entries) s = given entries s
started (Switch next snapshot) s = asked snapshot s
