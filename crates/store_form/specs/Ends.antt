-- The end of a call of a log, and whether the log takes calls after it.
use Rattle.std.specs.Prelude.{◌≡◌, true, false, Result, Ok, Err}
use Rattle.store_form.specs.declared.ends.LogFault.{LogFault}
use Rattle.store_form.specs.declared.ends.LogFault.TheVariants.{Disk, NoMemory as no_memory}
use Rattle.store_form.specs.declared.ends.State.{State}
use Rattle.store_form.specs.declared.ends.State.TheVariants.{Open, Failed, NoMemory}

-- A log's state after a call. A failure of the disk closes it, and so does want of memory inside a device call. A closed log stays closed,
-- and answers what closed it.
abbrev pub Closes : {T : Type 0} → Result T LogFault → State → State → Type 0
Closes (Ok x) old new = (old ≡ Open) × (new ≡ Open)
Closes (Err (Disk true)) old new = (old ≡ Failed) × (new ≡ Failed)
Closes (Err (Disk false)) old new = (old ≡ Open) × (new ≡ Failed)
Closes (Err no_memory) old new = (old ≡ Failed → ⊥) × ((new ≡ Failed → ⊥) × (old ≡ NoMemory → new ≡ NoMemory))
