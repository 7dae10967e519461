-- Words on the ends of loops.
use Rattle.std.specs.Prelude.{◌≡◌, ℕ, ◌+◌, ◌-◌, ◌^◌, min, Bool, true, false, List, Option}
use Rattle.durable_store.specs.Disks.{DiskRose}
use Rattle.durable_store.specs.declared.disks.Disks.{Disks}
use Rattle.node_ends.specs.Intakes.{IsCutOff}
use Rattle.node_ends.specs.declared.intake.Intake.{Intake}
use Rattle.node_endings.specs.declared.ending.LoopEnd.{LoopEnd}
use Rattle.node_endings.specs.declared.ending.LoopEnd.TheVariants.{Done, Over, Form, Failed, NoMemory}

-- whether a loop has done all that was due
abbrev pub is_done : LoopEnd → Bool
is_done Done = true
is_done Over = false
is_done (Form n) = false
is_done Failed = false
is_done NoMemory = false

-- whether a loop ended for a fault, a frame without meaning or want of memory
abbrev pub gave_up : LoopEnd → Bool
gave_up Done = false
gave_up Over = false
gave_up (Form n) = true
gave_up Failed = true
gave_up NoMemory = true

-- whether bytes that a loop read may be lost: it was told to end, failed or wanted memory
abbrev pub loses : LoopEnd → Bool
loses Done = false
loses Over = true
loses (Form n) = false
loses Failed = true
loses NoMemory = true

-- A loop that works on a store fails only for a device whose count of failures rose.
pub record FailsByDisk {D : Type 0} (end : LoopEnd) (counts : D → ℕ) (old new : Disks D) : Type 0 where
  pub rose : end ≡ Failed → DiskRose counts old new

-- A loop that reads ends for the form of a frame only where the frame has no whole payload, and tells its number.
pub record EndsByForm (end : LoopEnd) (left : Option (List ℕ)) (intake : Intake) : Type 0 where
  pub cut : (frame : ℕ) → end ≡ Form frame → (frame ≡ min (intake.count + 1) (2 ^ 64 - 1)) × IsCutOff left intake
