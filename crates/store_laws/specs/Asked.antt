-- The snapshots of a store: that of the switch that waits, that of the running switch, and those of the checkpoints that a crash may restore.
use Rattle.std.specs.Prelude.{◌≡◌, ◌⊎◌, ℕ, List, [], ◌∷◌, IfSome}
use Rattle.store_form.specs.declared.checkpoint.Checkpoint.{Checkpoint}
use Rattle.store_laws.specs.States.{StoreState}
use Rattle.store_laws.specs.Stands.{Aim}
use Rattle.store_laws.specs.declared.job.Kept.{Kept}
use Rattle.store_laws.specs.declared.job.Ending.{Ending}
use Rattle.store_laws.specs.declared.job.Ending.TheVariants.{Closes, Repairs, Adds, Switches}
use Rattle.store_laws.specs.declared.job.StoreCall.{StoreCall}

-- one of these snapshots
abbrev pub IsOneOf : List (List ℕ) → List ℕ → Type 0
IsOneOf [] snapshot = ⊥
IsOneOf (one ∷ more) snapshot = (snapshot ≡ one) ⊎ IsOneOf more snapshot

-- the checkpoint of what is kept, if it has one, holds a snapshot with this property
abbrev pub Snapshot : (List ℕ → Type 0) → Kept → Type 0
Snapshot P kept = IfSome kept.present (λ (x : Checkpoint). P x.snapshot)

-- the checkpoint of a job that switches
abbrev pub NextBy : (List ℕ → Type 0) → Ending → Checkpoint → Type 0
NextBy P (Closes odd) next = Unit {0}
NextBy P Repairs next = Unit {0}
NextBy P (Adds end) next = Unit {0}
NextBy P (Switches end last) next = P next.snapshot

-- the same of a job that still makes these calls
abbrev pub NextIn : (List ℕ → Type 0) → List StoreCall → Ending → Checkpoint → Type 0
NextIn P [] ending next = Unit {0}
NextIn P (call ∷ left) ending next = NextBy P ending next

-- A store of which each snapshot has this property.
pub record Snapshots (P : List ℕ → Type 0) (s : StoreState) (a : Aim) : Type 0 where
  pub asked : IfSome s.asked P
  pub next : NextIn P s.running s.ending a.next
  pub kept : Snapshot P a.kept
  pub stake : Snapshot P a.stake
  pub gated : Snapshot P a.gated
  pub then : Snapshot P a.then
