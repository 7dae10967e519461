-- A store that does not switch, and the list of all entries that it restored or was given: its book.
use Rattle.std.specs.Prelude.{◌≡◌, ◌⊎◌, ℕ, List, [], ◌∷◌, ◌++◌, Option, None}
use Rattle.store_form.specs.declared.checkpoint.Checkpoint.{Checkpoint}
use Rattle.store_laws.specs.Restored.{with}
use Rattle.store_laws.specs.States.{StoreState}
use Rattle.store_laws.specs.Stands.{Aim}
use Rattle.store_laws.specs.declared.job.Kept.{Kept}
use Rattle.store_laws.specs.declared.job.Ending.{Ending}
use Rattle.store_laws.specs.declared.job.Ending.TheVariants.{Closes, Repairs, Adds, Switches}
use Rattle.store_laws.specs.declared.job.StoreCall.{StoreCall}
use Rattle.store_laws.specs.declared.job.StoreCall.TheVariants.{On, WriteTail}

-- calls that write no tail
abbrev pub NoTail : List StoreCall → Type 0
NoTail [] = Unit {0}
NoTail (On device call ∷ left) = NoTail left
NoTail (WriteTail ∷ left) = ⊥

-- what a job with this end, which adds these entries, makes of the pair
abbrev pub GrownBy : Ending → List (List ℕ) → Aim → Type 0
GrownBy (Closes odd) adding a = (adding ≡ []) × (a.then ≡ a.kept)
GrownBy Repairs adding a = (adding ≡ []) × (a.then ≡ a.kept)
GrownBy (Adds end) adding a = (a.then ≡ with a.kept adding) × ((a.gated ≡ with a.kept adding) × ((a.stake ≡ a.kept) ⊎ (a.stake ≡ with a.kept adding)))
GrownBy (Switches end last) adding a = ⊥

abbrev pub Grown : List StoreCall → Ending → List (List ℕ) → Aim → Type 0
Grown [] ending adding a = adding ≡ []
Grown (call ∷ left) ending adding a = GrownBy ending adding a

-- A store whose running job still makes these calls. What it keeps, the entries of the running group and those that wait are the book.
pub record BooksBy (calls : List StoreCall) (book : List (List ℕ)) (present : Option Checkpoint) (s : StoreState) (a : Aim) : Type 0 where
  pub present_is : a.kept.present ≡ present
  pub all : a.kept.entries ++ (s.adding ++ s.waiting) ≡ book
  pub calm : s.asked ≡ None
  pub plain : NoTail calls
  pub grown : Grown calls s.ending s.adding a

abbrev pub Books : List (List ℕ) → Option Checkpoint → StoreState → Aim → Type 0
Books book present s a = BooksBy s.running book present s a

-- a front of the book
pub record IsFront (book : List (List ℕ)) (present : Option Checkpoint) (x : Kept) : Type 0 where
  pub rest : List (List ℕ)
  pub is : with x rest ≡ record { present = present; entries = book }
