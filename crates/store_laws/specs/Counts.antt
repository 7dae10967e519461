-- The number of firm entries, beside what a store stands for.
use Rattle.std.specs.Prelude.{◌≡◌, ◌≤◌, ◌<◌, ◌⊎◌, ◌+◌, ◌-◌, ℕ, List, [], ◌∷◌, length}
use Rattle.checkpoint_store.specs.Slots.{generation_of}
use Rattle.store_laws.specs.Restored.{with}
use Rattle.store_laws.specs.States.{StoreState}
use Rattle.store_laws.specs.Stands.{Aim}
use Rattle.store_laws.specs.declared.job.Kept.{Kept}
use Rattle.store_laws.specs.declared.job.Ending.{Ending}
use Rattle.store_laws.specs.declared.job.Ending.TheVariants.{Closes, Repairs, Adds, Switches}
use Rattle.store_laws.specs.declared.job.StoreCall.{StoreCall}
use Rattle.store_laws.specs.declared.job.StoreCall.TheVariants.{On, WriteTail}

-- a later generation, or the same checkpoint and first the same entries
abbrev pub Beyond : Kept → Kept → Type 0
Beyond kept other = (generation_of kept.present < generation_of other.present) ⊎ ((more : List (List ℕ)) × (other ≡ with kept more))

-- This has the checkpoint of what is kept, and first all entries that are kept. They are at least as many as are firm, but for those that are
-- gone.
pub record BeginsWith (kept : Kept) (gone firm : ℕ) (x : Kept) : Type 0 where
  pub more : List (List ℕ)
  pub is : x ≡ with kept more
  pub most : firm ≤ gone + length kept.entries

-- the calls that are left write no tail, or the generation that they switch to is a later one
abbrev pub IsLater : List StoreCall → ℕ → ℕ → Type 0
IsLater [] present next = Unit {0}
IsLater (On device call ∷ left) present next = IsLater left present next
IsLater (WriteTail ∷ left) present next = present < next

-- the number of entries that are kept after a job with this end, of the number that is kept before
abbrev pub Adding : Ending → ℕ → ℕ → ℕ → Type 0
Adding (Closes odd) added kept then = then ≡ kept
Adding Repairs added kept then = then ≡ kept
Adding (Adds end) added kept then = then ≡ kept + added
Adding (Switches end last) added kept then = Unit {0}

abbrev pub Grows : List StoreCall → Ending → ℕ → ℕ → ℕ → Type 0
Grows [] ending added kept then = Unit {0}
Grows (call ∷ left) ending added kept then = Adding ending added kept then

-- A store whose running job still makes these calls. `gone` is the number of firm entries that the present log no longer has. The store keeps
-- at least as many entries as the others that are firm. Which entries these are says the book. What may be restored instead is a later
-- generation, or begins with all that is kept.
pub record CountsBy (calls : List StoreCall) (gone : ℕ) (s : StoreState) (a : Aim) : Type 0 where
  pub most : s.firm ≤ gone + length a.kept.entries
  pub stake : Beyond a.kept a.stake
  pub gated : Beyond a.kept a.gated
  pub later : IsLater calls (generation_of a.kept.present) a.next.generation
  pub grows : Grows calls s.ending (length s.adding) (length a.kept.entries) (length a.then.entries)

abbrev pub Counts : ℕ → StoreState → Aim → Type 0
Counts gone s a = CountsBy s.running gone s a

-- the number of firm entries that a log of this length does not have, after a job with this end
abbrev pub gone_by : Ending → ℕ → ℕ → ℕ → ℕ
gone_by (Closes odd) firm kept gone = gone
gone_by Repairs firm kept gone = gone
gone_by (Adds end) firm kept gone = gone
gone_by (Switches end last) firm kept gone = firm - kept

-- the same after a call, if these calls are left
abbrev pub gone_after : List StoreCall → StoreState → Aim → ℕ → ℕ
gone_after [] s a gone = gone_by s.ending s.firm (length a.kept.entries) gone
gone_after (call ∷ left) s a gone = gone
