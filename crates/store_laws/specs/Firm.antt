-- The number of firm entries, and the entries that are not firm yet.
use Rattle.std.specs.Prelude.{◌≡◌, ◌≤◌, ◌+◌, ◌-◌, ℕ, min, max, List, [], ◌∷◌, ◌++◌, length, take, drop}
use Rattle.store_laws.specs.States.{StoreState, greatest}
use Rattle.store_laws.specs.Books.{NoTail}
use Rattle.store_laws.specs.declared.job.Kept.{Kept}
use Rattle.store_laws.specs.declared.job.Ending.{Ending}
use Rattle.store_laws.specs.declared.job.Ending.TheVariants.{Closes, Repairs, Adds, Switches}
use Rattle.store_laws.specs.declared.job.StoreCall.{StoreCall}

-- the entries of the running group, and then those that wait
abbrev pub not_firm : StoreState → List (List ℕ)
not_firm s = s.adding ++ s.waiting

-- only a group adds entries, and a group writes no tail
abbrev pub AddsBy : Ending → List StoreCall → List (List ℕ) → Type 0
AddsBy (Closes odd) calls adding = adding ≡ []
AddsBy Repairs calls adding = adding ≡ []
AddsBy (Adds end) calls adding = NoTail calls
AddsBy (Switches end last) calls adding = adding ≡ []

-- the same of a job that still makes these calls; at rest none are added
abbrev pub AddsIn : List StoreCall → Ending → List (List ℕ) → Type 0
AddsIn [] ending adding = adding ≡ []
AddsIn (call ∷ left) ending adding = AddsBy ending (call ∷ left) adding

-- a store of which a running group alone adds entries
abbrev pub GroupAdds : StoreState → Type 0
GroupAdds s = AddsIn s.running s.ending s.adding

-- The entries are the same, and as many are firm.
pub record SameEntries (old new : StoreState) : Type 0 where
  pub adding : new.adding ≡ old.adding
  pub waiting : new.waiting ≡ old.waiting
  pub firm : new.firm ≡ old.firm

-- A job has ended that adds no entries: as many are firm, and the same wait.
pub record KeepsCount (old new : StoreState) : Type 0 where
  pub adding : new.adding ≡ []
  pub waiting : new.waiting ≡ old.waiting
  pub firm : new.firm ≡ old.firm

-- A group has ended: its entries are firm, and no others. The same wait.
pub record GroupCounts (old new : StoreState) : Type 0 where
  pub adding : new.adding ≡ []
  pub waiting : new.waiting ≡ old.waiting
  pub firm : new.firm ≡ min (old.firm + length old.adding) greatest

-- A switch has ended whose tail ends with the entry of this number, of those that were made. So many entries are firm as were before, or as
-- were restored and made up to that one. As many as became firm wait no more, the first ones.
pub record SwitchCounts (made : ℕ) (old new : StoreState) : Type 0 where
  pub adding : new.adding ≡ []
  pub waiting : new.waiting ≡ drop (new.firm - old.firm) old.waiting
  pub firm : new.firm ≡ max old.firm (min (old.restored + made) greatest)

-- A switch has ended, and this is kept now. The entries that became firm at its end are the last ones of what is kept, and the others that
-- waited still wait.
pub record KeepsWhatBecameFirm (old new : StoreState) (kept : Kept) : Type 0 where
  pub front : List (List ℕ)
  pub became : List (List ℕ)
  pub kept_is : kept.entries ≡ front ++ became
  pub became_is : became ≡ take (new.firm - old.firm) old.waiting
  pub waited : became ++ new.waiting ≡ old.waiting

-- The first of the entries that were not firm became firm. The others still are not, in their order: none is dropped.
pub record Firms (old new : StoreState) : Type 0 where
  pub became : List (List ℕ)
  pub all : became ++ not_firm new ≡ not_firm old
  pub firm : min (old.firm + length became) greatest ≤ new.firm
