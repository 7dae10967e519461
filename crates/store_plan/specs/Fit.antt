-- What a plan may hold.
use Rattle.std.proofs.Common.{ℕ, ◌-◌, ◌^◌, ◌<◌, List, [], ◌∷◌, length, Option, Some, None}
use Rattle.std.proofs.Props.{props}
use Rattle.smart_base.specs.Lists.{Each}
use Rattle.store_form.specs.Spelling.{IsEntry}
use Rattle.store_laws.specs.declared.job.StoreCall.{StoreCall}
use Rattle.store_laws.specs.declared.job.StoreCall.TheVariants.{On, WriteTail}
use Rattle.store_laws.specs.declared.job.Ending.{Ending}
use Rattle.store_laws.specs.declared.job.Ending.TheVariants.{Closes, Repairs, Adds, Switches}

abbrev pub AreEntries : List (List ℕ) → Type 0
AreEntries entries = Each IsEntry entries

pub entries_prop : (entries : List (List ℕ)) → IsProp (AreEntries entries)
entries_prop [] = hlevel props
entries_prop (entry ∷ entries) =
    let first : IsProp (length entry < 2 ^ 32) = hlevel props in
    let rest = entries_prop entries in
    hlevel (props, first, rest)

-- a snapshot that fits a slot, if a switch waits
abbrev pub AskedFits : Option (List ℕ) → Type 0
AskedFits None = Unit {0}
AskedFits (Some snapshot) = length snapshot < 2 ^ 32

pub asked_prop : (asked : Option (List ℕ)) → IsProp (AskedFits asked)
asked_prop None = hlevel props
asked_prop (Some snapshot) = hlevel props

-- the end of a job: the groups end below 2^63, and the generation is a number of 64 bits
abbrev pub EndsBy : Ending → ℕ → Type 0
EndsBy (Closes odd) generation = Unit {0}
EndsBy Repairs generation = Unit {0}
EndsBy (Adds end) generation = end < 2 ^ 63
EndsBy (Switches end made) generation = (end < 2 ^ 63) × (generation < 2 ^ 64 - 1)

-- calls that write a tail only where there is a next generation
abbrev pub HasNext : List StoreCall → ℕ → Type 0
HasNext [] generation = Unit {0}
HasNext (On device call ∷ left) generation = HasNext left generation
HasNext (WriteTail ∷ left) generation = (generation < 2 ^ 64 - 1) × HasNext left generation

-- a running job that can be ended
abbrev pub CanEnd : List StoreCall → Ending → ℕ → Type 0
CanEnd [] ending generation = Unit {0}
CanEnd (call ∷ left) ending generation = EndsBy ending generation × HasNext (call ∷ left) generation

end_prop : (ending : Ending) (generation : ℕ) → IsProp (EndsBy ending generation)
end_prop (Closes odd) generation = hlevel props
end_prop Repairs generation = hlevel props
end_prop (Adds end) generation = hlevel props
end_prop (Switches end made) generation = hlevel props

next_prop : (calls : List StoreCall) (generation : ℕ) → IsProp (HasNext calls generation)
next_prop [] generation = hlevel props
next_prop (On device call ∷ left) generation = next_prop left generation
next_prop (WriteTail ∷ left) generation =
    let rest = next_prop left generation in
    hlevel (props, rest)

pub ends_prop : (calls : List StoreCall) (ending : Ending) (generation : ℕ) → IsProp (CanEnd calls ending generation)
ends_prop [] ending generation = hlevel props
ends_prop (call ∷ left) ending generation =
    let end = end_prop ending generation in
    let next = next_prop (call ∷ left) generation in
    hlevel (props, end, next)
