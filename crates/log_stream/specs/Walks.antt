-- A walk over the entries of a group, which reads each entry's length alone.
use Rattle.std.specs.Prelude.{◌≡◌, ◌+◌, ◌-◌, ℕ, Bool, true, false, List, ◌++◌, length, take, drop, Option, Some, None, Result, Err}
use Rattle.std.specs.Int.{w32}
use Rattle.std.specs.List.{flat_map}
use Rattle.smart_base.specs.Lists.{Each}
use Rattle.smart_base.specs.Cuts.{whole, times_at}
use Rattle.smart_base.specs.Spelling.{behind}
use Rattle.store_form.specs.Spelling.{Group, group_text, IsEntry, IsGroup}
use Rattle.store_form.specs.Reading.{all_of, entry_at, group_at}
use Rattle.batch_log.specs.Log.{found}

-- the bytes of entries, each after its length
abbrev pub texts : Group → List ℕ
texts g = flat_map (λ entry. behind w32 entry) g

-- so many entries, which stand from one index up to another
pub record Entries (bytes : List ℕ) (from to count : ℕ) : Type 0 where
  pub group : Group
  pub each : Each IsEntry group
  pub many : length group ≡ count
  pub are : drop from bytes ≡ texts group ++ drop to bytes
  pub goes_to : to ≡ from + length (texts group)

-- a reading that fails, wherever its bytes begin
abbrev pub IsFault : {A : Type 0} → Result A ℕ → Type 0
IsFault r = (e : ℕ) × (r ≡ Err e)

-- what a walk says: the bytes from one index up to another are so many entries, or they cannot be read so
abbrev pub Walked : List ℕ → ℕ → ℕ → ℕ → Bool → Type 0
Walked bytes start to count true = Entries bytes start to count
Walked bytes start to count false = (a : ℕ) → IsFault (whole (times_at entry_at count) (record { at = a; left = take (to - start) (drop start bytes) }))

-- a whole group after the gate at an index: the number of its entries, and the index at which it ends
pub record Whole (bytes : List ℕ) (gate count to : ℕ) : Type 0 where
  pub group : Group
  pub fits : IsGroup group
  pub many : length group ≡ count
  pub are : drop (gate + 1) bytes ≡ group_text group ++ drop to bytes
  pub entries : drop (gate + 17) bytes ≡ texts group ++ drop to bytes
  pub goes_to : to ≡ gate + 1 + length (group_text group)

-- what is found after the gate at an index: a whole group, or none
abbrev pub GroupFound : List ℕ → ℕ → Option (ℕ × ℕ) → Type 0
GroupFound bytes gate (Some x) = Whole bytes gate x.0 x.1
GroupFound bytes gate None = found (group_at (all_of (drop (gate + 1) bytes))) ≡ None
