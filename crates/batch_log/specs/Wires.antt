-- The bytes of a log between two lives of its own, and what a gate of 1 would bring back.
use Rattle.std.specs.Prelude.{◌≡◌, ◌≢◌, ◌⊎◌, ◌≤◌, ℕ, List, [], ◌∷◌, ◌++◌, length}
use Rattle.disk_model.specs.Cells.{Cells, IsImage}
use Rattle.store_form.specs.Spelling.{Group, group_text, IsGroup}
use Rattle.batch_log.specs.Log.{log_bytes, AreGroups}

-- bytes that a closed gate ends
pub record Ends (bytes : List ℕ) (gs other : List Group) : Type 0 where
  pub tail : List ℕ
  pub are : bytes ≡ log_bytes gs ++ 0 ∷ tail
  pub nothing : other ≡ gs

-- bytes without a gate at their end, or with one that a crash left, and nothing after it
pub record Bare (bytes : List ℕ) (gs other : List Group) : Type 0 where
  pub rest : List ℕ
  pub are : bytes ≡ log_bytes gs ++ rest
  pub short : length rest ≤ 1
  pub nothing : other ≡ gs

-- bytes with a gate that is neither closed nor open; after it come a whole group of an earlier life and a closed gate
pub record Armed (bytes : List ℕ) (gs other : List Group) : Type 0 where
  pub gate : ℕ
  pub torn : (gate ≢ 0) × (gate ≢ 1)
  pub group : Group
  pub fits : IsGroup group
  pub tail : List ℕ
  pub are : bytes ≡ log_bytes gs ++ gate ∷ (group_text group ++ 0 ∷ tail)
  pub is : other ≡ gs ++ group ∷ []

-- bytes that restore `gs`, and that restore `other` with what a crash may make of their gate
abbrev pub Wire : List ℕ → List Group → List Group → Type 0
Wire bytes gs other = AreGroups gs × (Ends bytes gs other ⊎ (Bare bytes gs other ⊎ Armed bytes gs other))

-- what the next life keeps, and what it may restore instead: `gs` alone, `gs` and `other`, or `other` alone
abbrev pub Next : List ℕ → List Group → List Group → Type 0
Next bytes gs other = Wire bytes gs gs ⊎ (Wire bytes gs other ⊎ Wire bytes other other)

abbrev pub LeavesWire : Cells → List Group → List Group → Type 0
LeavesWire cells gs other = (image : List ℕ) → IsImage cells image → Next image gs other

-- a log whose bytes at its last sync are those of a log of its own lives
pub record Wired (cells : Cells) (gs : List Group) : Type 0 where
  pub instead : List Group
  pub wire : Wire cells.sure gs instead
