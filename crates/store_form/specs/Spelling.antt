-- The bytes of groups of entries and of checkpoints; each has one spelling.
use Rattle.std.specs.Prelude.{ℕ, ◌<◌, ◌^◌, List, ◌++◌, length}
use Rattle.std.specs.Int.{w32, w64}
use Rattle.std.specs.List.{flat_map}
use Rattle.smart_base.specs.Lists.{Each}
use Rattle.smart_base.specs.Spelling.{u64, behind}
use Rattle.store_form.specs.declared.checkpoint.Checkpoint.{Checkpoint}

-- a group: entries that become firm together
abbrev pub Group : Type 0
Group = List (List ℕ)

-- the number of entries, and each entry after its length
unfoldable pub payload : Group → List ℕ
payload g = u64 (length g) ++ flat_map (λ entry. behind w32 entry) g

-- the bytes after the gate of a group
unfoldable pub group_text : Group → List ℕ
group_text g = behind w64 (payload g)

-- an entry that has a spelling
abbrev pub IsEntry : List ℕ → Type 0
IsEntry entry = length entry < 2 ^ 32

pub record IsGroup (g : Group) : Type 0 where
  pub few : length g < 2 ^ 64
  pub each : Each IsEntry g
  pub small : length (payload g) < 2 ^ 64

-- the bytes after the gate of a slot
unfoldable pub checkpoint_text : Checkpoint → List ℕ
checkpoint_text p = u64 p.generation ++ behind w32 p.snapshot

pub record IsCheckpoint (p : Checkpoint) : Type 0 where
  pub number : p.generation < 2 ^ 64
  pub small : length p.snapshot < 2 ^ 32
