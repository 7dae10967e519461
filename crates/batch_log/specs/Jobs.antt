-- What a log stands for between two device calls.
use Rattle.std.specs.Prelude.{◌≡◌, ◌≢◌, ◌⊎◌, ◌+◌, ℕ, Bool, true, false, get_or, List, [], ◌∷◌, ◌++◌, length, drop, Option, Some, None}
use Rattle.disk_model.specs.Cells.{Cells, IsImage, settled, written}
use Rattle.store_form.specs.Spelling.{Group, group_text, IsGroup}
use Rattle.batch_log.specs.Log.{log_bytes, AreGroups, first_group, restored}
use Rattle.batch_log.specs.declared.job.Job.{Job}
use Rattle.batch_log.specs.declared.job.Job.TheVariants.{Rest, Torn, Close, SyncClose, Body, SyncBody, Gate, SyncGate}

-- A log stands for a pair: what each crash now restores (`gs`), and what it may restore instead (`other`). `g` is the group that the
-- running job adds, if it adds one.

-- whole groups and a closed gate, all of it sure
pub record Clean (cells : Cells) (end : ℕ) (gs : List Group) : Type 0 where
  pub tail : List ℕ
  pub are : cells ≡ settled (log_bytes gs ++ 0 ∷ tail)
  pub ends : end ≡ length (log_bytes gs)
  pub fit : AreGroups gs

-- bytes that stand after the gate of a group, and close the next gate
pub record IsBody (bytes : List ℕ) (g : Group) : Type 0 where
  pub are : bytes ≡ group_text g ++ 0 ∷ []
  pub fits : IsGroup g

-- a log after the bytes past its closed gate were written
pub record Behind (cells : Cells) (end next : ℕ) (g : Group) (gs : List Group) : Type 0 where
  pub tail : List ℕ
  pub are : cells ≡ written (end + 1) (group_text g ++ 0 ∷ []) (settled (log_bytes gs ++ 0 ∷ tail))
  pub ends : end ≡ length (log_bytes gs)
  pub goes_to : next ≡ end + 1 + length (group_text g)
  pub fit : AreGroups gs
  pub fits : IsGroup g

-- a log after these bytes are sure
pub record Staged (cells : Cells) (end next : ℕ) (g : Group) (gs : List Group) : Type 0 where
  pub tail : List ℕ
  pub are : cells ≡ settled (log_bytes gs ++ 0 ∷ (group_text g ++ 0 ∷ tail))
  pub ends : end ≡ length (log_bytes gs)
  pub goes_to : next ≡ end + 1 + length (group_text g)
  pub fit : AreGroups gs
  pub fits : IsGroup g

-- a log after its gate was opened
pub record Gated (cells : Cells) (end next : ℕ) (g : Group) (gs : List Group) : Type 0 where
  pub tail : List ℕ
  pub are : cells ≡ written end (1 ∷ []) (settled (log_bytes gs ++ 0 ∷ (group_text g ++ 0 ∷ tail)))
  pub ends : end ≡ length (log_bytes gs)
  pub goes_to : next ≡ end + 1 + length (group_text g)
  pub fit : AreGroups gs
  pub fits : IsGroup g

-- A log without a gate after its groups, or with one that is neither closed nor of a whole group. A gate of 1 there would restore `other`.
pub record IsTorn (end : ℕ) (rest : List ℕ) (gs other : List Group) : Type 0 where
  pub ends : end ≡ length (log_bytes gs)
  pub fit : AreGroups gs
  pub torn : get_or rest 0 1 ≢ 0
  pub nothing : first_group rest ≡ None
  pub is : other ≡ restored (log_bytes gs ++ 1 ∷ drop 1 rest)

pub record ToClose (cells : Cells) (end : ℕ) (gs other : List Group) : Type 0 where
  pub rest : List ℕ
  pub are : cells ≡ settled (log_bytes gs ++ rest)
  pub torn : IsTorn end rest gs other

pub record Closing (cells : Cells) (end : ℕ) (gs other : List Group) : Type 0 where
  pub rest : List ℕ
  pub are : cells ≡ written end (0 ∷ []) (settled (log_bytes gs ++ rest))
  pub torn : IsTorn end rest gs other

-- the bytes that are written after the gate is closed, if there are any
abbrev pub Waits : Option (List ℕ) → Group → Type 0
Waits None g = Unit {0}
Waits (Some bytes) g = IsBody bytes g

abbrev pub Stands : Cells → ℕ → Job → Group → List Group → List Group → Type 0
Stands cells end Rest g gs other = Clean cells end gs × (other ≡ gs)
Stands cells end Torn g gs other = ToClose cells end gs other
Stands cells end (Close waiting) g gs other = ToClose cells end gs other × Waits waiting g
Stands cells end (SyncClose waiting) g gs other = Closing cells end gs other × Waits waiting g
Stands cells end (Body bytes) g gs other = Clean cells end gs × (IsBody bytes g × (other ≡ gs))
Stands cells end (SyncBody next) g gs other = Behind cells end next g gs × (other ≡ gs)
Stands cells end (Gate next) g gs other = Staged cells end next g gs × (other ≡ gs)
Stands cells end (SyncGate next) g gs other = Gated cells end next g gs × (other ≡ gs ++ g ∷ [])

-- ---- the pair after the next call of a job

abbrev pub kept_after : Job → Group → List Group → List Group
kept_after (SyncGate next) g gs = gs ++ g ∷ []
kept_after Rest g gs = gs
kept_after Torn g gs = gs
kept_after (Close waiting) g gs = gs
kept_after (SyncClose waiting) g gs = gs
kept_after (Body bytes) g gs = gs
kept_after (SyncBody next) g gs = gs
kept_after (Gate next) g gs = gs

abbrev pub other_after : Job → Group → List Group → List Group → List Group
other_after (Gate next) g gs other = gs ++ g ∷ []
other_after (SyncGate next) g gs other = gs ++ g ∷ []
other_after (SyncClose waiting) g gs other = gs
other_after Rest g gs other = other
other_after Torn g gs other = other
other_after (Close waiting) g gs other = other
other_after (Body bytes) g gs other = other
other_after (SyncBody next) g gs other = other

-- what a crash during the next call may restore instead of `gs`
abbrev pub at_stake : Job → Group → List Group → List Group → List Group
at_stake (Gate next) g gs other = gs ++ g ∷ []
at_stake (SyncGate next) g gs other = other
at_stake (SyncClose waiting) g gs other = other
at_stake Rest g gs other = other
at_stake Torn g gs other = other
at_stake (Close waiting) g gs other = other
at_stake (Body bytes) g gs other = other
at_stake (SyncBody next) g gs other = other

-- the contents after the next call, if it does not fail
abbrev pub called : Job → ℕ → Cells → Cells
called Rest end cells = cells
called Torn end cells = cells
called (Close waiting) end cells = written end (0 ∷ []) cells
called (SyncClose waiting) end cells = cells
called (Body bytes) end cells = written (end + 1) bytes cells
called (SyncBody next) end cells = cells
called (Gate next) end cells = written end (1 ∷ []) cells
called (SyncGate next) end cells = cells

-- contents of which a crash now leaves one of two lists of groups
abbrev pub LeavesEither : Cells → List Group → List Group → Type 0
LeavesEither cells gs other = (image : List ℕ) → IsImage cells image → (restored image ≡ gs) ⊎ (restored image ≡ other)

pub record IsUnderWay (cells : Cells) (end : ℕ) (job : Job) : Type 0 where
  pub group : Group
  pub kept : List Group
  pub other : List Group
  pub stands : Stands cells end job group kept other

-- a log of which no job runs
abbrev pub idle : Job → Bool
idle Rest = true
idle Torn = true
idle (Close waiting) = false
idle (SyncClose waiting) = false
idle (Body bytes) = false
idle (SyncBody next) = false
idle (Gate next) = false
idle (SyncGate next) = false

abbrev pub IsIdle : Job → Type 0
IsIdle job = idle job ≡ true

-- the job that adds a group, after one in which none runs
abbrev pub Begins : Job → List ℕ → Job → Type 0
Begins Rest bytes next = next ≡ Body bytes
Begins Torn bytes next = next ≡ Close (Some bytes)
Begins (Close waiting) bytes next = ⊥
Begins (SyncClose waiting) bytes next = ⊥
Begins (Body waiting) bytes next = ⊥
Begins (SyncBody end) bytes next = ⊥
Begins (Gate end) bytes next = ⊥
Begins (SyncGate end) bytes next = ⊥

-- a number for each kind of job, which falls with each call of a job
abbrev pub code : Job → ℕ
code Rest = 0
code (SyncGate next) = 1
code (Gate next) = 2
code (SyncBody next) = 3
code (Body bytes) = 4
code (SyncClose (Some bytes)) = 5
code (Close (Some bytes)) = 6
code (SyncClose None) = 7
code (Close None) = 8
code Torn = 9

abbrev pub code_after : Job → ℕ
code_after Rest = 0
code_after (SyncGate next) = 0
code_after (Gate next) = 1
code_after (SyncBody next) = 2
code_after (Body bytes) = 3
code_after (SyncClose (Some bytes)) = 4
code_after (Close (Some bytes)) = 5
code_after (SyncClose None) = 0
code_after (Close None) = 7
code_after Torn = 9

-- ---- the pair while a whole group is added to a log that stood for (gs, other)

abbrev pub kept_now : Job → Group → List Group → List Group
kept_now Rest g gs = gs ++ g ∷ []
kept_now Torn g gs = gs
kept_now (Close waiting) g gs = gs
kept_now (SyncClose waiting) g gs = gs
kept_now (Body bytes) g gs = gs
kept_now (SyncBody next) g gs = gs
kept_now (Gate next) g gs = gs
kept_now (SyncGate next) g gs = gs

abbrev pub other_now : Job → Group → List Group → List Group → List Group
other_now Rest g gs other = gs ++ g ∷ []
other_now Torn g gs other = other
other_now (Close waiting) g gs other = other
other_now (SyncClose waiting) g gs other = other
other_now (Body bytes) g gs other = gs
other_now (SyncBody next) g gs other = gs
other_now (Gate next) g gs other = gs
other_now (SyncGate next) g gs other = gs ++ g ∷ []

-- a job that adds a group, or its end
abbrev pub Adds : Job → Type 0
Adds Rest = Unit {0}
Adds Torn = ⊥
Adds (Close None) = ⊥
Adds (Close (Some bytes)) = Unit {0}
Adds (SyncClose None) = ⊥
Adds (SyncClose (Some bytes)) = Unit {0}
Adds (Body bytes) = Unit {0}
Adds (SyncBody next) = Unit {0}
Adds (Gate next) = Unit {0}
Adds (SyncGate next) = Unit {0}

-- a log while the group is added, and after it is
abbrev pub Runs : Cells → ℕ → Job → Group → List Group → List Group → Type 0
Runs cells end job g gs other = Adds job × Stands cells end job g (kept_now job g gs) (other_now job g gs other)

-- one of three lists of groups
abbrev pub OneOf : List Group → List Group → List Group → List Group → Type 0
OneOf gs a b c = (gs ≡ a) ⊎ ((gs ≡ b) ⊎ (gs ≡ c))
