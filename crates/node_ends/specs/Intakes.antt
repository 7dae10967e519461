-- What an intake has made of the bytes of its input.
use Rattle.std.specs.Prelude.{◌≡◌, ◌<◌, ◌⊎◌, ◌-◌, ◌^◌, ℕ, min, Bool, true, false, List, [], ◌∷◌, ◌++◌, length, is_some, Option, None, Some}
use Rattle.std.specs.Option.{option_to_list}
use Rattle.std.specs.Io.KnownBytes.{Consumes, IsAtEnd}
use Rattle.frame_stream.specs.Frames.{Stream, HasFed, too_long}
use Rattle.group_links.specs.Link.{link_put}
use Rattle.node_ends.specs.declared.intake.InputEnd.{InputEnd}
use Rattle.node_ends.specs.declared.intake.InputEnd.TheVariants.{Whole, Form, Failed, NoMemory}
use Rattle.node_ends.specs.declared.intake.Intake.{Intake}
use Rattle.node_ends.specs.declared.intake.Taking.{Taking}
use Rattle.node_ends.specs.declared.intake.Taking.TheVariants.{Done, Full, Ended}

-- the message of a frame: none, if the frame is empty
abbrev pub filled_by : List ℕ → List (List ℕ)
filled_by [] = []
filled_by (x ∷ xs) = (x ∷ xs) ∷ []

-- the frames that are not empty, in order
abbrev pub filled : List (List ℕ) → List (List ℕ)
filled [] = []
filled (f ∷ fs) = filled_by f ++ filled fs

-- These bytes were fed to the stream. The frames that it gave, and that are not empty, are those that were put on the link, and then the one that waits.
pub record IsTakenIn (bytes : List ℕ) (stream : Stream) (put : List (List ℕ)) (waiting : Option (List ℕ)) (count : ℕ) (is_long : Bool) : Type 0 where
  pub given : List (List ℕ)
  pub fed : HasFed bytes given stream
  pub put_is : put ++ option_to_list waiting ≡ filled given
  pub count_is : count ≡ min (length given) (2 ^ 64 - 1)
  pub long : is_long ≡ is_some (too_long stream.rest)

abbrev pub HasTakenIn : List ℕ → Intake → Type 0
HasTakenIn bytes i = IsTakenIn bytes i.frames (link_put i.link) i.waiting i.count i.is_long

-- whether a turn may have lost bytes of the input: it was the last one, for a failure or for want of memory
abbrev pub is_cut : Taking → Bool
is_cut Done = false
is_cut Full = false
is_cut (Ended Whole) = false
is_cut (Ended (Form n)) = false
is_cut (Ended Failed) = true
is_cut (Ended NoMemory) = true

-- whether an intake may have lost bytes of its input: it was told to end, or ended for a failure or for want of memory
abbrev pub is_early : Option InputEnd → Bool
is_early None = true
is_early (Some Whole) = false
is_early (Some (Form n)) = false
is_early (Some Failed) = true
is_early (Some NoMemory) = true

-- A piece was taken in, or is lost for want of memory.
abbrev pub HasFedOn : List ℕ → Taking → Intake → Intake → Type 0
HasFedOn piece result old new =
    (bytes : List ℕ) → old.is_long ≡ false → HasTakenIn bytes old
    → (is_cut result ≡ false → HasTakenIn (bytes ++ piece) new) × (is_cut result ≡ true → HasTakenIn bytes new)

-- More of an input was read, and was taken in. Bytes behind them may be lost only where the reading did not come to the end of the input or to a frame that is none.
pub record Reads (left left' : Option (List ℕ)) (cut : Bool) (old new : Intake) : Type 0 where
  pub more : List ℕ
  pub lost : List ℕ
  pub consumed : Consumes left left' (more ++ lost)
  pub taken : (bytes : List ℕ) → HasTakenIn bytes old → HasTakenIn (bytes ++ more) new
  pub none : cut ≡ false → lost ≡ []

-- all frames were given and put on the link, and nothing is left of the stream
abbrev pub IsDone : Intake → Type 0
IsDone i = (i.waiting ≡ None) × ((i.frames.ready ≡ []) × (i.frames.rest ≡ []))

-- all frames were given and put on the link, and the next one is too long, or the input ended within it
abbrev pub IsCutOff : Option (List ℕ) → Intake → Type 0
IsCutOff left i = (i.waiting ≡ None) × ((i.frames.ready ≡ []) × ((i.is_long ≡ true) ⊎ (IsAtEnd left × (0 < length i.frames.rest))))
