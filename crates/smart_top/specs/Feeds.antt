-- How far a run has come with its input, and how it breaks off.
use Rattle.std.specs.Prelude.{ℕ, ◌≡◌, ◌<◌, ◌≤◌, ◌+◌, ◌*◌, ◌^◌, ◌⊎◌, true, List, [], ◌∷◌, ◌++◌, length, Option, None, is_some, take}
use Rattle.std.specs.Io.KnownBytes.{Appends, Consumes}
use Rattle.smart_base.specs.declared.limits.TheConstants.{LINE_BYTES}
use Rattle.world_rules.specs.Texts.{text_of}
use Rattle.script_play.specs.declared.status.Status.{Status}
use Rattle.script_play.specs.declared.status.Status.TheVariants as ends
use Rattle.smart_top.specs.declared.reader.Halt.{Halt}
use Rattle.smart_top.specs.declared.reader.Halt.TheVariants as halts
use Rattle.script_play.specs.Apps.{Courses}
use Rattle.script_play.specs.Readings.{Reading, unread, whole_lines, rest_of, reading_after, told_after, end_of}

-- the text that the whole lines of bytes tell
abbrev pub text_after : Courses → List ℕ → List ℕ
text_after courses bytes = text_of (told_after courses unread (whole_lines [] bytes))

-- the script after the whole lines of bytes
abbrev pub script_after : Courses → List ℕ → Reading
script_after courses bytes = reading_after courses unread (whole_lines [] bytes)

-- a run that has taken bytes: it played and told their whole lines, and none was refused
pub record HasTaken (courses : Courses) (bytes : List ℕ) (written written' : Option (List ℕ)) (line : List ℕ) (script : Reading) : Type 0 where
  pub line_is : line ≡ rest_of [] bytes
  pub script_is : script ≡ script_after courses bytes
  pub going : script.refused ≡ None
  pub text : Appends written written' (text_after courses bytes)
  -- each line is short, and the lines are few; the bytes are no more than these lines have
  pub short : length line ≤ LINE_BYTES
  pub within : script.count ≤ 2 ^ 20
  pub few : length bytes ≤ (LINE_BYTES + 1) * script.count + length line

-- bytes as they are, or with a line feed added if the line that they have begun is already too long
abbrev pub Closes : List ℕ → List ℕ → Type 0
Closes bytes closed = (closed ≡ bytes) ⊎ ((closed ≡ bytes ++ 10 ∷ []) × (LINE_BYTES < length (rest_of [] bytes)))

-- A run that has refused a line of bytes, and told the lines before it. A line feed counts as added if the last line is already too long.
pub record HasRefused (courses : Courses) (bytes : List ℕ) (written written' : Option (List ℕ)) (script : Reading) : Type 0 where
  pub closed : List ℕ
  pub closes : Closes bytes closed
  pub refused : script.refused ≡ (script_after courses closed).refused
  pub count : script.count ≡ (script_after courses closed).count
  pub is : is_some script.refused ≡ true
  pub text : Appends written written' (text_after courses closed)

-- A run that has written a prefix of what bytes tell. A line feed counts as added if the last line is already too long.
pub record HasBroken (courses : Courses) (bytes : List ℕ) (written written' : Option (List ℕ)) : Type 0 where
  pub closed : List ℕ
  pub closes : Closes bytes closed
  pub count : ℕ
  pub text : Appends written written' (take count (text_after courses closed))

-- a run that has written what the whole lines of bytes tell
pub record HasTold (courses : Courses) (bytes : List ℕ) (written written' : Option (List ℕ)) : Type 0 where
  pub text : Appends written written' (text_after courses bytes)

-- a property of bytes that were taken, with some of the piece that comes next
pub record Within (bytes piece : List ℕ) (P : List ℕ → Type 0) : Type 0 where
  pub front : List ℕ
  pub rest : List ℕ
  pub split : piece ≡ front ++ rest
  pub holds : P (bytes ++ front)

-- why a run stopped in a piece that comes next, and what it has written then
abbrev pub Halted : Courses → List ℕ → List ℕ → Option (List ℕ) → Option (List ℕ) → Reading → Halt → Type 0
Halted courses bytes piece written written' script halts.Refused = Within bytes piece (λ taken. HasRefused courses taken written written' script)
Halted courses bytes piece written written' script halts.WriteFault = Within bytes piece (λ taken. HasBroken courses taken written written')
Halted courses bytes piece written written' script halts.SinkMemory = Within bytes piece (λ taken. HasBroken courses taken written written')
Halted courses bytes piece written written' script halts.NoMemory = Within bytes piece (λ taken. HasTold courses taken written written')

-- a run that continues: it has consumed and taken these bytes
pub record GoesOn (courses : Courses) (bytes : List ℕ) (left left' written written' : Option (List ℕ)) (line : List ℕ) (script : Reading) : Type 0 where
  pub consumed : Consumes left left' bytes
  pub taken : HasTaken courses bytes written written' line script

-- a run that continues after these bytes and more
pub record GoesOnBehind (courses : Courses) (bytes : List ℕ) (left left' written written' : Option (List ℕ)) (line : List ℕ) (script : Reading) : Type 0 where
  pub more : List ℕ
  pub some : 0 < length more
  pub going : GoesOn courses (bytes ++ more) left left' written written' line script

-- the status of a run that stopped
abbrev pub halt_end : Reading → Halt → Status
halt_end r halts.Refused = end_of r
halt_end r halts.WriteFault = ends.WriteFault
halt_end r halts.SinkMemory = ends.NoMemory
halt_end r halts.NoMemory = ends.NoMemory
