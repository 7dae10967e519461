-- What a run reads and writes.
use Rattle.std.specs.Prelude.{ℕ, ◌≡◌, List, Option}
use Rattle.std.specs.Io.KnownBytes.{Appends, Consumes, IsAtEnd}
use Rattle.smart_chart.specs.declared.lines.Range.{Range}
use Rattle.smart_chart.specs.declared.picture.Shape.{Shape}
use Rattle.smart_chart.specs.declared.top.Status.{Status}
use Rattle.smart_chart.specs.declared.top.Status.TheVariants as ends
use Rattle.smart_chart.specs.Pictures.{picture_text}
use Rattle.smart_chart.specs.Transcripts.{lines_of, in_range}

abbrev pub code_of : Status → ℕ
code_of ends.Ok = 0
code_of ends.Words = 2
code_of ends.ReadFault = 3
code_of ends.WriteFault = 3
code_of ends.NoMemory = 11

-- a text is a picture of these bytes: it has their lines of the range, each with its number, and shapes
pub record IsPicture (range : Range) (bytes text : List ℕ) : Type 0 where
  pub height : ℕ
  pub shapes : List Shape
  pub is : text ≡ picture_text height range.from (in_range range (lines_of bytes)) shapes

-- all of the input was read, and a picture of it was written
pub record HasDrawn (range : Range) (left left' written written' : Option (List ℕ)) : Type 0 where
  pub bytes : List ℕ
  pub consumed : Consumes left left' bytes
  pub end : IsAtEnd left'
  pub text : List ℕ
  pub picture : IsPicture range bytes text
  pub drawn : Appends written written' text
