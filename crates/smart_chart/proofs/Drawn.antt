-- What is written is a picture of what was read.
use Rattle.std.proofs.Common.{◌≡◌, ℕ, List, ap, sym, ◌∙◌, subst}
use Rattle.std.specs.Prelude.{Option, map}
use Rattle.std.specs.Io.KnownBytes.{Appends, Consumes, IsAtEnd}
use Rattle.smart_chart.specs.declared.lines.Range.{Range}
use Rattle.smart_chart.specs.declared.picture.Shape.{Shape}
use Rattle.smart_chart.specs.Pictures.{picture_text}
use Rattle.smart_chart.specs.Transcripts.{lines_of, in_range}
use Rattle.smart_chart.specs.Runs.{IsPicture, HasDrawn}

pub is_picture : {X : Type 0} (f : X → List ℕ) (range : Range) (bytes text : List ℕ) (height : ℕ) (lines lines' : List X) (shown : List (List ℕ)) (parts : List Shape)
    → text ≡ picture_text height range.from shown parts → shown ≡ in_range range (map f lines') → lines' ≡ lines → map f lines ≡ lines_of bytes → IsPicture range bytes text
is_picture f range bytes text height lines lines' shown parts written among same all = record {
  height = height;
  shapes = parts;
  is = written ∙ ap (λ ls. picture_text height range.from ls parts) (among ∙ ap (λ ls. in_range range ls) (ap (λ ls. map f ls) same ∙ all));
}

pub has_drawn : (range : Range) (left left' written written' : Option (List ℕ)) (bytes bytes' text text' : List ℕ)
    → Consumes left left' bytes → IsAtEnd left' → bytes' ≡ bytes → IsPicture range bytes' text → text' ≡ text → Appends written written' text'
    → HasDrawn range left left' written written'
has_drawn range left left' written written' bytes bytes' text text' consumed end same picture is drawn =
    let P : List ℕ → Type 0 = λ bs. IsPicture range bs text in
    let Q : List ℕ → Type 0 = λ t. Appends written written' t in
    record { bytes = bytes; consumed = consumed; end = end; text = text; picture = subst P same picture; drawn = subst Q is drawn }
