use Rattle.std.proofs.Common.{◌∙◌, ◌++◌, ap, sym, append_assoc}
use Rattle.std.specs.Prelude.{codes}
use Rattle.std.specs.List.{flat_map}
use Rattle.std.specs.Fmt.{decimal}
use Rattle.smart_chart.specs.declared.picture.TheConstants as constants
use Rattle.smart_chart.specs.Pictures.{shape_text, rows_text, head_text}
use Rattle.smart_chart.proofs.PlainTexts.{picture, no_tag}
use Rattle.smart_chart.proofs.laws.a_picture_is_plain.Goals as goal

pub returns-clause-begins : goal.returns-clause-begins
returns-clause-begins c = λ height n lines parts.
    let rest = rows_text n 0 lines ++ (flat_map shape_text parts ++ codes "</svg>\n") in
    ((decimal height ++ (codes "'>\n" ++ constants.STYLE.now)) ++ rest, append_assoc constants.HEAD.now _ rest)

pub returns-clause-ends : goal.returns-clause-ends
returns-clause-ends c = λ height n lines parts. (
  head_text height ++ (rows_text n 0 lines ++ flat_map shape_text parts),
  sym (append_assoc (head_text height) (rows_text n 0 lines ++ flat_map shape_text parts) (codes "</svg>\n")
      ∙ ap (λ t. head_text height ++ t) (append_assoc (rows_text n 0 lines) (flat_map shape_text parts) (codes "</svg>\n"))),
)

pub returns-clause-plain : goal.returns-clause-plain
returns-clause-plain c = λ height n lines parts. picture height n lines parts

pub returns-clause-escaped : goal.returns-clause-escaped
returns-clause-escaped c = λ text. no_tag text
