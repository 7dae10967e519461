use Rattle.std.proofs.Common.{◌+◌, ◌++◌, ◌∙◌, ap, append_assoc}
use Rattle.std.specs.Prelude.{string_bytes}
use Rattle.smart_chart.specs.Pictures.{row_text, rows_text}
use Rattle.smart_chart.proofs.picture.push_next.Goals as goal

pub returns : goal.returns
returns c = λ rest.
    ap (λ t. t ++ rows_text c.args.first (c.args.at + 1) rest) (rw c.as_bytes.ensures.value at c.in_ok-push_row.ensures)
    ∙ append_assoc (string_bytes c.args.out.now) (row_text (c.args.first + c.args.at) c.args.at (string_bytes c.args.line.now)) (rows_text c.args.first (c.args.at + 1) rest)
