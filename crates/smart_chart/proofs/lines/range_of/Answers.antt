use Rattle.std.proofs.Common.{arith}
use Rattle.std.specs.Prelude.{string_bytes}
use Rattle.smart_chart.proofs.Ranges.{no_range}
use Rattle.smart_chart.proofs.lines.range_of.Goals as goal

pub returns-in_default-clause-value : goal.returns-in_default-clause-value
returns-in_default-clause-value c =
    no_range string_bytes c.args.words.now (λ none. omega (arith, none, c.in_default.len_at_least, c.in_default.len_below)) (λ two. omega (arith, two, c.in_default.len_at_least, c.in_default.len_below))
