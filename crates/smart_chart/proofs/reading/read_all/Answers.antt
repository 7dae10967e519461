use Rattle.std.proofs.Common.{arith, sym, subst, List, ℕ}
use Rattle.std.specs.Io.KnownBytes.{Consumes}
use Rattle.smart_chart.proofs.Consumed.{consumes_none, consumes_then, consumes_last}
use Rattle.smart_chart.proofs.reading.read_all.Goals as goal

pub loop-init : goal.loop-init
loop-init g c = record { consumed = rw c.new-bytes.ensures.items (consumes_none (g.I.Source.left c.args.input.now)); later = omega (arith) }

pub loop-preserved : goal.loop-preserved
loop-preserved g c =
    let more = c.in-Ok-true.ensures.more c.in-Ok-true.field-0-test in
    let P : List ℕ → Type 0 = λ bs. Consumes (g.I.Source.left c.args.input.now) (g.I.Source.left c.read_piece.new.input) bs in
    record {
      consumed = subst P (sym more.2) (consumes_then _ _ _ _ _ c.loop.invariant.consumed more.1);
      later = omega (arith, c.loop.invariant.later, c.in-Ok-true.ensures.later);
    }

pub returns-in-Ok-false-clause-all : goal.returns-in-Ok-false-clause-all
returns-in-Ok-false-clause-all g c =
    let none = c.in-Ok-false.ensures.none c.in-Ok-false.field-0-test in
    let P : List ℕ → Type 0 = λ bs. Consumes (g.I.Source.left c.args.input.now) (g.I.Source.left c.read_piece.new.input) bs in
    (subst P (sym none.2) (consumes_last _ _ _ _ c.loop.invariant.consumed none.0), none.1)
