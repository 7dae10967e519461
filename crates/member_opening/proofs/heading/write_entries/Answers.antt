use Rattle.std.proofs.Common.{arith}
use Rattle.std.proofs.lemmas.Result.{MatchResult-from_err}
use Rattle.member_opening.proofs.Headed.{front-parts, more-parts}
use Rattle.member_opening.proofs.heading.write_entries.Goals as goal

pub loop-entry-preserved : goal.loop-entry-preserved
loop-entry-preserved g c =
    let h = c.loop-entry.invariant in
    let sink = c.loop-entry.sink in
    record {
      wrote = more-parts (g.O.Sink.written c.args.sink.now) (g.O.Sink.written sink) (g.O.Sink.written c.write_part.new.sink) c.args.entries.now c.loop-entry.entry-index c.entry-item.result c.loop-entry-test.true
          c.entry-item.is h.wrote (rw c.as_slice.ensures at c.in_ok-write_part.ensures.ok);
      later = omega (arith, h.later, c.write_part.ensures.cause.later);
    }

pub returns-in_err-write_part-clause-err : goal.returns-in_err-write_part-clause-err
returns-in_err-write_part-clause-err g c =
    let h = c.loop-entry.invariant in
    let sink = c.loop-entry.sink in
    let err = rw c.as_slice.ensures at c.in_err-write_part.ensures.err in
    MatchResult-from_err c.from_residual.result _ _ c.from_residual.ensures.0
    (λ _. front-parts (g.O.Sink.written c.args.sink.now) (g.O.Sink.written sink) (g.O.Sink.written c.write_part.new.sink) c.args.entries.now c.loop-entry.entry-index c.entry-item.result c.loop-entry-test.true
    c.entry-item.is err.0 h.wrote err.1)
