use Rattle.std.proofs.Common.{[], ◌++◌}
use Rattle.std.specs.List.{flat_map}
use Rattle.std.proofs.lemmas.Result.{MatchResult-from_err, on_err_weaker}
use Rattle.trail.specs.Openings.{opening_text}
use Rattle.trail.specs.Trails.{part}
use Rattle.member_opening.proofs.Headed.{first-front, second-front}
use Rattle.member_opening.proofs.heading.write_head.Goals as goal

pub returns-in_err-write_part-clause-err : goal.returns-in_err-write_part-clause-err
returns-in_err-write_part-clause-err g c =
    let a = g.O.Sink.written c.args.sink.now in
    let b = g.O.Sink.written c.write_part.new.sink in
    let err = rw (c.as_slice.ensures.value, c.in-Ok.ensures.text) at c.in_err-write_part.ensures.err in
    MatchResult-from_err c.from_residual.result _ _ c.from_residual.ensures.0
    (λ _. first-front a b b (part (opening_text c.args.head.now)) (flat_map part c.args.entries.now ++ []) err.0 err.1)

pub returns-clause-err : goal.returns-clause-err
returns-clause-err g c =
    let a = g.O.Sink.written c.args.sink.now in
    let b = g.O.Sink.written c.write_part.new.sink in
    let d = g.O.Sink.written c.write_entries.new.sink in
    let first = rw (c.as_slice.ensures.value, c.in-Ok.ensures.text) at c.in_ok-write_part.ensures.ok in
    on_err_weaker c.write_entries.result (λ err. second-front a b d (part (opening_text c.args.head.now)) (flat_map part c.args.entries.now) [] err.0 first err.1) c.write_entries.ensures.err
