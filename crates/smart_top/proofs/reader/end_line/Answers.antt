use Rattle.std.proofs.Common.{◌∙◌, sym, ap, Err}
use Rattle.std.specs.Prelude.{is_some}
use Rattle.script_play.specs.Apps.{core_courses}
use Rattle.smart_top.proofs.Feeding.{line-played, line-refused, line-halted}
use Rattle.smart_top.proofs.reader.end_line.Goals as goal
use Rattle.world_laws.proofs.Keeps.{none_is}

pub returns-in-Err-clause-halted : goal.returns-in-Err-clause-halted
returns-in-Err-clause-halted g c = λ bytes written taken.
    line-halted core_courses bytes written _ _ _ _ c.take_line.new.self c.in-Err.halt taken
    (λ is. c.in-Err.ensures.refused (ap (λ halt. Err halt) is)) (λ is. c.in-Err.ensures.memory (ap (λ halt. Err halt) is))
    (rw (c.as_slice-2.ensures, c.in_ok-told.ensures.told, c.as_slice.ensures) at c.in-Err.ensures.err)

pub returns-then-is_some-clause-halted : goal.returns-then-is_some-clause-halted
returns-then-is_some-clause-halted g c = λ bytes written taken.
    line-refused core_courses bytes written _ _ _ _ c.take_line.new.self taken
    (rw c.as_slice.ensures at c.in_ok-told.ensures.refused) (rw c.as_slice.ensures at c.in_ok-told.ensures.count)
    (ap (λ x. is_some x) (sym c.refused.ensures) ∙ (sym c.is_some.ensures ∙ c.if-is_some.true)) (rw (c.as_slice-2.ensures, c.in_ok-told.ensures.told, c.as_slice.ensures) at c.in_default.ensures.ok)

pub returns-clause-ok : goal.returns-clause-ok
returns-clause-ok g c = λ bytes written taken.
    let free = none_is c.take_line.new.self.refused (ap (λ x. is_some x) (sym c.refused.ensures) ∙ (sym c.is_some.ensures ∙ c.if-is_some.false)) in
    line-played core_courses bytes written _ _ _ _ _ _ taken
    (rw c.as_slice.ensures at (c.in_ok-told.ensures.whole (sym c.in_ok-told.ensures.refused ∙ free))) free c.truncate.ensures (rw (c.as_slice-2.ensures, c.in_ok-told.ensures.told, c.as_slice.ensures) at c.in_default.ensures.ok)
