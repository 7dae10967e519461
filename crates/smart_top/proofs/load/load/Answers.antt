use Rattle.std.proofs.Common.{ap, sym, ◌∙◌, is_some}
use Rattle.smart_top.proofs.Loading.{unread_load, refused_load, summary_written, summary_broken}
use Rattle.smart_top.proofs.load.load.Goals as goal

pub returns-in-Err-clause-ended : goal.returns-in-Err-clause-ended
returns-in-Err-clause-ended g c = unread_load c.args.count _ _ _

pub returns-then-is_some-clause-ended : goal.returns-then-is_some-clause-ended
returns-then-is_some-clause-ended g c =
    rw c.script_end.ensures
    (refused_load c.args.count _ _ _ c.in-Ok.script (ap (λ x. is_some x) (sym c.refused.ensures) ∙ (sym c.is_some.ensures ∙ c.if-is_some.true))
    c.in-Ok.ensures.refused c.in-Ok.ensures.count)

pub returns-in-Err-load_summary-clause-ended : goal.returns-in-Err-load_summary-clause-ended
returns-in-Err-load_summary-clause-ended g c = unread_load c.args.count _ _ _

pub returns-in-Ok-write_whole-clause-ended : goal.returns-in-Ok-write_whole-clause-ended
returns-in-Ok-write_whole-clause-ended g c = summary_written c.args.count _ _ _ c.in-Ok-load_summary.ensures (rw c.as_bytes.ensures.value at c.in-Ok-write_whole.ensures.ok)

pub returns-in-Err-Failed-clause-ended : goal.returns-in-Err-Failed-clause-ended
returns-in-Err-Failed-clause-ended g c = summary_broken c.args.count _ _ _ c.in-Ok-load_summary.ensures (rw c.as_bytes.ensures.value at c.in-Err-Failed.ensures.err)
