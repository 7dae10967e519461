use Rattle.std.proofs.Common.{ap, sym, Err, ◌∙◌, arith, ◌++◌, ◌∷◌, []}
use Rattle.smart_top.proofs.Closing.{last-halted, lines-begun, lines-ended, not_empty, is_empty, rose-later}
use Rattle.smart_top.proofs.top.finish.Goals as goal

pub returns-then-is_empty-clause-ended : goal.returns-then-is_empty-clause-ended
returns-then-is_empty-clause-ended g c = λ bytes left left' written wants is_left end taken le.
    c.close.ensures.ended bytes bytes left left' written wants
    (lines-ended bytes (sym taken.line_is ∙ is_empty c.args.reader.now.line (sym c.is_empty.ensures ∙ c.if-is_empty.true))) is_left end taken le

pub returns-in-Err-clause-ended : goal.returns-in-Err-clause-ended
returns-in-Err-clause-ended g c = λ bytes left left' written wants is_left end taken le.
    let e = c.in-Err.ensures in
    rw c.halt_end.ensures
    (last-halted left left' written _ wants _ bytes c.end_line.new.reader.script c.in-Err.halt
    (λ none. not_empty c.args.reader.now.line (sym c.is_empty.ensures ∙ c.if-is_empty.false) (taken.line_is ∙ none)) is_left
    (λ is. rose-later wants _ _ le (e.want (ap (λ halt. Err halt) is))) (e.halted bytes written taken))

pub returns-clause-ended : goal.returns-clause-ended
returns-clause-ended g c = λ bytes left left' written wants is_left end taken le.
    let e = c.in_default.ensures in
    c.close-2.ensures.ended (bytes ++ 10 ∷ []) bytes left left' written wants
    (lines-begun bytes (λ none. not_empty c.args.reader.now.line (sym c.is_empty.ensures ∙ c.if-is_empty.false) (taken.line_is ∙ none))) is_left end
    (e.ok bytes written taken) (omega (arith, le, e.later.1))
