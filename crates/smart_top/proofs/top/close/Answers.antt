use Rattle.std.proofs.Common.{ap, refl, inl, Err}
use Rattle.smart_top.proofs.Closing.{close-unwritten, close-halted, close-ended, rose-later}
use Rattle.smart_top.proofs.top.close.Goals as goal

pub returns-in-Err-clause-ended : goal.returns-in-Err-clause-ended
returns-in-Err-clause-ended g c = λ bytes input left left' written wants all is_left end taken le.
    inl (close-unwritten left written _ _ bytes input _ _ all is_left refl taken)

pub returns-in-Err-write_lines-clause-ended : goal.returns-in-Err-write_lines-clause-ended
returns-in-Err-write_lines-clause-ended g c = λ bytes input left left' written wants all is_left end taken le.
    let e = c.in-Err-write_lines.ensures in
    rw c.halt_end.ensures
    (close-halted left left' written _ _ wants _ bytes input _ c.args.reader.now.script c.in-Err-write_lines.halt all is_left taken
    (λ is. e.refused (ap (λ halt. Err halt) is)) (λ is. e.memory (ap (λ halt. Err halt) is)) (λ is. rose-later wants _ _ le (e.want (ap (λ halt. Err halt) is)))
    (rw (c.as_slice.ensures, c.in-Ok.ensures) at e.err))

pub returns-clause-ended : goal.returns-clause-ended
returns-clause-ended g c = λ bytes input left left' written wants all is_left end taken le.
    rw c.script_end.ensures
    (close-ended left left' written _ _ wants _ bytes input _ c.args.reader.now.script all is_left end taken
    (rw (c.as_slice.ensures, c.in-Ok.ensures) at c.in-Ok-write_lines.ensures.ok))
