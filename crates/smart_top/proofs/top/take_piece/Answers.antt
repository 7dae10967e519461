use Rattle.std.proofs.Common.{ap, inl, Err}
use Rattle.smart_top.proofs.Ending.{read-failed, read-unread, halted-end, consumes-keeps, consumes-then}
use Rattle.smart_top.proofs.Closing.{rose-later}
use Rattle.smart_top.proofs.top.take_piece.Goals as goal

pub returns-in-Err-Failed-clause-ended : goal.returns-in-Err-Failed-clause-ended
returns-in-Err-Failed-clause-ended g c = λ bytes left written wants goes le.
    read-failed left _ _ written _ bytes _ _ c.in-Err-Failed.ensures.bytes goes

pub returns-in-Err-NoMemory-clause-ended : goal.returns-in-Err-NoMemory-clause-ended
returns-in-Err-NoMemory-clause-ended g c = λ bytes left written wants goes le.
    inl (read-unread left _ written _ bytes _ _ (record { consumed = consumes-keeps left _ _ bytes goes.consumed c.in-Err-NoMemory.ensures.bytes; taken = goes.taken }))

pub returns-in-Err-clause-ended : goal.returns-in-Err-clause-ended
returns-in-Err-clause-ended g c = λ bytes left written wants goes le.
    let e = c.in-Err.ensures in
    rw c.halt_end.ensures
    (halted-end left _ written _ wants _ bytes c.split_at.result.0.now c.feed.new.reader.script c.in-Err.halt
    (consumes-then left _ _ bytes c.split_at.result.0.now goes.consumed (rw (← c.split_at.ensures.front) at c.in-Ok.ensures.bytes.0))
    (λ is. rose-later wants _ _ le (e.want (ap (λ halt. Err halt) is)))
    (e.halted bytes written goes.taken))
