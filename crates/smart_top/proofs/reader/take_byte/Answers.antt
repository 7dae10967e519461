use Rattle.std.proofs.Common.{ap, arith, Err}
use Rattle.script_play.specs.Apps.{core_courses}
use Rattle.smart_top.proofs.Feeding.{byte-taken, byte-refused, byte-halted, is_other}
use Rattle.smart_top.proofs.reader.take_byte.Goals as goal

pub returns-clause-ok : goal.returns-clause-ok
returns-clause-ok g c = λ bytes written taken.
    byte-taken core_courses bytes written _ _ _ _ c.args.byte (is_other c.args.byte 10 c.if-byte-eq10.false) c.in_ok-push.ensures.ok (omega (arith, c.if-len-gt-LINE_BYTES.false, c.len.ensures.value)) taken

pub returns-in-Err-clause-halted : goal.returns-in-Err-clause-halted
returns-in-Err-clause-halted g c = λ bytes written taken.
    byte-halted core_courses bytes written _ _ _ c.push.new.self _ c.take_line.new.self c.args.byte c.in-Err.halt
    (is_other c.args.byte 10 c.if-byte-eq10.false) c.in_ok-push.ensures.ok (omega (arith, c.if-len-gt-LINE_BYTES.true, c.len.ensures.value)) taken
    (λ is. c.in-Err.ensures.refused (ap (λ halt. Err halt) is)) (λ is. c.in-Err.ensures.memory (ap (λ halt. Err halt) is))
    (rw (c.as_slice-then-len-gt-LINE_BYTES.ensures, c.in_ok-told.ensures.told, c.as_slice.ensures) at c.in-Err.ensures.err)

pub returns-then-len-gt-LINE_BYTES-clause-halted : goal.returns-then-len-gt-LINE_BYTES-clause-halted
returns-then-len-gt-LINE_BYTES-clause-halted g c = λ bytes written taken.
    byte-refused core_courses bytes written _ _ _ c.push.new.self _ c.take_line.new.self c.args.byte
    (is_other c.args.byte 10 c.if-byte-eq10.false) c.in_ok-push.ensures.ok (omega (arith, c.if-len-gt-LINE_BYTES.true, c.len.ensures.value)) taken
    (rw c.as_slice.ensures at c.in_ok-told.ensures.refused) (rw c.as_slice.ensures at c.in_ok-told.ensures.count)
    (rw (c.as_slice-then-len-gt-LINE_BYTES.ensures, c.in_ok-told.ensures.told, c.as_slice.ensures) at c.in_default.ensures.ok)
