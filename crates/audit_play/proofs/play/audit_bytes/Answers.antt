use Rattle.audit_play.proofs.Consumed.{appends-nothing}
use Rattle.audit_play.proofs.Telling.{told-ended}
use Rattle.audit_play.proofs.play.audit_bytes.Goals as goal

pub returns-in-Err-clause-ended : goal.returns-in-Err-clause-ended
returns-in-Err-clause-ended g c = λ left left' consumed end.
    c.fault_end.ensures.ended c.args.bytes.now left left' _ _ _ _ c.in-Err.ensures.fault consumed end (appends-nothing _)

pub returns-in-Ok-audit-clause-ended : goal.returns-in-Ok-audit-clause-ended
returns-in-Ok-audit-clause-ended g c = λ left left' consumed end.
    told-ended left left' _ _ _ _ c.args.bytes.now c.in-Ok.trails c.tell.result consumed end c.in-Ok.ensures.read (rw (c.in-Ok-audit.ensures, c.as_slice.ensures) at c.tell.ensures.told)
