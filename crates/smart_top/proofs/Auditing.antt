-- How a run of `audit` ends.
use Rattle.std.proofs.Common.{◌≡◌, ◌∙◌, ap, ℕ, List, Option, refl, subst, sym, inl}
use Rattle.script_play.specs.declared.status.Status.{Status}
use Rattle.script_play.specs.declared.status.Status.TheVariants as ends
use Rattle.audit_play.specs.declared.status.AuditStatus.{AuditStatus}
use Rattle.audit_play.specs.declared.status.AuditStatus.TheVariants as audits
use Rattle.audit_laws.specs.Completeness.{IsOfTrails}
use Rattle.audit_laws.proofs.Complete.{of-trails}
use Rattle.smart_top.specs.Audits.{status_of, AuditEnd, IsTrails, IsJudged}
use Rattle.audit_play.proofs.Consumed.{appends-nothing}

-- it had no memory before it read anything
pub unread_audit : (left written : Option (List ℕ)) (wants : ℕ) → AuditEnd left left written written wants wants ends.NoMemory
unread_audit left written wants = record { end = audits.NoMemory; status_is = refl; ended = inl (appends-nothing written) }

-- an audit never finds that words are no command
pub never_words : (end : AuditStatus) → status_of end ≡ ends.Words → ⊥
never_words audits.Coherent is = absurd (cc)
never_words audits.Empty is = absurd (cc)
never_words (audits.Form part) is = absurd (cc)
never_words audits.ReadFault is = absurd (cc)
never_words audits.WriteFault is = absurd (cc)
never_words (audits.Limit part) is = absurd (cc)
never_words (audits.Differs d) is = absurd (cc)
never_words audits.NoMemory is = absurd (cc)

-- the status of a fault is that of this fault alone

pub read_failed : (end : AuditStatus) → status_of end ≡ ends.ReadFault → end ≡ audits.ReadFault
read_failed audits.Coherent is = absurd (cc)
read_failed audits.Empty is = absurd (cc)
read_failed (audits.Form part) is = absurd (cc)
read_failed audits.ReadFault is = refl
read_failed audits.WriteFault is = absurd (cc)
read_failed (audits.Limit part) is = absurd (cc)
read_failed (audits.Differs d) is = absurd (cc)
read_failed audits.NoMemory is = absurd (cc)

pub write_failed : (end : AuditStatus) → status_of end ≡ ends.WriteFault → end ≡ audits.WriteFault
write_failed audits.Coherent is = absurd (cc)
write_failed audits.Empty is = absurd (cc)
write_failed (audits.Form part) is = absurd (cc)
write_failed audits.ReadFault is = absurd (cc)
write_failed audits.WriteFault is = refl
write_failed (audits.Limit part) is = absurd (cc)
write_failed (audits.Differs d) is = absurd (cc)
write_failed audits.NoMemory is = absurd (cc)

-- ---- completeness

judged-by : (end : AuditStatus) → IsOfTrails end → (end ≡ audits.ReadFault → ⊥) → (end ≡ audits.WriteFault → ⊥) → IsJudged (status_of end)
judged-by audits.Coherent of read write = tt
judged-by audits.Empty of read write = absurd of
judged-by (audits.Form part) of read write = absurd of
judged-by audits.ReadFault of read write = absurd (read refl)
judged-by audits.WriteFault of read write = absurd (write refl)
judged-by (audits.Limit part) of read write = absurd of
judged-by (audits.Differs d) of read write = tt
judged-by audits.NoMemory of read write = tt

-- an audit of trails of which neither source nor sink fails ends with its verdict, or for want of memory
pub audit_is_complete : (left left' written written' : Option (List ℕ)) (wants wants' : ℕ) (status : Status) → AuditEnd left left' written written' wants wants' status → IsTrails left
    → (status ≡ ends.ReadFault → ⊥) → (status ≡ ends.WriteFault → ⊥) → IsJudged status
audit_is_complete left left' written written' wants wants' status e input read write =
    let of : IsOfTrails e.end = of-trails left left' written written' wants wants' input.bytes input.trails e.end input.is input.read e.ended in
    subst IsJudged (sym e.status_is) (judged-by e.end of (λ is. read (e.status_is ∙ ap status_of is)) (λ is. write (e.status_is ∙ ap status_of is)))
