-- Trails that can be read are audited.
use Rattle.std.proofs.Common.{◌≡◌, ◌∙◌, ◌++◌, ℕ, List, Option, None, Some, ap, sym, subst}
use Rattle.std.proofs.lemmas.List.{append-nil}
use Rattle.std.specs.Io.KnownBytes.{Consumes, IsAtEnd}
use Rattle.audit_rules.specs.Readings.{AreRead, StopsAt, PassesLimit}
use Rattle.audit_rules.specs.declared.recorded.Recorded.{Recorded}
use Rattle.audit_play.specs.Ends.{Ended}
use Rattle.audit_play.specs.declared.status.AuditStatus.{AuditStatus}
use Rattle.audit_play.specs.declared.status.AuditStatus.TheVariants as ends
use Rattle.audit_laws.specs.Completeness.{IsOfTrails}
use Rattle.audit_laws.proofs.Exclusive.{never-stops, never-passes, never-empty}

-- an input that was consumed to its end is all that was left
pub same-input : (left' : Option (List ℕ)) (bytes input : List ℕ) → Consumes (Some bytes) left' input → IsAtEnd left' → bytes ≡ input
same-input None bytes input consumed end = absurd consumed
same-input (Some ys) bytes input consumed end = consumed ∙ (ap (λ (zs : List ℕ). input ++ zs) end ∙ append-nil input)

told-of : (left' written now : Option (List ℕ)) (wants wants' : ℕ) (bytes : List ℕ) (trails : List Recorded) (read : AreRead bytes trails) (status : AuditStatus)
    → Ended (Some bytes) left' written now wants wants' status → IsOfTrails status
told-of left' written now wants wants' bytes trails read ends.Coherent e = tt
told-of left' written now wants wants' bytes trails read ends.Empty e =
    never-empty bytes trails read (same-input left' bytes e.0.input e.0.consumed e.0.end ∙ e.0.holds)
told-of left' written now wants wants' bytes trails read (ends.Form part) e =
    never-stops bytes trails read part (subst (λ (xs : List ℕ). StopsAt xs part) (sym (same-input left' bytes e.0.input e.0.consumed e.0.end)) e.0.holds)
told-of left' written now wants wants' bytes trails read ends.ReadFault e = tt
told-of left' written now wants wants' bytes trails read ends.WriteFault e = tt
told-of left' written now wants wants' bytes trails read (ends.Limit part) e =
    never-passes bytes trails read part (subst (λ (xs : List ℕ). PassesLimit xs part) (sym (same-input left' bytes e.0.input e.0.consumed e.0.end)) e.0.holds)
told-of left' written now wants wants' bytes trails read (ends.Differs d) e = tt
told-of left' written now wants wants' bytes trails read ends.NoMemory e = tt

pub of-trails : (left left' written now : Option (List ℕ)) (wants wants' : ℕ) (bytes : List ℕ) (trails : List Recorded) (status : AuditStatus)
    → left ≡ Some bytes → AreRead bytes trails → Ended left left' written now wants wants' status → IsOfTrails status
of-trails left left' written now wants wants' bytes trails status is read e =
    told-of left' written now wants wants' bytes trails read status (subst (λ (l : Option (List ℕ)). Ended l left' written now wants wants' status) is e)
