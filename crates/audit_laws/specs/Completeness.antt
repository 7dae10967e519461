-- How audits of trails that can be read, and of fronts of a trail, may end.
use Rattle.audit_play.specs.declared.status.AuditStatus.{AuditStatus}
use Rattle.audit_play.specs.declared.status.AuditStatus.TheVariants as ends

-- an end of the audit of trails that can be read
abbrev pub IsOfTrails : AuditStatus → Type 0
IsOfTrails ends.Coherent = Unit {0}
IsOfTrails ends.Empty = ⊥
IsOfTrails (ends.Form part) = ⊥
IsOfTrails ends.ReadFault = Unit {0}
IsOfTrails ends.WriteFault = Unit {0}
IsOfTrails (ends.Limit part) = ⊥
IsOfTrails (ends.Differs d) = Unit {0}
IsOfTrails ends.NoMemory = Unit {0}

-- an end of the audit of a proper front of a trail
abbrev pub IsOfFront : AuditStatus → Type 0
IsOfFront ends.Coherent = ⊥
IsOfFront ends.Empty = Unit {0}
IsOfFront (ends.Form part) = Unit {0}
IsOfFront ends.ReadFault = Unit {0}
IsOfFront ends.WriteFault = ⊥
IsOfFront (ends.Limit part) = ⊥
IsOfFront (ends.Differs d) = ⊥
IsOfFront ends.NoMemory = Unit {0}
