-- What an audit has read and written, by its status.
use Rattle.std.specs.Prelude.{ℕ, ◌≡◌, ◌⊎◌, List, [], Option, Some, take}
use Rattle.std.specs.Io.KnownBytes.{Appends, Consumes, IsAtEnd}
use Rattle.faults.specs.Counts.{Rose}
use Rattle.audit_rules.specs.Audits.{first_difference, verdict_of}
use Rattle.audit_rules.specs.Coherence.{Coherent}
use Rattle.audit_rules.specs.Readings.{AreRead, StopsAt, PassesLimit}
use Rattle.audit_rules.specs.declared.recorded.Recorded.{Recorded}
use Rattle.audit_rules.specs.declared.recorded.Difference.{Difference}
use Rattle.audit_rules.specs.declared.recorded.Verdict.{Verdict}
use Rattle.audit_rules.specs.declared.recorded.Verdict.TheVariants as verdicts
use Rattle.audit_play.specs.Texts.{verdict_text}
use Rattle.audit_play.specs.declared.status.AuditStatus.{AuditStatus}
use Rattle.audit_play.specs.declared.status.AuditStatus.TheVariants as ends

-- the end of the writing of a verdict's line, by the status
abbrev pub Told : Verdict → Option (List ℕ) → Option (List ℕ) → ℕ → ℕ → AuditStatus → Type 0
Told verdict written written' wants wants' ends.Coherent = (verdict ≡ verdicts.Coherent) × Appends written written' (verdict_text verdict)
Told verdict written written' wants wants' ends.Empty = ⊥
Told verdict written written' wants wants' (ends.Form part) = ⊥
Told verdict written written' wants wants' ends.ReadFault = ⊥
Told verdict written written' wants wants' ends.WriteFault = (count : ℕ) × Appends written written' (take count (verdict_text verdict))
Told verdict written written' wants wants' (ends.Limit part) = ⊥
Told verdict written written' wants wants' (ends.Differs d) = (verdict ≡ verdicts.Differs d) × Appends written written' (verdict_text verdict)
Told verdict written written' wants wants' ends.NoMemory = Appends written written' [] ⊎ (Rose wants wants' × ((count : ℕ) × Appends written written' (take count (verdict_text verdict))))

-- an input that was read to its end, of which something holds
pub record WasRead (left left' : Option (List ℕ)) (P : List ℕ → Type 0) : Type 0 where
  pub input : List ℕ
  pub consumed : Consumes left left' input
  pub end : IsAtEnd left'
  pub holds : P input

-- an input that was not read to its end; nothing is written
pub record WasBroken (left left' written written' : Option (List ℕ)) : Type 0 where
  pub read : List ℕ
  pub consumed : Consumes left left' read
  pub text : Appends written written' []

-- trails without a difference: they are coherent, and the line that tells it is written
pub record AreCoherent (written written' : Option (List ℕ)) (input : List ℕ) : Type 0 where
  pub trails : List Recorded
  pub read : AreRead input trails
  pub coherent : Coherent trails
  pub text : Appends written written' (verdict_text verdicts.Coherent)

-- trails with a first difference: they are not coherent, and the line that tells the difference is written
pub record AreDifferent (d : Difference) (written written' : Option (List ℕ)) (input : List ℕ) : Type 0 where
  pub trails : List Recorded
  pub read : AreRead input trails
  pub first : first_difference trails ≡ Some d
  pub incoherent : Coherent trails → ⊥
  pub text : Appends written written' (verdict_text (verdicts.Differs d))

-- trails of whose line a front is written
pub record AreBegun (written written' : Option (List ℕ)) (input : List ℕ) : Type 0 where
  pub trails : List Recorded
  pub read : AreRead input trails
  pub count : ℕ
  pub text : Appends written written' (take count (verdict_text (verdict_of (first_difference trails))))

-- What an audit has read and written, by its status. After want of memory it has written nothing, unless the sink wanted memory.
abbrev pub Ended : Option (List ℕ) → Option (List ℕ) → Option (List ℕ) → Option (List ℕ) → ℕ → ℕ → AuditStatus → Type 0
Ended left left' written written' wants wants' ends.Coherent = WasRead left left' (AreCoherent written written')
Ended left left' written written' wants wants' ends.Empty = WasRead left left' (λ input. input ≡ []) × Appends written written' []
Ended left left' written written' wants wants' (ends.Form part) = WasRead left left' (λ input. StopsAt input part) × Appends written written' []
Ended left left' written written' wants wants' ends.ReadFault = WasBroken left left' written written'
Ended left left' written written' wants wants' ends.WriteFault = WasRead left left' (AreBegun written written')
Ended left left' written written' wants wants' (ends.Limit part) = WasRead left left' (λ input. PassesLimit input part) × Appends written written' []
Ended left left' written written' wants wants' (ends.Differs d) = WasRead left left' (AreDifferent d written written')
Ended left left' written written' wants wants' ends.NoMemory = Appends written written' [] ⊎ (Rose wants wants' × WasRead left left' (AreBegun written written'))
