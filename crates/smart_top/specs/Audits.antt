-- What a run of `audit` has read and written, by its status.
use Rattle.std.specs.Prelude.{ℕ, ◌≡◌, List, Option, Some}
use Rattle.audit_rules.specs.Readings.{AreRead}
use Rattle.audit_rules.specs.declared.recorded.Recorded.{Recorded}
use Rattle.audit_rules.specs.declared.recorded.Found.{Found}
use Rattle.audit_rules.specs.declared.recorded.Found.TheVariants as finds
use Rattle.world_rules.specs.declared.line.Kind.TheVariants as kinds
use Rattle.script_play.specs.declared.status.DifferenceKind.{DifferenceKind}
use Rattle.script_play.specs.declared.status.DifferenceKind.TheVariants as differences
use Rattle.script_play.specs.declared.status.Status.{Status}
use Rattle.script_play.specs.declared.status.Status.TheVariants as ends
use Rattle.audit_play.specs.Ends.{Ended}
use Rattle.audit_play.specs.declared.status.AuditStatus.{AuditStatus}
use Rattle.audit_play.specs.declared.status.AuditStatus.TheVariants as audits

abbrev pub kind_of : Found → DifferenceKind
kind_of (finds.Sent expected found) = differences.Sent
kind_of (finds.Stated statement) = differences.Stated

-- the status of the program, by the end of an audit. Each status is that of one end, but for what was expected and what was found.
abbrev pub status_of : AuditStatus → Status
status_of audits.Coherent = ends.Ok
status_of audits.Empty = ends.Script 1 kinds.Empty
status_of (audits.Form part) = ends.Script part kinds.Form
status_of audits.ReadFault = ends.ReadFault
status_of audits.WriteFault = ends.WriteFault
status_of (audits.Limit part) = ends.Limit part
status_of (audits.Differs d) = ends.Differs (kind_of d.found) d.member d.event
status_of audits.NoMemory = ends.NoMemory

-- What a run of `audit` has read and written: that of an audit which ends so. Of a difference the end has what was expected and what was found.
pub record AuditEnd (left left' written written' : Option (List ℕ)) (wants wants' : ℕ) (status : Status) : Type 0 where
  pub end : AuditStatus
  pub status_is : status ≡ status_of end
  pub ended : Ended left left' written written' wants wants' end

-- an input that tells what it holds: trails that can be read
pub record IsTrails (left : Option (List ℕ)) : Type 0 where
  pub bytes : List ℕ
  pub trails : List Recorded
  pub is : left ≡ Some bytes
  pub read : AreRead bytes trails

-- a verdict on trails, or want of memory
abbrev pub IsJudged : Status → Type 0
IsJudged ends.Ok = Unit {0}
IsJudged ends.Words = ⊥
IsJudged (ends.Script line kind) = ⊥
IsJudged (ends.Store entry) = ⊥
IsJudged ends.ReadFault = ⊥
IsJudged ends.WriteFault = ⊥
IsJudged ends.TrailFault = ⊥
IsJudged ends.DiskFault = ⊥
IsJudged (ends.Premise line which) = ⊥
IsJudged (ends.Limit line) = ⊥
IsJudged (ends.Differs kind member event) = Unit {0}
IsJudged (ends.GaveUp client polls) = ⊥
IsJudged ends.NoMemory = Unit {0}
