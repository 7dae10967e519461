-- The status of a group's run: the lowest of several ends.
use Rattle.std.specs.Prelude.{ℕ, Bool, true, false, List, [], ◌∷◌, if◌then◌else◌}
use Rattle.audit_rules.specs.declared.recorded.Difference.{Difference}
use Rattle.audit_rules.specs.declared.recorded.Verdict.{Verdict}
use Rattle.audit_rules.specs.declared.recorded.Verdict.TheVariants as verdicts
use Rattle.faults.specs.declared.Fault.{Fault}
use Rattle.faults.specs.declared.Fault.TheVariants as faults
use Rattle.group_client.specs.declared.reply_line.LineFault.{LineFault}
use Rattle.group_client.specs.declared.reply_line.LineFault.TheVariants as lines
use Rattle.group_opening.specs.declared.berth.OpeningEnd.{OpeningEnd}
use Rattle.group_opening.specs.declared.berth.OpeningEnd.TheVariants as openings
use Rattle.group_run.specs.declared.status.Failures.{Failures}
use Rattle.group_run.specs.declared.status.GroupStatus.{GroupStatus}
use Rattle.group_run.specs.declared.status.GroupStatus.TheVariants as ends

-- the status of a run of which a line was not written
abbrev pub line_status : LineFault → GroupStatus
line_status lines.Failed = ends.WriteFault
line_status lines.SinkMemory = ends.NoMemory
line_status lines.NoMemory = ends.NoMemory

-- the status of a run whose stores were not opened
abbrev pub opening_status : OpeningEnd → GroupStatus
opening_status (openings.Store entry) = ends.Store entry
opening_status openings.Disk = ends.DiskFault
opening_status openings.NoMemory = ends.NoMemory

-- the status of a run whose trails were not begun
abbrev pub trail_status : Fault → GroupStatus
trail_status faults.Failed = ends.TrailFault
trail_status faults.NoMemory = ends.NoMemory

-- the status of a run in which something failed, if something did
abbrev pub failed_status : Failures → GroupStatus → GroupStatus
failed_status f behind =
    if f.output then ends.WriteFault
    else if f.trail then ends.TrailFault
    else if f.disk then ends.DiskFault
    else behind

-- The status of a run that was audited. Without a difference it is what is behind.
abbrev pub audited_status : Verdict → GroupStatus → GroupStatus
audited_status verdicts.Coherent behind = behind
audited_status (verdicts.Differs d) behind = ends.Differs d

-- The status of a coherent run: whether memory ran out; whether all replies were accepted; whether the polls since one request are spent, nothing happens and all is
-- quiet. Without any of these it is that memory ran out.
abbrev pub quiet_status : Bool → Bool → Bool → ℕ → GroupStatus
quiet_status wanted done quiet polls =
    if wanted then ends.NoMemory
    else if done then ends.Ok
    else if quiet then ends.GaveUp polls
    else ends.NoMemory

-- whether some of the last line may be written at such an end
abbrev pub tells_last : GroupStatus → Bool
tells_last ends.Ok = true
tells_last (ends.Store entry) = false
tells_last ends.WriteFault = true
tells_last ends.TrailFault = false
tells_last ends.DiskFault = false
tells_last (ends.Differs d) = false
tells_last (ends.GaveUp polls) = false
tells_last ends.NoMemory = true

-- whether such an end comes of a store or of a failure
abbrev pub fails : GroupStatus → Bool
fails ends.Ok = false
fails (ends.Store entry) = true
fails ends.WriteFault = true
fails ends.TrailFault = true
fails ends.DiskFault = true
fails (ends.Differs d) = false
fails (ends.GaveUp polls) = false
fails ends.NoMemory = false
