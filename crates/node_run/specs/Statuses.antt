-- The status of a node, by how its loops ended.
use Rattle.std.specs.Prelude.{Bool, true, false, ◌==◌, ◌&&◌, if◌then◌else◌}
use Rattle.faults.specs.declared.Fault.{Fault}
use Rattle.faults.specs.declared.Fault.TheVariants.{Failed, NoMemory}
use Rattle.member_opening.specs.declared.fault.RestoreFault.{RestoreFault}
use Rattle.member_opening.specs.declared.fault.RestoreFault.TheVariants as restores
use Rattle.store_form.specs.declared.ends.LogFault.{LogFault}
use Rattle.store_form.specs.declared.ends.LogFault.TheVariants as logs
use Rattle.node_endings.specs.Loops.{is_done}
use Rattle.node_endings.specs.declared.ending.Ends.{Ends}
use Rattle.node_endings.specs.declared.ending.LoopEnd.{LoopEnd}
use Rattle.node_endings.specs.declared.ending.LoopEnd.TheVariants as loops
use Rattle.group_links.specs.declared.ends.LinkEnd.{LinkEnd}
use Rattle.node_run.specs.declared.status.NodeStatus.{NodeStatus}
use Rattle.node_run.specs.declared.status.NodeStatus.TheVariants as statuses

-- loops each of which has done all that was due
abbrev pub is_whole : Ends → Bool
is_whole ends = is_done ends.received && is_done ends.delivered && is_done ends.sent && is_done ends.logged && is_done ends.checked

-- whether a loop ended for a failure
abbrev pub has_failed : LoopEnd → Bool
has_failed loops.Done = false
has_failed loops.Over = false
has_failed (loops.Form frame) = false
has_failed loops.Failed = true
has_failed loops.NoMemory = false

-- the status of a node whose input told of no fault
abbrev pub status_behind : Ends → Bool → Bool → NodeStatus
status_behind ends failed settled =
    if has_failed ends.sent then statuses.WriteFault
    else if failed then statuses.TrailFault
    else if has_failed ends.logged then statuses.DiskFault
    else if settled && is_whole ends then statuses.Ok
    else statuses.NoMemory

-- the same, by how the loop ended that reads the input
abbrev pub status_by : LoopEnd → NodeStatus → NodeStatus
status_by loops.Done behind = behind
status_by loops.Over behind = behind
status_by (loops.Form frame) behind = statuses.Form frame
status_by loops.Failed behind = statuses.ReadFault
status_by loops.NoMemory behind = behind

-- The status of a node whose loops have ended: the lowest of several. Whether the trail has failed, and whether nothing was left to do, is told
-- beside them.
abbrev pub status_of : Ends → Bool → Bool → NodeStatus
status_of ends failed settled = status_by ends.received (status_behind ends failed settled)

abbrev pub trail_status : Fault → NodeStatus
trail_status Failed = statuses.TrailFault
trail_status NoMemory = statuses.NoMemory

abbrev pub room_status : Fault → NodeStatus
room_status Failed = statuses.DiskFault
room_status NoMemory = statuses.NoMemory

abbrev pub store_status : LogFault → NodeStatus
store_status (logs.Disk closed) = statuses.DiskFault
store_status logs.NoMemory = statuses.NoMemory

abbrev pub restore_status : RestoreFault → NodeStatus
restore_status (restores.Entry entry) = statuses.Store entry
restore_status restores.NoMemory = statuses.NoMemory

-- links that have carried all that was put on them
abbrev pub all_went : LinkEnd → LinkEnd → Bool
all_went arriving leaving = (arriving.taken == arriving.put) && (leaving.taken == leaving.put)
