-- What a run of `node` has read, written and kept, by its status.
use Rattle.std.specs.Prelude.{◌≡◌, ℕ, List, Option, Some, None}
use Rattle.std.specs.List.{flat_map}
use Rattle.smart_base.specs.Lists.{Each}
use Rattle.smart_base.specs.Views.{View}
use Rattle.disk_model.specs.Cells.{Cells}
use Rattle.frame_stream.specs.Frames.{framed, IsShort}
use Rattle.store_laws.specs.Restored.{Images, restores}
use Rattle.app_kv.specs.Snapshots.{keeping}
use Rattle.app_kv.specs.declared.store.Entry.{Entry}
use Rattle.world_rules.specs.Scripts.{members_from}
use Rattle.world_rules.specs.declared.line.Kind.TheVariants.{Form}
use Rattle.script_play.specs.declared.status.Status.{Status}
use Rattle.script_play.specs.declared.status.Status.TheVariants as ends
use Rattle.command_words.specs.declared.node_words.GroupSize.{GroupSize}
use Rattle.command_words.specs.declared.node_words.NodeWords.{NodeWords}
use Rattle.trail.specs.declared.opening.App.TheVariants as apps
use Rattle.member_opening.specs.Restorings.{parts_in, store_fault}
use Rattle.member_opening.specs.declared.settings.Settings.{Settings}
use Rattle.member_opening.specs.Rooms.{Room}
use Rattle.node_run.specs.Members.{Run, RunEnd}
use Rattle.node_run.specs.declared.status.NodeStatus.{NodeStatus}
use Rattle.node_run.specs.declared.status.NodeStatus.TheVariants as nodes

-- the first view of a group: members 1, 2 and so on
abbrev pub first_view : GroupSize → View
first_view g = record { number = 0; start = 1; f = g.faulty; members = members_from 1 g.members }

-- which node words name: it replicates values by keys
abbrev pub settings_of : NodeWords → Settings
settings_of w = record { member = w.id; dir = w.dir; secret = w.secret; view = first_view w.group; period = w.period; app = apps.Kv }

-- the status of the program, by that of the node. A frame without meaning is told as a line is.
abbrev pub status_by : NodeStatus → Status
status_by nodes.Ok = ends.Ok
status_by (nodes.Form frame) = ends.Script frame Form
status_by (nodes.Store entry) = ends.Store entry
status_by nodes.ReadFault = ends.ReadFault
status_by nodes.WriteFault = ends.WriteFault
status_by nodes.TrailFault = ends.TrailFault
status_by nodes.DiskFault = ends.DiskFault
status_by nodes.NoMemory = ends.NoMemory

-- an input that tells what it holds: whole frames within the limit
pub record IsFrames (left : Option (List ℕ)) : Type 0 where
  pub frames : List (List ℕ)
  pub is : left ≡ Some (flat_map framed frames)
  pub short : Each IsShort frames

-- devices that hold nothing without meaning to the node that words name
abbrev pub HaveMeaning : NodeWords → Images → Type 0
HaveMeaning w images = store_fault keeping (settings_of w) (parts_in (restores images)) ≡ None

-- How a run of `node` ended, and what it left in the rooms of its devices and of its trail.
pub record NodeEnd (r : Run (List Entry)) (room : Room Cells) (status : Status) : Type 0 where
  pub node : NodeStatus
  pub is : status ≡ status_by node
  pub ended : RunEnd r room node
