-- What the run of a group is given, and what it leaves.
use Rattle.std.specs.Prelude.{ℕ, List, [], Option}
use Rattle.disk_model.specs.Cells.{Cells}
use Rattle.disk_model.specs.Rooms.{Address}
use Rattle.store_laws.specs.Restored.{Images}
use Rattle.trail.specs.declared.opening.App.TheVariants.{Count}
use Rattle.trail.specs.declared.opening.TrailOpening.{TrailOpening}
use Rattle.member_opening.specs.declared.settings.Settings.{Settings}
use Rattle.member_opening.specs.Rooms.{Room}
use Rattle.smart_service.specs.Services.{Meaning}
use Rattle.group_opening.specs.declared.settings.GroupSettings.{GroupSettings}

-- A run of a group: what it was given, and what was written and kept before it and after it.
pub record GroupRun (S : Type 0) : Type 1 where
  pub meaning : Meaning S
  pub settings : GroupSettings
  -- the disks, and what each holds; whether disks tell that, and what a crash at an earlier moment might have left
  pub disk : Type 0
  pub told : Type 0
  pub remembers : Type 0
  pub cells : disk → Cells
  pub moment : disk → ℕ
  pub left_since : disk → ℕ → List ℕ → Type 0
  -- the bytes of each member's devices
  pub images : ℕ → Images
  -- what was written to the output, and how often it wanted memory
  pub written_before : Option (List ℕ)
  pub written_after : Option (List ℕ)
  pub wants_before : ℕ
  pub wants_after : ℕ
  -- the sinks of trails, and what each tells of its text
  pub sink : Type 0
  pub text_of : sink → Option (List ℕ)
  -- the room of disks, and that of trails with the text of each that it keeps, where it tells that
  pub room : Room Cells
  pub trails : Room (Option (List ℕ))

-- A room before a run: what it keeps at each address, and what is taken there.
pub record RoomBefore (Content : Type 0) : Type 0 where
  pub kept : Address → Content
  pub taken : Address → Option ℕ

-- the settings of a member
abbrev pub member_settings : GroupSettings → ℕ → Settings
member_settings s member = record { member = member; dir = s.dir; secret = s.secret; view = s.view; period = s.period; app = Count }

-- with what the trail of the client begins
abbrev pub client_head : GroupSettings → TrailOpening
client_head s = record { member = 0; period = s.period; view = s.view; app = Count; secret = s.secret; snapshot = []; entries = 0 }
