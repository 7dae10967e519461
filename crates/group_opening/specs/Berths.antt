-- The members of a group whose stores are opened, before they run.
use Rattle.std.specs.Prelude.{◌≡◌, ◌≤◌, ◌<◌, ℕ, suc, false, List, [], ◌∷◌, length, Option, Some, None}
use Rattle.std.specs.Io.KnownBytes.{Appends}
use Rattle.disk_model.specs.Cells.{Cells}
use Rattle.disk_model.specs.Rooms.{Address, address}
use Rattle.durable_store.specs.Disks.{contents}
use Rattle.store_laws.specs.Restored.{Images, restores}
use Rattle.store_laws.specs.declared.job.Kept.{Kept}
use Rattle.smart_service.specs.Services.{Meaning}
use Rattle.snapshot_form.specs.Snapshots.{snapshot_text}
use Rattle.replica_rules.specs.Replicas.{empty}
use Rattle.member_opening.specs.Devices.{AreHeld, IsHeld}
use Rattle.member_opening.specs.Headings.{head_by}
use Rattle.member_opening.specs.Restorings.{node_by, parts_in, store_fault, KeepsCounts}
use Rattle.member_opening.specs.declared.settings.Settings.{Settings}
use Rattle.node_rooms.specs.Texts.{IsEmpty}
use Rattle.member_opening.specs.Opened.{IsOpened, OpensWith}
use Rattle.trail.specs.Trails.{trail_text}
use Rattle.trail.specs.declared.opening.TrailOpening.{TrailOpening}
use Rattle.group_opening.specs.Runs.{member_settings}
use Rattle.group_opening.specs.declared.berth.Berth.{Berth}
use Rattle.group_opening.specs.declared.settings.GroupSettings.{GroupSettings}

module _ {S D : Type 0} (m : Meaning S) (told : Type 0) (cells : D → Cells) where
  -- The store of a member is opened. Its core, and the head of its trail, are by what the store restored, of which each entry has a meaning.
  pub record IsBerth (images : Images) (s : Settings) (b : Berth S D) : Type 0 where
    pub settings_are : b.settings ≡ s
    pub kept : Kept
    pub restored : told → kept ≡ restores images
    pub whole : store_fault m s (parts_in kept) ≡ None
    -- the head of its trail tells this checkpoint from none
    pub other : (parts_in kept).snapshot ≡ Some (snapshot_text m (empty m s.view)) → ⊥
    pub entries_are : b.entries ≡ kept.entries
    pub node : b.core.node ≡ node_by m s (parts_in kept)
    pub unbroken : b.core.broken ≡ false
    pub counts : KeepsCounts (length kept.entries) b.core.node
    pub head_is : b.head ≡ head_by m s (parts_in kept)
    pub restored_are : b.store.plan.restored ≡ length kept.entries
    pub opened : IsOpened told cells b.store
    pub opens : OpensWith told cells images kept b.store

  -- members whose stores are opened, with the numbers from this one on
  abbrev pub AreBerths : (ℕ → Images) → GroupSettings → ℕ → List (Berth S D) → Type 0
  AreBerths images s first [] = Unit {0}
  AreBerths images s first (b ∷ berths) = IsBerth (images first) (member_settings s first) b × AreBerths images s (suc first) berths

-- this entry is the first of what a store restored that has no meaning
pub record IsRefusedBy {S : Type 0} (m : Meaning S) (told : Type 0) (images : Images) (s : Settings) (entry : ℕ) : Type 0 where
  pub kept : Kept
  pub restored : told → kept ≡ restores images
  pub fault : store_fault m s (parts_in kept) ≡ Some entry

-- each entry of what a store restored has a meaning
pub record HasMeaning {S : Type 0} (m : Meaning S) (told : Type 0) (images : Images) (s : Settings) : Type 0 where
  pub kept : Kept
  pub restored : told → kept ≡ restores images
  pub whole : store_fault m s (parts_in kept) ≡ None

-- The store of one member of a group is refused, and those of the members below it are not.
pub record IsLowest {S : Type 0} (m : Meaning S) (told : Type 0) (images : ℕ → Images) (s : GroupSettings) (entry : ℕ) : Type 0 where
  pub member : ℕ
  pub within : (1 ≤ member) × (member ≤ s.members)
  pub refused : IsRefusedBy m told (images member) (member_settings s member) entry
  pub others : (below : ℕ) → 1 ≤ below → below < member → HasMeaning m told (images below) (member_settings s below)

-- the devices of members with the numbers from this one on are taken from a room
abbrev pub AllHeld : {S D : Type 0} → (Address → Option ℕ) → (D → ℕ) → List ℕ → ℕ → List (Berth S D) → Type 0
AllHeld taken faults dir first [] = Unit {0}
AllHeld taken faults dir first (b ∷ berths) = (b.settings.member ≡ first) × (AreHeld taken faults dir first b.store.disks × AllHeld taken faults dir (suc first) berths)

-- the devices of the members with the numbers from one on hold these bytes
abbrev pub AllHold : {S D : Type 0} → (D → Cells) → (ℕ → Images) → ℕ → List (Berth S D) → Type 0
AllHold cells images first [] = Unit {0}
AllHold cells images first (b ∷ berths) = (contents cells b.store.disks ≡ images first) × AllHold cells images (suc first) berths

-- A sink of a trail is taken from its room, and has the head of the trail.
pub record IsHeaded {O : Type 0} (written : O → Option (List ℕ)) (faults : O → ℕ) (taken : Address → Option ℕ) (dir : List ℕ) (member : ℕ) (head : TrailOpening) (entries : List (List ℕ)) (sink : O) : Type 0 where
  pub held : IsHeld (taken (address dir member 0)) (faults sink)
  pub begun : O
  pub empty : IsEmpty (written begun)
  pub text : Appends (written begun) (written sink) (trail_text head entries [])
