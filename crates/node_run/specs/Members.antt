-- The run of a member: what its store restored, the life that it lived over it, and what is left in the room of its devices.
use Rattle.std.specs.Prelude.{◌≡◌, ◌⊎◌, ℕ, List, length, Option, Some, None, IfSome}
use Rattle.disk_model.specs.Cells.{Cells}
use Rattle.disk_model.specs.Rooms.{Address, KeepsOthers, address}
use Rattle.smart_service.specs.Services.{Meaning}
use Rattle.store_laws.specs.Restored.{Images, restores}
use Rattle.store_laws.specs.declared.job.Kept.{Kept}
use Rattle.durable_store.specs.Disks.{AreSame, cells_of}
use Rattle.durable_store.specs.declared.disks.Disks.{Disks}
use Rattle.durable_store.specs.declared.store.Store.{Store}
use Rattle.node_rules.specs.Nodes.{Node}
use Rattle.member_opening.specs.Devices.{AreAsBefore, AreWithin, KeepsBeside, devices_at, images_at}
use Rattle.member_opening.specs.Headings.{head_by}
use Rattle.member_opening.specs.Rooms.{IsStill, Room}
use Rattle.member_opening.specs.Restorings.{node_by, parts_in, store_fault}
use Rattle.member_opening.specs.declared.settings.Settings.{Settings}
use Rattle.node_rooms.specs.Texts.{IsEmpty}
use Rattle.trail.specs.declared.opening.TrailOpening.{TrailOpening}
use Rattle.node_run.specs.Lives.{LifeEnd}
use Rattle.member_opening.specs.Opened.{IsAsOpened, OpensWith}
use Rattle.node_run.specs.Rounds.{IsLeftBy}
use Rattle.node_run.specs.declared.status.NodeStatus.{NodeStatus}
use Rattle.node_run.specs.declared.status.NodeStatus.TheVariants as ends

-- What a run of a member was given, and what was left, written and kept before it and after it.
pub record Run (S : Type 0) : Type 1 where
  pub meaning : Meaning S
  pub settings : Settings
  -- the disks, and what each holds; whether disks tell that, and what a crash at an earlier moment might have left
  pub disk : Type 0
  pub told : Type 0
  pub remembers : Type 0
  pub cells : disk → Cells
  pub moment : disk → ℕ
  pub left_since : disk → ℕ → List ℕ → Type 0
  -- the bytes of the member's devices
  pub images : Images
  -- what was left of the input
  pub left_before : Option (List ℕ)
  pub left_after : Option (List ℕ)
  -- what was written to the output
  pub written_before : Option (List ℕ)
  pub written_after : Option (List ℕ)
  -- the sinks of trails, and what each tells of its text
  pub sink : Type 0
  pub text_of : sink → Option (List ℕ)
  -- the room of trails, and the text of each that it keeps, where it tells that
  pub trails : Room (Option (List ℕ))

-- A room keeps all trails but the member's. Its sink was free, and is free again.
pub record KeepsTrails (s : Settings) (trails : Room (Option (List ℕ))) : Type 0 where
  pub others : KeepsOthers (address s.dir s.member 0) trails.before trails.after
  pub others_taken : KeepsOthers (address s.dir s.member 0) trails.taken_before trails.taken_after
  pub free : trails.taken_before (address s.dir s.member 0) ≡ None
  pub back : trails.taken_after (address s.dir s.member 0) ≡ None

module _ {S : Type 0} where
  -- A life from this opening was lived over a store that was opened, and these devices are left of it: what some rounds made of them and of the count
  -- of firm entries, over the entries that the life made. Its trail is kept in its room, and all other trails there are as they were.
  pub record LifeOver (r : Run S) (opening : Node S) (head : TrailOpening) (entries : List (List ℕ)) (opened : Store r.disk) (disks : Disks r.disk) (status : NodeStatus) : Type 0 where
    pub store : Store r.disk
    pub left : disks ≡ store.disks
    -- the sink of its trail before the life, and after it
    pub begun : r.sink
    pub empty : IsEmpty (r.text_of begun)
    pub told : r.sink
    pub trail : IfSome (r.text_of told) (λ text. r.trails.after (address r.settings.dir r.settings.member 0) ≡ Some text)
    pub keeps : KeepsTrails r.settings r.trails
    pub life : LifeEnd (record {
      meaning = r.meaning;
      opening = opening;
      head = head;
      entries = entries;
      left_before = r.left_before;
      left_after = r.left_after;
      written_before = r.written_before;
      written_after = r.written_after;
      told_before = r.text_of begun;
      told_after = r.text_of told;
      firm = store.plan.firm;
    }) status
    pub rounds : IsLeftBy r.told r.remembers r.cells r.moment r.left_since r.meaning opening life.lived.trail (length entries) status opened store

  -- The same, over a store that is as the one that was opened.
  pub record LifeBehind (r : Run S) (opening : Node S) (head : TrailOpening) (entries : List (List ℕ)) (opened : Store r.disk) (disks : Disks r.disk) (status : NodeStatus) : Type 0 where
    pub begun : Store r.disk
    pub as_opened : IsAsOpened r.told opened begun
    pub over : LifeOver r opening head entries begun disks status

  -- A life was lived over what the store restored, which is what the devices held if they tell. Each of its entries has a meaning.
  pub record HasLived (r : Run S) (disks : Disks r.disk) (status : NodeStatus) : Type 0 where
    pub kept : Kept
    pub restored : r.told → kept ≡ restores r.images
    pub whole : store_fault r.meaning r.settings (parts_in kept) ≡ None
    pub opened : Store r.disk
    pub opens : OpensWith r.told r.cells r.images kept opened
    pub over : LifeOver r (node_by r.meaning r.settings (parts_in kept)) (head_by r.meaning r.settings (parts_in kept)) kept.entries opened disks status

  -- the entry of this number is the first without meaning
  pub record IsRefused (r : Run S) (entry : ℕ) : Type 0 where
    pub kept : Kept
    pub restored : r.told → kept ≡ restores r.images
    pub fault : store_fault r.meaning r.settings (parts_in kept) ≡ Some entry

  -- with which status a run may end before a life
  abbrev pub RefusedBy : Run S → NodeStatus → Type 0
  RefusedBy r ends.Ok = ⊥
  RefusedBy r (ends.Form frame) = ⊥
  RefusedBy r (ends.Store entry) = IsRefused r entry
  RefusedBy r ends.ReadFault = ⊥
  RefusedBy r ends.WriteFault = ⊥
  RefusedBy r ends.TrailFault = Unit {0}
  RefusedBy r ends.DiskFault = Unit {0}
  RefusedBy r ends.NoMemory = Unit {0}

  -- No life was lived. Nothing was read or written, and the room of trails is as it was: the trail of the life before is kept.
  pub record HasNotLived (r : Run S) (status : NodeStatus) : Type 0 where
    pub why : RefusedBy r status
    pub unread : r.left_after ≡ r.left_before
    pub unwritten : r.written_after ≡ r.written_before
    pub trails : IsStill r.trails

  -- No life was lived, and devices that tell what they hold do so of what they held.
  pub record HasStayed (r : Run S) (old new : Disks r.disk) (status : NodeStatus) : Type 0 where
    pub none : HasNotLived r status
    pub same : r.told → AreSame r.cells old new

  -- How the run of a member ended over a store that was just opened: before a life, or by one from this opening.
  abbrev pub StoreOver : (r : Run S) → Node S → TrailOpening → List (List ℕ) → Store r.disk → Disks r.disk → NodeStatus → Type 0
  StoreOver r opening head entries opened disks status = HasStayed r opened.disks disks status ⊎ LifeBehind r opening head entries opened disks status

  -- How the run of a member ended over these devices, of which those are left.
  abbrev pub RunOver : (r : Run S) → Disks r.disk → Disks r.disk → NodeStatus → Type 0
  RunOver r old new status = HasStayed r old new status ⊎ HasLived r new status

-- a status that a run may have whose devices could not be had
abbrev pub MayLackDevices : NodeStatus → Type 0
MayLackDevices ends.Ok = ⊥
MayLackDevices (ends.Form frame) = ⊥
MayLackDevices (ends.Store entry) = ⊥
MayLackDevices ends.ReadFault = ⊥
MayLackDevices ends.WriteFault = ⊥
MayLackDevices ends.TrailFault = ⊥
MayLackDevices ends.DiskFault = Unit {0}
MayLackDevices ends.NoMemory = Unit {0}

-- All other disks of a room are as they were. Of the member's devices as many are taken as before.
pub record KeepsRoom (s : Settings) (room : Room Cells) : Type 0 where
  pub beside : KeepsBeside s.dir s.member room.before room.after
  pub beside_taken : KeepsBeside s.dir s.member room.taken_before room.taken_after
  pub back : AreAsBefore room.taken_before room.taken_after s.dir s.member

module _ {S : Type 0} where
  -- A run without a life. The member's devices hold what they held, if disks tell it, unless one of them could not be had. A crash leaves nothing of
  -- them but what it might have left before.
  pub record HasLeft (r : Run S) (room : Room Cells) (status : NodeStatus) : Type 0 where
    pub none : HasNotLived r status
    pub same : r.told → (images_at room.after r.settings.dir r.settings.member ≡ r.images) ⊎ MayLackDevices status
    pub within : r.told → AreWithin (devices_at room.after r.settings.dir r.settings.member) (devices_at room.before r.settings.dir r.settings.member)

  -- A life of a run whose devices are in their room again.
  pub record HasKept (r : Run S) (room : Room Cells) (status : NodeStatus) : Type 0 where
    pub disks : Disks r.disk
    pub devices : r.told → devices_at room.after r.settings.dir r.settings.member ≡ cells_of r.cells disks
    pub lived : HasLived r disks status

  -- How the run of a member ended: before a life, or by one. It keeps the rest of the room.
  pub record RunEnd (r : Run S) (room : Room Cells) (status : NodeStatus) : Type 0 where
    pub keeps : KeepsRoom r.settings room
    pub ended : HasLeft r room status ⊎ HasKept r room status
