-- The run of a member, from what its parts tell.
use Rattle.std.proofs.Common.{◌≡◌, ◌∙◌, inl, inr, ℕ, List, Option, Some, None, refl, sym, ap, subst, arith}
use Rattle.faults.specs.declared.Fault.{Fault}
use Rattle.faults.specs.declared.Fault.TheVariants.{Failed, NoMemory}
use Rattle.disk_model.specs.Cells.{Cells}
use Rattle.disk_model.specs.Rooms.{Address, KeepsOthers, address}
use Rattle.store_laws.specs.Restored.{Images, restores}
use Rattle.store_laws.specs.States.{Devices, store_opened}
use Rattle.store_laws.specs.declared.job.Kept.{Kept}
use Rattle.store_plan.specs.Plans.{state_with}
use Rattle.durable_store.specs.Stores.{Stands, state_of}
use Rattle.durable_store.specs.Disks.{AreSame, NoneFell, cells_of, contents}
use Rattle.durable_store.specs.declared.disks.Disks.{Disks}
use Rattle.durable_store.specs.declared.store.Store.{Store}
use Rattle.node_rules.specs.Nodes.{Node}
use Rattle.node_rules.specs.declared.node.Parts.{Parts}
use Rattle.member_opening.specs.Devices.{AreFree, AreHeld, AreWithin, KeepsBeside, devices_at}
use Rattle.member_opening.specs.Headings.{head_by}
use Rattle.member_opening.specs.Restorings.{node_by, parts_in, store_fault}
use Rattle.member_opening.specs.declared.settings.Settings.{Settings}
use Rattle.trail.specs.declared.opening.TrailOpening.{TrailOpening}
use Rattle.member_opening.specs.Rooms.{Room}
use Rattle.node_run.specs.Members.{HasLeft, HasLived, HasNotLived, HasStayed, IsRefused, KeepsRoom, KeepsTrails, LifeOver, MayLackDevices, RefusedBy, Run, RunEnd, RunOver, StoreOver}
use Rattle.member_opening.specs.Opened.{IsAsOpened, OpensWith}
use Rattle.node_run.specs.Statuses.{room_status}
use Rattle.node_run.specs.declared.status.NodeStatus.{NodeStatus}
use Rattle.node_run.specs.declared.status.NodeStatus.TheVariants as ends

-- ---- devices that hold what they held

-- the bytes that devices hold
abbrev bytes-of : Devices → Images
bytes-of d = record { even_log = d.even_log.now; odd_log = d.odd_log.now; even_slot = d.even_slot.now; odd_slot = d.odd_slot.now }

module _ {D : Type 0} (cells : D → Cells) (old new : Disks D) where
  same-cells : AreSame cells old new → cells_of cells new ≡ cells_of cells old
  same-cells same = rw (same.even_log, same.odd_log, same.even_slot, same.odd_slot) refl

  same-bytes : AreSame cells old new → contents cells new ≡ contents cells old
  same-bytes same = ap bytes-of (same-cells same)

  same-within : (before : Devices) → AreSame cells old new → AreWithin (cells_of cells old) before → AreWithin (cells_of cells new) before
  same-within before same within = subst (λ (d : Devices). AreWithin d before) (sym (same-cells same)) within

module _ {D : Type 0} (cells : D → Cells) where
  same-still : (d : Disks D) → AreSame cells d d
  same-still d = record { even_log = refl; odd_log = refl; even_slot = refl; odd_slot = refl }

  -- devices that no call has changed
  pub stays : (old new : Disks D) → new ≡ old → AreSame cells old new
  stays old new is = subst (λ (d : Disks D). AreSame cells old d) (sym is) (same-still old)

  pub stays-after : (old mid new : Disks D) → AreSame cells old mid → AreSame cells mid new → AreSame cells old new
  stays-after old mid new a b = record {
    even_log = b.even_log ∙ a.even_log;
    odd_log = b.odd_log ∙ a.odd_log;
    even_slot = b.even_slot ∙ a.even_slot;
    odd_slot = b.odd_slot ∙ a.odd_slot;
  }

-- ---- the rest of a room

-- the devices were had, and are back
pub keeps-room : (s : Settings) (before mid after : Address → Cells) (taken_before taken_mid taken_after : Address → Option ℕ)
    → KeepsBeside s.dir s.member before mid → KeepsBeside s.dir s.member mid after → KeepsBeside s.dir s.member taken_before taken_mid → KeepsBeside s.dir s.member taken_mid taken_after
    → AreFree taken_before s.dir s.member → AreFree taken_after s.dir s.member
    → KeepsRoom s (record { before = before; after = after; taken_before = taken_before; taken_after = taken_after })
keeps-room s before mid after taken_before taken_mid taken_after first second first-taken second-taken free back = record {
  beside = λ other a b c d. second other a b c d ∙ first other a b c d;
  beside_taken = λ other a b c d. second-taken other a b c d ∙ first-taken other a b c d;
  back = ((back.0.0 ∙ sym free.0.0, back.0.1 ∙ sym free.0.1), (back.1.0 ∙ sym free.1.0, back.1.1 ∙ sym free.1.1));
}

-- ---- the room of trails

-- a sink was had, and is back
pub keeps-trails : (s : Settings) (before mid after : Address → Option (List ℕ)) (taken_before taken_mid taken_after : Address → Option ℕ)
    → KeepsOthers (address s.dir s.member 0) before mid → KeepsOthers (address s.dir s.member 0) mid after
    → KeepsOthers (address s.dir s.member 0) taken_before taken_mid → KeepsOthers (address s.dir s.member 0) taken_mid taken_after
    → taken_before (address s.dir s.member 0) ≡ None → taken_after (address s.dir s.member 0) ≡ None
    → KeepsTrails s (record { before = before; after = after; taken_before = taken_before; taken_after = taken_after })
keeps-trails s before mid after taken_before taken_mid taken_after first second first-taken second-taken free back = record {
  others = λ other else. second other else ∙ first other else;
  others_taken = λ other else. second-taken other else ∙ first-taken other else;
  free = free;
  back = back;
}

-- ---- a store that is as the one that was opened

module _ {D : Type 0} (told : Type 0) (cells : D → Cells) (images : Images) (kept : Kept) (opened begun : Store D) (as_opened : IsAsOpened told opened begun) where
  state-alike : told → state_of cells begun ≡ state_of cells opened
  state-alike tells = as_opened.plan tells (cells_of cells begun.disks) ∙ ap (λ (d : Disks D). state_with opened.plan (cells_of cells d)) as_opened.disks

  opens-alike : OpensWith told cells images kept opened → OpensWith told cells images kept begun
  opens-alike opens = record {
    firm = as_opened.firm ∙ opens.firm;
    generation = as_opened.generation ∙ opens.generation;
    waiting = as_opened.waiting ∙ opens.waiting;
    is_open = as_opened.state ∙ opens.is_open;
    state = λ tells. state-alike tells ∙ opens.state tells;
    stands = λ tells. subst Stands (sym (state-alike tells)) (opens.stands tells);
  }

-- ---- over what a store restored

module _ {S : Type 0} (r : Run S) (kept : Kept) (restored : r.told → kept ≡ restores r.images) (parts : Parts) (are : parts ≡ parts_in kept) where
  -- the entry of this number has no meaning
  pub is-refused : (entry : ℕ) → store_fault r.meaning r.settings parts ≡ Some entry → IsRefused r entry
  is-refused entry fault = record { kept = kept; restored = restored; fault = ap (store_fault r.meaning r.settings) (sym are) ∙ fault }

  module _ (opening : Node S) (store : Store r.disk) (opens : OpensWith r.told r.cells r.images kept store) (disks : Disks r.disk) (status : NodeStatus) (none : store_fault r.meaning r.settings parts ≡ None)
      (is : opening ≡ node_by r.meaning r.settings parts) where
    opened-by : (begun : Store r.disk) → LifeOver r opening (head_by r.meaning r.settings parts) parts.entries begun disks status
        → LifeOver r (node_by r.meaning r.settings (parts_in kept)) (head_by r.meaning r.settings (parts_in kept)) kept.entries begun disks status
    opened-by begun over =
        subst (λ (p : Parts). LifeOver r (node_by r.meaning r.settings p) (head_by r.meaning r.settings p) p.entries begun disks status) are
        (subst (λ (n : Node S). LifeOver r n (head_by r.meaning r.settings parts) parts.entries begun disks status) is over)

    pub run-over : StoreOver r opening (head_by r.meaning r.settings parts) parts.entries store disks status → RunOver r store.disks disks status
    run-over (inl stayed) = inl stayed
    run-over (inr behind) = inr
        (record {
          kept = kept;
          restored = restored;
          whole = ap (store_fault r.meaning r.settings) (sym are) ∙ none;
          opened = behind.begun;
          opens = opens-alike r.told r.cells r.images kept store behind.begun behind.as_opened opens;
          over = opened-by behind.begun behind.over;
        })

-- the store was opened over devices that hold what they held
pub over-opened : {S : Type 0} (r : Run S) (old opened new : Disks r.disk) (status : NodeStatus) → (r.told → AreSame r.cells old opened) → RunOver r opened new status → RunOver r old new status
over-opened r old opened new status same (inl stayed) = inl (record { none = stayed.none; same = λ told. stays-after r.cells old opened new (same told) (stayed.same told) })
over-opened r old opened new status same (inr life) = inr life

-- ---- over the bytes of devices that a room had

module _ {S : Type 0} (r : Run S) (images : Images) (same : r.told → r.images ≡ images) where
  refused-still : (entry : ℕ) → IsRefused r entry → IsRefused (record r { images = images }) entry
  refused-still entry p = record { kept = p.kept; restored = λ told. p.restored told ∙ ap restores (same told); fault = p.fault }

  why-still : (status : NodeStatus) → RefusedBy r status → RefusedBy (record r { images = images }) status
  why-still ends.Ok why = why
  why-still (ends.Form frame) why = why
  why-still (ends.Store entry) why = refused-still entry why
  why-still ends.ReadFault why = why
  why-still ends.WriteFault why = why
  why-still ends.TrailFault why = why
  why-still ends.DiskFault why = why
  why-still ends.NoMemory why = why

  not-still : (status : NodeStatus) → HasNotLived r status → HasNotLived (record r { images = images }) status
  not-still status p = record { why = why-still status p.why; unread = p.unread; unwritten = p.unwritten; trails = p.trails }

  over-still : (opening : Node S) (head : TrailOpening) (entries : List (List ℕ)) (opened : Store r.disk) (disks : Disks r.disk) (status : NodeStatus) → LifeOver r opening head entries opened disks status
      → LifeOver (record r { images = images }) opening head entries opened disks status
  over-still opening head entries opened disks status p = record {
    store = p.store;
    left = p.left;
    begun = p.begun;
    empty = p.empty;
    told = p.told;
    trail = p.trail;
    keeps = p.keeps;
    life = p.life;
    rounds = p.rounds;
  }

  opens-still : (kept : Kept) (opened : Store r.disk) → OpensWith r.told r.cells r.images kept opened → OpensWith r.told r.cells images kept opened
  opens-still kept opened p = record {
    firm = p.firm;
    generation = p.generation;
    waiting = p.waiting;
    is_open = p.is_open;
    state = λ told. p.state told ∙ ap store_opened (same told);
    stands = p.stands;
  }

  lived-still : (disks : Disks r.disk) (status : NodeStatus) → HasLived r disks status → HasLived (record r { images = images }) disks status
  lived-still disks status p = record {
    kept = p.kept;
    restored = λ told. p.restored told ∙ ap restores (same told);
    whole = p.whole;
    opened = p.opened;
    opens = opens-still p.kept p.opened p.opens;
    over = over-still (node_by r.meaning r.settings (parts_in p.kept)) (head_by r.meaning r.settings (parts_in p.kept)) p.kept.entries p.opened disks status p.over;
  }

  -- ---- the devices are in their room again

  module _ (room : Room Cells) (keeps : KeepsRoom r.settings room) (taken : Disks r.disk)
      (held : r.told → contents r.cells taken ≡ images)
      (within : r.told → AreWithin (cells_of r.cells taken) (devices_at room.before r.settings.dir r.settings.member))
      (left : Disks r.disk) (back : r.told → devices_at room.after r.settings.dir r.settings.member ≡ cells_of r.cells left) (status : NodeStatus) where
    left-as-held : HasStayed r taken left status → HasLeft (record r { images = images }) room status
    left-as-held p = record {
      none = not-still status p.none;
      same = λ told. inl (ap bytes-of (back told) ∙ same-bytes r.cells taken left (p.same told) ∙ held told);
      within = λ told. subst (λ (d : Devices). AreWithin d (devices_at room.before r.settings.dir r.settings.member)) (sym (back told)) (same-within r.cells taken left (devices_at room.before r.settings.dir r.settings.member) (p.same told) (within told));
    }

    pub run-end : RunOver r taken left status → RunEnd (record r { images = images }) room status
    run-end (inl stayed) = record { keeps = keeps; ended = inl (left-as-held stayed) }
    run-end (inr life) = record { keeps = keeps; ended = inr (record { disks = left; devices = back; lived = lived-still left status life }) }

-- ---- a device could not be had

may-lack : (fault : Fault) → MayLackDevices (room_status fault)
may-lack Failed = tt
may-lack NoMemory = tt

pub not-had : {S : Type 0} (r : Run S) (room : Room Cells) (status : NodeStatus) (fault : Fault) → status ≡ room_status fault → KeepsRoom r.settings room
    → (r.told → AreWithin (devices_at room.after r.settings.dir r.settings.member) (devices_at room.before r.settings.dir r.settings.member)) → HasNotLived r status → RunEnd r room status
not-had r room status fault is keeps within none = record {
  keeps = keeps;
  ended = inl (record { none = none; same = λ told. inr (subst MayLackDevices (sym is) (may-lack fault)); within = within });
}
