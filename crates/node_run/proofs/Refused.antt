-- A run that ends before a life, by the fault for which it does.
use Rattle.std.proofs.Common.{◌≡◌, ℕ, true, false, Err, refl, sym, subst, arith}
use Rattle.faults.specs.Counts.{HasCause, Rose}
use Rattle.faults.specs.declared.Fault.{Fault}
use Rattle.faults.specs.declared.Fault.TheVariants.{Failed, NoMemory}
use Rattle.durable_store.specs.Disks.{DiskRose, NoneFell}
use Rattle.durable_store.specs.declared.disks.Disks.{Disks}
use Rattle.store_form.specs.declared.ends.LogFault.{LogFault}
use Rattle.store_form.specs.declared.ends.LogFault.TheVariants as logs
use Rattle.member_opening.specs.declared.fault.RestoreFault.{RestoreFault}
use Rattle.member_opening.specs.declared.fault.RestoreFault.TheVariants as faults
use Rattle.member_opening.specs.Rooms.{IsStill}
use Rattle.node_run.specs.Members.{HasNotLived, IsRefused, Run}
use Rattle.node_run.specs.Statuses.{restore_status, room_status, store_status, trail_status}
use Rattle.node_run.specs.declared.status.NodeStatus.{NodeStatus}
use Rattle.node_run.specs.declared.status.NodeStatus.TheVariants as ends

-- ---- why a status is that of a fault

pub trail-failed : {T : Type 0} (before now : ℕ) (fault : Fault) → HasCause {T = T} before now (Err fault) → trail_status fault ≡ ends.TrailFault → Rose before now
trail-failed before now Failed cause e = cause.failed refl
trail-failed before now NoMemory cause e = cc

pub room-failed : {T : Type 0} (before now : ℕ) (fault : Fault) → HasCause {T = T} before now (Err fault) → room_status fault ≡ ends.DiskFault → Rose before now
room-failed before now Failed cause e = cause.failed refl
room-failed before now NoMemory cause e = cc

pub store-failed : {D : Type 0} (counts : D → ℕ) (before now : Disks D) (fault : LogFault)
    → (fault ≡ logs.Disk false → DiskRose counts before now) → (fault ≡ logs.Disk true → ⊥) → store_status fault ≡ ends.DiskFault → DiskRose counts before now
store-failed counts before now (logs.Disk false) rose not-closed e = rose refl
store-failed counts before now (logs.Disk true) rose not-closed e = absurd (not-closed refl)
store-failed counts before now logs.NoMemory rose not-closed e = cc

-- ---- the statuses that are those of a fault

pub trail-else : (fault : Fault) (status : NodeStatus) → (status ≡ ends.TrailFault → ⊥) → (status ≡ ends.NoMemory → ⊥) → trail_status fault ≡ status → ⊥
trail-else Failed status failed memory e = failed (sym e)
trail-else NoMemory status failed memory e = memory (sym e)

pub room-else : (fault : Fault) (status : NodeStatus) → (status ≡ ends.DiskFault → ⊥) → (status ≡ ends.NoMemory → ⊥) → room_status fault ≡ status → ⊥
room-else Failed status failed memory e = failed (sym e)
room-else NoMemory status failed memory e = memory (sym e)

pub store-else : (fault : LogFault) (status : NodeStatus) → (status ≡ ends.DiskFault → ⊥) → (status ≡ ends.NoMemory → ⊥) → store_status fault ≡ status → ⊥
store-else (logs.Disk closed) status failed memory e = failed (sym e)
store-else logs.NoMemory status failed memory e = memory (sym e)

pub restore-else : (fault : RestoreFault) (status : NodeStatus) → ((entry : ℕ) → status ≡ ends.Store entry → ⊥) → (status ≡ ends.NoMemory → ⊥) → restore_status fault ≡ status → ⊥
restore-else (faults.Entry entry) status damaged memory e = damaged entry (sym e)
restore-else faults.NoMemory status damaged memory e = memory (sym e)

-- ---- devices that no call has changed

module _ {D : Type 0} (counts : D → ℕ) where
  same-fell : (a : Disks D) → NoneFell counts a a
  same-fell a = record { even_log = omega arith; odd_log = omega arith; even_slot = omega arith; odd_slot = omega arith }

  pub none-fell : (a b : Disks D) → b ≡ a → NoneFell counts a b
  none-fell a b is = subst (λ (d : Disks D). NoneFell counts a d) (sym is) (same-fell a)

-- ---- a run without a life

module _ {S : Type 0} (r : Run S) (status : NodeStatus) (unread : r.left_after ≡ r.left_before) (unwritten : r.written_after ≡ r.written_before) (trails : IsStill r.trails) where
  by-trail : (fault : Fault) → HasNotLived r (trail_status fault)
  by-trail Failed = record { why = tt; unread = unread; unwritten = unwritten; trails = trails }
  by-trail NoMemory = record { why = tt; unread = unread; unwritten = unwritten; trails = trails }

  by-room : (fault : Fault) → HasNotLived r (room_status fault)
  by-room Failed = record { why = tt; unread = unread; unwritten = unwritten; trails = trails }
  by-room NoMemory = record { why = tt; unread = unread; unwritten = unwritten; trails = trails }

  by-store : (fault : LogFault) → HasNotLived r (store_status fault)
  by-store (logs.Disk closed) = record { why = tt; unread = unread; unwritten = unwritten; trails = trails }
  by-store logs.NoMemory = record { why = tt; unread = unread; unwritten = unwritten; trails = trails }

  by-restored : (fault : RestoreFault) → ((entry : ℕ) → fault ≡ faults.Entry entry → IsRefused r entry) → HasNotLived r (restore_status fault)
  by-restored (faults.Entry entry) why = record { why = why entry refl; unread = unread; unwritten = unwritten; trails = trails }
  by-restored faults.NoMemory why = record { why = tt; unread = unread; unwritten = unwritten; trails = trails }

  pub for-trail : (fault : Fault) → status ≡ trail_status fault → HasNotLived r status
  for-trail fault is = subst (HasNotLived r) (sym is) (by-trail fault)

  pub for-room : (fault : Fault) → status ≡ room_status fault → HasNotLived r status
  for-room fault is = subst (HasNotLived r) (sym is) (by-room fault)

  pub for-store : (fault : LogFault) → status ≡ store_status fault → HasNotLived r status
  for-store fault is = subst (HasNotLived r) (sym is) (by-store fault)

  pub for-restored : (fault : RestoreFault) → ((entry : ℕ) → fault ≡ faults.Entry entry → IsRefused r entry) → status ≡ restore_status fault → HasNotLived r status
  for-restored fault why is = subst (HasNotLived r) (sym is) (by-restored fault why)
