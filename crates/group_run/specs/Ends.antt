-- How the run of a group ends.
use Rattle.std.specs.Prelude.{◌≡◌, ◌≤◌, ◌⊎◌, ℕ, Bool, true, length, take, is_some, ◌++◌, List, [], Option, None, Some, IfSome}
use Rattle.std.specs.Io.KnownBytes.{Appends}
use Rattle.faults.specs.Counts.{Rose}
use Rattle.client_quorum.specs.Clients.{fresh}
use Rattle.client_quorum.specs.declared.client.Acceptance.{Acceptance}
use Rattle.client_seat.specs.Asks.{client_of, polls_since}
use Rattle.audit_rules.specs.Audits.{first_difference}
use Rattle.audit_rules.specs.Coherence.{Coherent}
use Rattle.audit_rules.specs.Quiets.{is_quiet}
use Rattle.audit_rules.specs.declared.recorded.Recorded.{Recorded}
use Rattle.trail.specs.declared.event.TrailEvent.{TrailEvent}
use Rattle.group_client.specs.Lines.{accepted}
use Rattle.member_opening.specs.Devices.{images_at}
use Rattle.member_opening.specs.Rooms.{IsStill}
use Rattle.group_opening.specs.Berths.{IsLowest}
use Rattle.group_run.specs.Lines.{lines_of, all_lines}
use Rattle.group_run.specs.Parties.{ClientOver, GroupOver, StoreOver, trails_of, accepted_by}
use Rattle.group_opening.specs.Runs.{GroupRun}
use Rattle.group_run.specs.declared.status.GroupStatus.{GroupStatus}
use Rattle.group_run.specs.declared.status.GroupStatus.TheVariants as ends

-- what a client accepted, if it has lived
abbrev pub accepted_in : Option Recorded → List Acceptance
accepted_in None = []
accepted_in (Some t) = accepted t.opening t.events

-- with which status a run ends of which a store was not opened: an entry is refused, or a device failed
abbrev pub IsUnopened : GroupStatus → Type 0
IsUnopened ends.Ok = ⊥
IsUnopened (ends.Store entry) = Unit {0}
IsUnopened ends.WriteFault = ⊥
IsUnopened ends.TrailFault = ⊥
IsUnopened ends.DiskFault = Unit {0}
IsUnopened (ends.Differs d) = ⊥
IsUnopened (ends.GaveUp polls) = ⊥
IsUnopened ends.NoMemory = ⊥

module _ {S : Type 0} where
  -- ---- what was written

  -- the first line was written, and those of these acceptances
  abbrev pub WroteLines : GroupRun S → List Acceptance → Type 0
  WroteLines r accepted = Appends r.written_before r.written_after (lines_of r.settings.members r.settings.faulty accepted)

  -- The first line was written, and those of the first of these acceptances, all whole.
  pub record WroteSome (r : GroupRun S) (accepted : List Acceptance) : Type 0 where
    pub told : List Acceptance
    pub untold : List Acceptance
    pub split : accepted ≡ told ++ untold
    pub wrote : WroteLines r told

  -- A front of all lines was written: of the first one, those of these acceptances, and the last one.
  pub record WroteFirst (r : GroupRun S) (accepted : List Acceptance) : Type 0 where
    pub count : ℕ
    pub wrote : Appends r.written_before r.written_after (take count (all_lines r.settings.members r.settings.faulty accepted))

  -- nothing was written
  abbrev pub WroteNone : GroupRun S → Type 0
  WroteNone r = Appends r.written_before r.written_after []

  -- whole lines were written, or a front of all lines where the output wants memory
  abbrev pub WroteOrWants : GroupRun S → List Acceptance → Type 0
  WroteOrWants r accepted = WroteSome r accepted ⊎ (Rose r.wants_before r.wants_after × WroteFirst r accepted)

  -- What was written, by the status: whole lines, unless the output has failed or wants memory.
  abbrev pub WroteBy : GroupRun S → List Acceptance → GroupStatus → Type 0
  WroteBy r accepted ends.Ok = Appends r.written_before r.written_after (all_lines r.settings.members r.settings.faulty accepted)
  WroteBy r accepted (ends.Store entry) = ⊥
  WroteBy r accepted ends.WriteFault = WroteFirst r accepted
  WroteBy r accepted ends.TrailFault = WroteOrWants r accepted
  WroteBy r accepted ends.DiskFault = WroteOrWants r accepted
  WroteBy r accepted (ends.Differs d) = WroteLines r accepted
  WroteBy r accepted (ends.GaveUp polls) = WroteLines r accepted
  WroteBy r accepted ends.NoMemory = WroteOrWants r accepted

  -- ---- the causes

  -- The trails are whole and coherent, and all replies were accepted.
  pub record IsAccepted {r : GroupRun S} (over : GroupOver r) : Type 0 where
    pub whole : over.whole ≡ true
    pub coherent : Coherent (trails_of over)
    pub same : first_difference (trails_of over) ≡ None
    pub all : length (accepted_by over) ≡ r.settings.asks

  -- As many polls as were given, or more, were spent since some request, perhaps an earlier one. The number that is told is of those since the last request. The
  -- trails are whole and coherent, all is quiet, and the last request has no reply.
  pub record IsGivenUp {r : GroupRun S} (over : GroupOver r) (polls : ℕ) : Type 0 where
    pub whole : over.whole ≡ true
    pub coherent : Coherent (trails_of over)
    -- so many polls since one request found nothing, perhaps an earlier one
    pub front : List TrailEvent
    pub behind : List TrailEvent
    pub split : over.client.events ≡ front ++ behind
    pub spent : r.settings.turns ≤ polls_since 0 front
    pub polls_are : polls ≡ polls_since 0 over.client.events
    pub quiet : is_quiet (trails_of over) ≡ true
    pub waits : is_some (client_of r.settings.secret (fresh r.settings.view 1) over.client.events).waiting ≡ true

  -- what the trails show, by the status
  abbrev pub EndsBy : {r : GroupRun S} → GroupOver r → GroupStatus → Type 0
  EndsBy over ends.Ok = IsAccepted over
  EndsBy over (ends.Store entry) = ⊥
  EndsBy over ends.WriteFault = Unit {0}
  EndsBy over ends.TrailFault = Unit {0}
  EndsBy over ends.DiskFault = Unit {0}
  EndsBy over (ends.Differs d) = first_difference (trails_of over) ≡ Some d
  EndsBy over (ends.GaveUp polls) = IsGivenUp over polls
  EndsBy over ends.NoMemory = Unit {0}

  -- A group has lived, and its run ended with this status.
  pub record HasLived (r : GroupRun S) (status : GroupStatus) : Type 0 where
    pub over : GroupOver r
    pub ends : EndsBy over status
    pub wrote : WroteBy r (accepted_by over) status

  -- ---- a run without a life

  -- the store of a member is refused, and it is the lowest
  abbrev pub IsRefused : GroupRun S → ℕ → Type 0
  IsRefused r entry = IsLowest r.meaning r.told r.images r.settings entry

  -- with which status a run may end before a life
  abbrev pub RefusedBy : GroupRun S → GroupStatus → Type 0
  RefusedBy r ends.Ok = ⊥
  RefusedBy r (ends.Store entry) = IsRefused r entry
  RefusedBy r ends.WriteFault = Unit {0}
  RefusedBy r ends.TrailFault = Unit {0}
  RefusedBy r ends.DiskFault = Unit {0}
  RefusedBy r (ends.Differs d) = ⊥
  RefusedBy r (ends.GaveUp polls) = ⊥
  RefusedBy r ends.NoMemory = Unit {0}

  -- A front of the first line was written.
  pub record WroteLine (r : GroupRun S) : Type 0 where
    pub count : ℕ
    pub wrote : Appends r.written_before r.written_after (take count (lines_of r.settings.members r.settings.faulty []))

  -- what was written before a life: nothing, unless the output has failed or wants memory
  abbrev pub WroteBefore : GroupRun S → GroupStatus → Type 0
  WroteBefore r ends.Ok = ⊥
  WroteBefore r (ends.Store entry) = WroteNone r
  WroteBefore r ends.WriteFault = WroteLine r
  WroteBefore r ends.TrailFault = WroteNone r
  WroteBefore r ends.DiskFault = WroteNone r
  WroteBefore r (ends.Differs d) = ⊥
  WroteBefore r (ends.GaveUp polls) = ⊥
  WroteBefore r ends.NoMemory = WroteNone r ⊎ (Rose r.wants_before r.wants_after × WroteLine r)

  -- No member has lived. Of the lines at most a front of the first one is written.
  pub record HasNotLived (r : GroupRun S) (status : GroupStatus) : Type 0 where
    pub why : RefusedBy r status
    pub wrote : WroteBefore r status
    -- Where a store was not opened, the room of trails is as it was: the trails of the lives before are kept.
    pub still : IsUnopened status → IsStill r.trails
    -- Where a store is refused, the devices of all members hold what they held, if disks tell it.
    pub same : (entry : ℕ) → status ≡ ends.Store entry → r.told → (member : ℕ) → 1 ≤ member → member ≤ r.settings.members → images_at r.room.after r.settings.dir member ≡ r.images member

  -- ---- a run whose trails were not gathered

  -- with which status a run may end whose trails were not gathered, and what was written then. What has failed is told, and else that memory ran out.
  abbrev pub LostBy : GroupRun S → List Acceptance → GroupStatus → Type 0
  LostBy r accepted ends.Ok = ⊥
  LostBy r accepted (ends.Store entry) = ⊥
  LostBy r accepted ends.WriteFault = WroteFirst r accepted
  LostBy r accepted ends.TrailFault = WroteOrWants r accepted
  LostBy r accepted ends.DiskFault = WroteOrWants r accepted
  LostBy r accepted (ends.Differs d) = ⊥
  LostBy r accepted (ends.GaveUp polls) = ⊥
  LostBy r accepted ends.NoMemory = WroteOrWants r accepted

  -- Memory ran out before all trails were gathered. Of the client something is said: of its trail, if it has lived, and of the lines, which are by that trail. Of
  -- the members their stores are known, and not their trails. A seat that comes back from its lock is known by its number alone. If that is another one, the run ends so, too.
  pub record HasLost (r : GroupRun S) (status : GroupStatus) : Type 0 where
    pub client : Option Recorded
    pub whole : Bool
    pub asked : IfSome client (λ t. ClientOver r whole t)
    pub wrote : LostBy r (accepted_in client) status
    pub stores : (member : ℕ) → 1 ≤ member → member ≤ r.settings.members → StoreOver r member

  -- ---- all ends

  -- How the run of a group ended: before a life, by a life of all parties, or before all trails were gathered.
  abbrev pub GroupEnd : GroupRun S → GroupStatus → Type 0
  GroupEnd r status = HasNotLived r status ⊎ (HasLived r status ⊎ HasLost r status)
