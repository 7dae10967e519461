-- What is left of a group that has run, by what its parties began with.
use Rattle.std.specs.Prelude.{◌≡◌, ◌≤◌, ◌-◌, ◌^◌, ◌++◌, min, ℕ, suc, true, false, List, [], ◌∷◌, Option, None, IfSome, is_some}
use Rattle.faults.specs.Counts.{Rose}
use Rattle.disk_model.specs.Cells.{Cells}
use Rattle.disk_model.specs.Rooms.{Address, address}
use Rattle.durable_store.specs.Disks.{DiskRose, NoneFell}
use Rattle.durable_store.specs.declared.disks.Disks.{Disks}
use Rattle.smart_service.specs.Services.{Meaning}
use Rattle.store_laws.specs.Restored.{Images}
use Rattle.member_opening.specs.Devices.{AreHeld, IsHeld}
use Rattle.trail.specs.declared.event.TrailEvent.{TrailEvent}
use Rattle.trail.specs.declared.opening.TrailOpening.{TrailOpening}
use Rattle.client_quorum.specs.Clients.{fresh}
use Rattle.client_quorum.specs.declared.client.Client.{Client}
use Rattle.client_seat.specs.Asks.{client_of, polls_since}
use Rattle.group_ends.specs.Ports.{ends, port_links, inbox_links}
use Rattle.group_client.specs.Amounts.{AsksUpTo}
use Rattle.group_client.specs.Lines.{accepted, IsTold, IsToldFirst, IsToldWhole}
use Rattle.group_client.specs.Loops.{Output}
use Rattle.group_client.specs.declared.asking.ClientFault.TheVariants as faults_of
use Rattle.group_parties.specs.Courses.{is_cut_off, is_line_cut}
use Rattle.group_parties.specs.Crews.{begun_of, AreFit, IsCrew, IsFit}
use Rattle.group_parties.specs.Manned.{IsLeftOver, IsSinceOpened}
use Rattle.group_parties.specs.Origins.{Origin}
use Rattle.group_opening.specs.Runs.{client_head}
use Rattle.group_parties.specs.Seated.{IsClientLeft}
use Rattle.group_parties.specs.Stations.{Names}
use Rattle.group_parties.specs.declared.client.ClientStation.{ClientStation}
use Rattle.group_parties.specs.declared.course.Rest.{Rest}
use Rattle.group_parties.specs.declared.crew.Crew.{Crew}
use Rattle.group_parties.specs.declared.crew.Headed.{Headed}
use Rattle.group_parties.specs.declared.ending.ClientLeft.{ClientLeft}
use Rattle.group_parties.specs.declared.ending.Lived.{Lived}
use Rattle.group_parties.specs.declared.ending.MemberEnd.{MemberEnd}
use Rattle.group_parties.specs.declared.running.CourseEnd.{CourseEnd}
use Rattle.group_parties.specs.declared.running.CourseEnd.TheVariants as courses
use Rattle.group_parties.specs.declared.seating.Station.{Station}
use Rattle.group_opening.specs.declared.settings.GroupSettings.{GroupSettings}

-- ---- the client

-- What the client's trail says of its course: what it asked, why it ended, and which lines were written of what it accepted.
pub record HasCourse (s : GroupSettings) (polls : ℕ) (end : CourseEnd) (l : Lived) (before after : Output) : Type 0 where
  pub asked : AsksUpTo s.asks l.events
  pub done : end ≡ courses.Done → l.whole ≡ true → ((client_of s.secret (fresh s.view 1) l.events).waiting ≡ None) × ((client_of s.secret (fresh s.view 1) l.events).last ≡ s.asks)
  pub still : end ≡ courses.Still → l.whole ≡ true → (is_some (client_of s.secret (fresh s.view 1) l.events).waiting ≡ true) × ((front : List TrailEvent) × ((behind : List TrailEvent) × ((l.events ≡ front ++ behind) × (s.turns ≤ polls_since 0 front))))
  pub polls_are : l.whole ≡ true → polls ≡ min (polls_since 0 l.events) (2 ^ 64 - 1)
  pub told : is_cut_off end ≡ false → IsTold [] (accepted (client_head s) l.events) before.written after.written
  pub told_first : IsToldFirst [] (accepted (client_head s) l.events) before.written after.written
  pub lines : is_line_cut end ≡ false → IsToldWhole [] (accepted (client_head s) l.events) before.written after.written

module _ {O : Type 0} (written : O → Option (List ℕ)) (faults : O → ℕ) where
  -- what is left of the client
  pub record IsClientEnded (s : GroupSettings) (c : ClientStation O) (e : ClientLeft O) (end : CourseEnd) (before after : Output) : Type 0 where
    pub failed : e.failed ≡ true → Rose (faults c.sink) (faults e.sink)
    pub lived : IfSome e.lived (λ (l : Lived). IsClientLeft (client_head s) [] written (begun_of (client_head s) [] (written c.sink)) (ends c.row.ports.items) (port_links c.row.ports.items) (inbox_links c.inbox.links.items) e.sink l × HasCourse s e.polls end l before after)
    -- without a seat nothing was written
    pub none : e.lived ≡ None → after ≡ before
    pub output : end ≡ courses.GaveUp faults_of.Output → Rose before.faults after.faults
    pub want : end ≡ courses.GaveUp faults_of.OutputMemory → Rose before.wants after.wants
    pub later : (before.faults ≤ after.faults) × (before.wants ≤ after.wants)

-- ---- the members

module _ {S D O : Type 0} (n : Names S) (m : Meaning S) (told remembers : Type 0) (cells : D → Cells) (moment : D → ℕ) (left_since : D → ℕ → List ℕ → Type 0) (counts : D → ℕ) (written : O → Option (List ℕ)) (faults : O → ℕ) (origins : ℕ → Origin) (begun : ℕ → Disks D) where
  -- What is left of a member that had a seat, by its name.
  pub record IsEndedBy (e : MemberEnd D O) : Type 0 where
    pub later : NoneFell counts (begun e.member) e.store.disks
    pub worn : e.worn ≡ true → DiskRose counts (begun e.member) e.store.disks
    pub failed : e.failed ≡ true → Rose (n.failures e.member) (faults e.sink)
    pub since : IsSinceOpened told remembers cells moment left_since m (origins e.member) (n.opening e.member) (n.restored e.member) e.store
    pub lived : IfSome e.lived (IsLeftOver told remembers cells moment left_since m written (origins e.member) (n.opening e.member) (n.restored e.member) (n.head e.member) (n.entries e.member) (n.begun e.member) (n.receivers e.member) (n.leaving e.member) (n.arriving e.member) e.store e.sink)

module _ {S D O : Type 0} (m : Meaning S) (told remembers : Type 0) (cells : D → Cells) (moment : D → ℕ) (left_since : D → ℕ → List ℕ → Type 0) (counts : D → ℕ) (written : O → Option (List ℕ)) (faults : O → ℕ) (images : ℕ → Images) (s : GroupSettings) where
  -- What is left of a member. Its store is as some rounds left it. If the member has lived, then over what its store was opened with.
  pub record IsEnded (member : ℕ) (h : Headed) (b : Station S D O) (fit : IsFit m told cells written (images member) s member h b) (e : MemberEnd D O) : Type 0 where
    pub number : e.member ≡ member
    pub later : NoneFell counts b.store.disks e.store.disks
    pub worn : e.worn ≡ true → DiskRose counts b.store.disks e.store.disks
    pub failed : e.failed ≡ true → Rose (faults b.sink) (faults e.sink)
    pub since : IsSinceOpened told remembers cells moment left_since m (record { images = images member; kept = fit.kept }) b.core.node b.store.plan.restored e.store
    pub lived : IfSome e.lived (IsLeftOver told remembers cells moment left_since m written (record { images = images member; kept = fit.kept }) b.core.node b.store.plan.restored h.head h.entries (begun_of h.head h.entries (written b.sink)) (ends b.row.ports.items) (port_links b.row.ports.items) (inbox_links b.inbox.links.items) e.store e.sink)

  -- what is left of members with the numbers from this one on
  abbrev pub AreEnded : (first : ℕ) (heads : List Headed) (stations : List (Station S D O)) → AreFit m told cells written images s first heads stations → List (MemberEnd D O) → Type 0
  AreEnded first [] [] fit [] = Unit {0}
  AreEnded first [] [] fit (e ∷ es) = ⊥
  AreEnded first [] (b ∷ bs) fit es = ⊥
  AreEnded first (h ∷ hs) [] fit es = ⊥
  AreEnded first (h ∷ hs) (b ∷ bs) fit [] = ⊥
  AreEnded first (h ∷ hs) (b ∷ bs) fit (e ∷ es) = IsEnded first h b fit.0 e × AreEnded (suc first) hs bs fit.1 es

  -- what is left of a group
  pub record HasRun (crew : Crew S D O) (is : IsCrew m told cells written images s crew) (rest : Rest D O) (before after : Output) : Type 0 where
    pub heads : rest.heads.items ≡ crew.heads.items
    pub members : AreEnded 1 crew.heads.items crew.stations.items is.fit rest.members.items
    pub client : IsClientEnded written faults s crew.client rest.client rest.end before after

-- ---- what was taken from rooms

module _ {S D O : Type 0} (disks : Address → Option ℕ) (counts : D → ℕ) (trails : Address → Option ℕ) (faults : O → ℕ) (dir : List ℕ) where
  -- the devices of members with the numbers from this one on are taken from a room, and the sinks of their trails from another
  abbrev pub AreOut : ℕ → List (Station S D O) → Type 0
  AreOut first [] = Unit {0}
  AreOut first (b ∷ bs) = AreHeld disks counts dir first b.store.disks × (IsHeld (trails (address dir first 0)) (faults b.sink) × AreOut (suc first) bs)

  -- the devices and sinks of all members are taken from these rooms, and the client's sink
  abbrev pub IsOut : Crew S D O → Type 0
  IsOut crew = IsHeld (trails (address dir 0 0)) (faults crew.client.sink) × AreOut 1 crew.stations.items

-- A group has run with what was taken from rooms.
pub record WasRun {S D O : Type 0} (m : Meaning S) (told remembers : Type 0) (cells : D → Cells) (moment : D → ℕ) (left_since : D → ℕ → List ℕ → Type 0) (counts : D → ℕ) (written : O → Option (List ℕ)) (faults : O → ℕ) (s : GroupSettings) (disks trails : Address → Option ℕ) (rest : Rest D O) (after : Output) : Type 0 where
  pub images : ℕ → Images
  pub crew : Crew S D O
  pub is : IsCrew m told cells written images s crew
  pub before : Output
  pub run : HasRun m told remembers cells moment left_since counts written faults images s crew is rest before after
  pub out : IsOut disks counts trails faults s.dir crew
