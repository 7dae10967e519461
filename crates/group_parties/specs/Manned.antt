-- The members of a group while they run, and what is left of them.
use Rattle.std.specs.Prelude.{◌≡◌, ◌≤◌, ℕ, Bool, false, true, List, [], Option, None, Some}
use Rattle.std.specs.Io.KnownBytes.{Appends}
use Rattle.atomic_table.specs.Seated.{TableId}
use Rattle.disk_model.specs.Cells.{Cells}
use Rattle.store_laws.specs.Stops.{is_installed}
use Rattle.smart_service.specs.Services.{Meaning}
use Rattle.durable_store.specs.Disks.{NoneFell}
use Rattle.durable_store.specs.Stores.{state_of, Stands}
use Rattle.durable_store.specs.declared.disks.Disks.{Disks}
use Rattle.durable_store.specs.declared.store.Store.{Store}
use Rattle.log_lane.specs.Lane.{lane_taken}
use Rattle.node_rules.specs.Nodes.{Node}
use Rattle.node_rules.specs.declared.node.Target.{Target}
use Rattle.node_endings.specs.Loops.{FailsByDisk}
pub use Rattle.node_endings.specs.Rounds.{RoundsOf}
use Rattle.member_opening.specs.Opened.{OpensWith}
use Rattle.node_played.specs.Lives.{made_texts}
use Rattle.queue_ends.specs.Rule.{IsFront}
use Rattle.smart_base.specs.Lists.{Each}
use Rattle.trail.specs.Trails.{trail_text}
use Rattle.trail.specs.declared.event.TrailEvent.{TrailEvent}
use Rattle.trail.specs.declared.opening.TrailOpening.{TrailOpening}
use Rattle.trail_rules.specs.Replays.{core_steps, replay, needed, Released}
use Rattle.group_ends.specs.Carried.{DropsLate}
use Rattle.group_ends.specs.Facts.{HasComeAtMost}
use Rattle.group_ends.specs.Journals.{has_end, HasFront, IsEndLast}
use Rattle.group_ends.specs.Ports.{ends, port_links, inbox_links, CarriesFirst}
use Rattle.group_threads.specs.Desks.{IsDeskOf}
use Rattle.group_threads.specs.declared.desk.Desk.{Desk}
use Rattle.group_threads.specs.declared.desk.MemberEnds.{MemberEnds}
use Rattle.group_parties.specs.Origins.{Origin}
use Rattle.group_parties.specs.declared.ending.Lived.{Lived}

module _ {S D : Type 0} (told remembers : Type 0) (cells : D → Cells) (moment : D → ℕ) (left_since : D → ℕ → List ℕ → Type 0) (m : Meaning S) where
  -- A store as some rounds left it, over the one that was opened. They took these entries.
  pub record IsSince (origin : Origin) (opening : Node S) (restored : ℕ) (faulty : Bool) (taken : List (List ℕ)) (store : Store D) : Type 0 where
    pub opened : Store D
    pub opens : OpensWith told cells origin.images origin.kept opened
    pub rounds : RoundsOf told remembers cells moment left_since is_installed m opening restored faulty [] taken opened store

  -- a store as some rounds left it, whatever they took
  abbrev pub IsSinceOpened : Origin → Node S → ℕ → Store D → Type 0
  IsSinceOpened origin opening restored store = (faulty : Bool) × ((taken : List (List ℕ)) × IsSince origin opening restored faulty taken store)

  -- The desk of a member that runs.
  pub record IsManned (origin : Origin) (lane : TableId × TableId) (opening : Node S) (restored : ℕ) (desk : Desk D) : Type 0 where
    pub of : IsDeskOf lane restored desk
    pub sound : told → desk.faulty ≡ false → Stands (state_of cells desk.store)
    pub since : IsSince origin opening restored desk.faulty (lane_taken desk.lane) desk.store

  -- There is a desk of a member that runs.
  abbrev pub HasDesk : Origin → TableId × TableId → Node S → ℕ → Option (Desk D) → Type 0
  HasDesk origin lane opening restored None = ⊥
  HasDesk origin lane opening restored (Some desk) = IsManned origin lane opening restored desk

  -- What is left of a member that has lived, with its store and the sink of its trail. If it is told as whole, its trail has its end, and the sink has the whole text.
  pub record IsLeftOver {O : Type 0} (written : O → Option (List ℕ)) (origin : Origin) (opening : Node S) (restored : ℕ) (head : TrailOpening) (entries : List (List ℕ)) (begun : Option (List ℕ)) (receivers : List Target) (leaving arriving : List TableId) (store : Store D) (sink : O) (e : Lived) : Type 0 where
    pub released : Released (core_steps m) opening e.events
    pub end_last : IsEndLast e.events
    pub needs : needed (core_steps m) opening e.events ≤ store.plan.firm
    pub told_firm : (replay (core_steps m) opening e.events).firm ≤ store.plan.firm
    pub faulty : Bool
    pub taken : List (List ℕ)
    pub front : IsFront taken (made_texts restored (replay (core_steps m) opening e.events).entries)
    pub since : IsSince origin opening restored faulty taken store
    pub late : DropsLate receivers [] e.events
    pub left : Each (CarriesFirst e.events) e.row.ports.items
    pub came : HasComeAtMost e.events e.inbox.links.items
    pub named : (ends e.row.ports.items ≡ receivers) × ((port_links e.row.ports.items ≡ leaving) × (inbox_links e.inbox.links.items ≡ arriving))
    pub text : HasFront begun (written sink) (trail_text head entries e.events)
    pub all_text : e.whole ≡ true → Appends begun (written sink) (trail_text head entries e.events)
    pub ended : e.whole ≡ true → has_end e.events ≡ true

-- There is a desk, that of a member with this lane, whose store restored so many entries.
abbrev pub HoldsDesk : {D : Type 0} → TableId × TableId → ℕ → Option (Desk D) → Type 0
HoldsDesk lane restored None = ⊥
HoldsDesk lane restored (Some desk) = IsDeskOf lane restored desk

-- There is a desk, at which no round has failed.
abbrev pub IsWholeDesk : {D : Type 0} → Option (Desk D) → Type 0
IsWholeDesk None = ⊥
IsWholeDesk (Some desk) = desk.faulty ≡ false

-- The devices of a member since it began: the count of failures of none fell. If the loop of its log failed, that of one rose.
abbrev pub HasWorked : {D : Type 0} → (D → ℕ) → Disks D → MemberEnds → Option (Desk D) → Type 0
HasWorked counts begun ends None = ⊥
HasWorked counts begun ends (Some desk) = NoneFell counts begun desk.store.disks × FailsByDisk ends.logged counts begun desk.store.disks
