-- A group before it has its name, and the name that it gets.
use Rattle.std.specs.Prelude.{◌≡◌, ◌≤◌, ℕ, suc, false, List, [], ◌∷◌, ◌++◌, map, get_or, length, Option, None, Some, if◌then◌else◌}
use Rattle.std.specs.Io.KnownBytes.{Appends}
use Rattle.disk_model.specs.Cells.{Cells}
use Rattle.smart_base.specs.Lists.{same_bytes}
use Rattle.smart_service.specs.Services.{Meaning}
use Rattle.store_laws.specs.Restored.{Images, restores}
use Rattle.store_laws.specs.declared.job.Kept.{Kept}
use Rattle.log_lane.specs.Lane.{in_lane, out_lane, lane_put, lane_room, lane_raised, lane_taken}
use Rattle.log_worker.specs.Rounds.{no_table}
use Rattle.snapshot_form.specs.Snapshots.{snapshot_text}
use Rattle.replica_rules.specs.Replicas.{empty}
use Rattle.member_opening.specs.Headings.{head_by}
use Rattle.member_opening.specs.Restorings.{node_by, parts_in, store_fault, KeepsCounts}
use Rattle.node_played.specs.Lives.{nobody}
use Rattle.node_rooms.specs.Texts.{IsEmpty}
use Rattle.member_opening.specs.Opened.{IsOpened, OpensWith}
use Rattle.trail.specs.Trails.{trail_text}
use Rattle.trail.specs.declared.opening.TrailOpening.{TrailOpening}
use Rattle.group_ends.specs.Journals.{no_head}
use Rattle.group_ends.specs.Ports.{ends, port_links, inbox_links}
use Rattle.group_ends.specs.declared.inbox.Inbox.{Inbox}
use Rattle.group_wires.specs.Wires.{receivers, AreDealt}
use Rattle.group_wires.specs.declared.row.Row.{Row}
use Rattle.group_opening.specs.Runs.{member_settings, client_head}
use Rattle.group_parties.specs.Stations.{Names}
use Rattle.group_opening.specs.declared.berth.Berth.{Berth}
use Rattle.group_parties.specs.declared.crew.Crew.{Crew}
use Rattle.group_parties.specs.declared.crew.Headed.{Headed}
use Rattle.group_parties.specs.declared.seating.Station.{Station}
use Rattle.group_opening.specs.declared.settings.GroupSettings.{GroupSettings}

-- what a sink told before the head of its trail, by what it tells now: no bytes, if it tells the head
unfoldable pub begun_of : TrailOpening → List (List ℕ) → Option (List ℕ) → Option (List ℕ)
begun_of head entries None = None
begun_of head entries (Some text) = if same_bytes text (trail_text head entries []) then Some [] else None

-- The sink of a trail has the trail's head, behind nothing.
pub record HasHead {O : Type 0} (written : O → Option (List ℕ)) (head : TrailOpening) (entries : List (List ℕ)) (sink : O) : Type 0 where
  pub begun : O
  pub empty : IsEmpty (written begun)
  pub text : Appends (written begun) (written sink) (trail_text head entries [])

module _ {S D O : Type 0} where
  -- the rows and the inboxes in the order of the parties: the members, and behind them the client
  abbrev pub rows_of : Crew S D O → List Row
  rows_of crew = map (λ (s : Station S D O). s.row) crew.stations.items ++ crew.client.row ∷ []

  abbrev pub inboxes_of : Crew S D O → List Inbox
  inboxes_of crew = map (λ (s : Station S D O). s.inbox) crew.stations.items ++ crew.client.inbox ∷ []

  -- what the sinks of members told before the heads of their trails
  abbrev pub begun_in : (O → Option (List ℕ)) → List Headed → List (Station S D O) → List (Option (List ℕ))
  begun_in written [] stations = []
  begun_in written (h ∷ heads) [] = []
  begun_in written (h ∷ heads) (b ∷ stations) = begun_of h.head h.entries (written b.sink) ∷ begun_in written heads stations

  -- The name of a group: what belongs to its client, which has number 0, and to its members, which have the numbers from 1 on.
  abbrev pub names_of : Meaning S → GroupSettings → (O → Option (List ℕ)) → (O → ℕ) → Crew S D O → Names S
  names_of m s written faults crew = record {
    head = λ number. get_or (client_head s ∷ map (λ (h : Headed). h.head) crew.heads.items) number no_head;
    entries = λ number. get_or ([] ∷ map (λ (h : Headed). h.entries) crew.heads.items) number [];
    begun = λ number. get_or (begun_of (client_head s) [] (written crew.client.sink) ∷ begun_in written crew.heads.items crew.stations.items) number None;
    failures = λ number. get_or (faults crew.client.sink ∷ map (λ (b : Station S D O). faults b.sink) crew.stations.items) number 0;
    receivers = λ number. get_or (ends crew.client.row.ports.items ∷ map (λ (b : Station S D O). ends b.row.ports.items) crew.stations.items) number [];
    leaving = λ number. get_or (port_links crew.client.row.ports.items ∷ map (λ (b : Station S D O). port_links b.row.ports.items) crew.stations.items) number [];
    arriving = λ number. get_or (inbox_links crew.client.inbox.links.items ∷ map (λ (b : Station S D O). inbox_links b.inbox.links.items) crew.stations.items) number [];
    lane = λ number. get_or ((no_table, no_table) ∷ map (λ (b : Station S D O). in_lane b.lane_in) crew.stations.items) number (no_table, no_table);
    restored = λ number. get_or (0 ∷ map (λ (b : Station S D O). b.store.plan.restored) crew.stations.items) number 0;
    opening = λ number. get_or (nobody m ∷ map (λ (b : Station S D O). b.core.node) crew.stations.items) number (nobody m);
  }

  -- A member that was opened, with the head of its trail, and an unused lane.
  pub record IsFit (m : Meaning S) (told : Type 0) (cells : D → Cells) (written : O → Option (List ℕ)) (images : Images) (settings : GroupSettings) (member : ℕ) (h : Headed) (b : Station S D O) : Type 0 where
    pub number : b.member ≡ member
    pub kept : Kept
    pub restored : told → kept ≡ restores images
    pub whole : store_fault m (member_settings settings member) (parts_in kept) ≡ None
    pub other : (parts_in kept).snapshot ≡ Some (snapshot_text m (empty m settings.view)) → ⊥
    pub node : b.core.node ≡ node_by m (member_settings settings member) (parts_in kept)
    pub unbroken : b.core.broken ≡ false
    pub counts : KeepsCounts b.store.plan.restored b.core.node
    pub restored_are : b.store.plan.restored ≡ length kept.entries
    pub opened : IsOpened told cells b.store
    pub opens : OpensWith told cells images kept b.store
    pub head : (h.head ≡ head_by m (member_settings settings member) (parts_in kept)) × (h.entries ≡ kept.entries)
    pub lane : in_lane b.lane_in ≡ out_lane b.lane_out
    pub none_put : lane_put b.lane_in ≡ []
    pub room : 1 ≤ lane_room b.lane_in
    pub none_taken : (lane_taken b.lane_out ≡ []) × (lane_raised b.lane_out ≡ 0)
    pub text : HasHead written h.head h.entries b.sink

  -- members that were opened, with the numbers from this one on
  abbrev pub AreFit : (m : Meaning S) (told : Type 0) (cells : D → Cells) (written : O → Option (List ℕ)) (images : ℕ → Images) (settings : GroupSettings) → ℕ → List Headed → List (Station S D O) → Type 0
  AreFit m told cells written images settings first [] [] = Unit {0}
  AreFit m told cells written images settings first [] (b ∷ stations) = ⊥
  AreFit m told cells written images settings first (h ∷ heads) [] = ⊥
  AreFit m told cells written images settings first (h ∷ heads) (b ∷ stations) = IsFit m told cells written (images first) settings first h b × AreFit m told cells written images settings (suc first) heads stations

  -- A whole group before it runs.
  pub record IsCrew (m : Meaning S) (told : Type 0) (cells : D → Cells) (written : O → Option (List ℕ)) (images : ℕ → Images) (s : GroupSettings) (crew : Crew S D O) : Type 0 where
    pub many : length crew.stations.items ≡ s.members
    pub fit : AreFit m told cells written images s 1 crew.heads.items crew.stations.items
    pub client : HasHead written (client_head s) [] crew.client.sink
    pub receivers_are : map (λ (row : Row). ends row.ports.items) (rows_of crew) ≡ receivers s.members
    pub dealt : AreDealt (rows_of crew) (inboxes_of crew)

module _ {S D O : Type 0} where
  -- The sinks of the trails of members from a place on have the heads of these trails.
  abbrev pub HaveHeads : (O → Option (List ℕ)) → List (Berth S D) → List O → Type 0
  HaveHeads written [] [] = Unit {0}
  HaveHeads written [] (sink ∷ sinks) = ⊥
  HaveHeads written (b ∷ berths) [] = ⊥
  HaveHeads written (b ∷ berths) (sink ∷ sinks) = HasHead written b.head b.entries sink × HaveHeads written berths sinks

  -- The first sink has the head of the client's trail, each other one that of a member's.
  abbrev pub HasHeads : (O → Option (List ℕ)) → GroupSettings → TrailOpening → List (Berth S D) → List O → Type 0
  HasHeads written s client berths [] = ⊥
  HasHeads written s client berths (sink ∷ sinks) = HasHead written client [] sink × HaveHeads written berths sinks
