-- What the parties of a group are under its name.
use Rattle.std.specs.Prelude.{◌≡◌, ◌≤◌, ℕ, suc, false, List, [], ◌∷◌, Option}
use Rattle.std.specs.Io.KnownBytes.{Appends}
use Rattle.atomic_table.specs.Seated.{TableId}
use Rattle.disk_model.specs.Cells.{Cells}
use Rattle.durable_store.specs.declared.disks.Disks.{Disks}
use Rattle.smart_base.specs.Lists.{Each}
use Rattle.log_lane.specs.Lane.{in_lane, out_lane, lane_put, lane_room, lane_raised, lane_taken}
use Rattle.member_opening.specs.Restorings.{KeepsCounts}
use Rattle.node_rules.specs.Nodes.{Node}
use Rattle.node_rules.specs.declared.node.Target.{Target}
use Rattle.member_opening.specs.Opened.{IsOpened, OpensWith}
use Rattle.trail.specs.Trails.{trail_text}
use Rattle.trail.specs.declared.opening.TrailOpening.{TrailOpening}
use Rattle.group_ends.specs.Ports.{ends, port_links, inbox_links, takings, AreApart}
use Rattle.group_wires.specs.Wires.{IsUntaken, IsUnused}
use Rattle.group_wires.specs.declared.row.Row.{Row}
use Rattle.group_ends.specs.declared.inbox.Inbox.{Inbox}
use Rattle.group_parties.specs.Origins.{Origin}
use Rattle.group_parties.specs.declared.seating.Station.{Station}

-- What belongs to the parties of a group, each by its number.
pub record Names (S : Type 0) : Type 0 where
  pub head : ℕ → TrailOpening
  pub entries : ℕ → List (List ℕ)
  pub begun : ℕ → Option (List ℕ)
  pub failures : ℕ → ℕ
  pub receivers : ℕ → List Target
  pub leaving : ℕ → List TableId
  pub arriving : ℕ → List TableId
  pub lane : ℕ → TableId × TableId
  pub restored : ℕ → ℕ
  pub opening : ℕ → Node S

-- Unused links, which are those of the party with this number.
pub record AreLinksOf {S : Type 0} (n : Names S) (number : ℕ) (row : Row) (inbox : Inbox) : Type 0 where
  pub apart : AreApart (ends row.ports.items)
  pub unused : Each IsUnused row.ports.items
  pub untaken : Each IsUntaken (takings inbox.links.items)
  pub receivers : ends row.ports.items ≡ n.receivers number
  pub leaving : port_links row.ports.items ≡ n.leaving number
  pub arriving : inbox_links inbox.links.items ≡ n.arriving number

-- The sink of the trail of the party with this number. It has the head of the trail.
pub record IsSinkOf {S O : Type 0} (n : Names S) (written : O → Option (List ℕ)) (faults : O → ℕ) (number : ℕ) (sink : O) : Type 0 where
  pub text : Appends (n.begun number) (written sink) (trail_text (n.head number) (n.entries number) [])
  pub later : n.failures number ≤ faults sink

module _ {S D O : Type 0} (n : Names S) (told : Type 0) (cells : D → Cells) (written : O → Option (List ℕ)) (faults : O → ℕ) where
  -- What a member begins with is what the name says of its number.
  pub record IsStation (s : Station S D O) : Type 0 where
    pub core : (s.core.node ≡ n.opening s.member) × (s.core.broken ≡ false)
    pub counts : KeepsCounts (n.restored s.member) s.core.node
    pub restored : s.store.plan.restored ≡ n.restored s.member
    pub opened : IsOpened told cells s.store
    pub lane : (in_lane s.lane_in ≡ n.lane s.member) × (out_lane s.lane_out ≡ n.lane s.member)
    pub none_put : lane_put s.lane_in ≡ []
    pub room : 1 ≤ lane_room s.lane_in
    pub none_taken : (lane_taken s.lane_out ≡ []) × (lane_raised s.lane_out ≡ 0)
    pub links : AreLinksOf n s.member s.row s.inbox
    pub sink : IsSinkOf n written faults s.member s.sink

  -- what members begin with that have the numbers from this one on
  abbrev pub AreStations : ℕ → List (Station S D O) → Type 0
  AreStations first [] = Unit {0}
  AreStations first (s ∷ stations) = (s.member ≡ first) × IsStation s × AreStations (suc first) stations

module _ {S D O : Type 0} where
  -- the stores of members with the numbers from this one on were opened with these bytes, and restored this of them
  abbrev pub AreOpened : Type 0 → (D → Cells) → (ℕ → Origin) → ℕ → List (Station S D O) → Type 0
  AreOpened told cells origins first [] = Unit {0}
  AreOpened told cells origins first (s ∷ stations) = OpensWith told cells (origins first).images (origins first).kept s.store × AreOpened told cells origins (suc first) stations

  -- the stores of members with the numbers from this one on have these devices
  abbrev pub AreBegun : (ℕ → Disks D) → ℕ → List (Station S D O) → Type 0
  AreBegun begun first [] = Unit {0}
  AreBegun begun first (s ∷ stations) = (begun first ≡ s.store.disks) × AreBegun begun (suc first) stations
