-- What the workers of a member work on, what they need of it, and what they leave.
use Rattle.std.specs.Prelude.{◌≡◌, ◌≤◌, ℕ, ◌+◌, ◌^◌, Bool, false, List, length, Option, None, Some}
use Rattle.atomic_table.specs.Seated.{TableId}
use Rattle.disk_model.specs.Cells.{Cells}
use Rattle.smart_service.specs.Services.{Meaning}
use Rattle.durable_store.specs.Disks.{NoneFell}
use Rattle.durable_store.specs.Stores.{state_of, Stands}
use Rattle.durable_store.specs.declared.store.Store.{Store}
use Rattle.log_lane.specs.Lane.{lane_taken, lane_raised, out_lane}
use Rattle.log_worker.specs.Rounds.{IsAtRest}
use Rattle.node_rules.specs.Nodes.{Node}
use Rattle.node_endings.specs.Loops.{FailsByDisk, gave_up}
use Rattle.node_endings.specs.declared.ending.LoopEnd.{LoopEnd}
use Rattle.node_endings.specs.declared.ending.LoopEnd.TheVariants.{Failed}
use Rattle.node_endings.specs.Rounds.{RoundsOf}
use Rattle.group_threads.specs.declared.desk.Desk.{Desk}
use Rattle.group_threads.specs.declared.desk.MemberEnds.{MemberEnds}

module _ {D : Type 0} where
  -- No round has failed. A store whose disks tell their contents stands.
  pub record MayWork (told : Type 0) (cells : D → Cells) (faulty : Bool) (store : Store D) : Type 0 where
    pub whole : faulty ≡ false
    pub sound : told → Stands (state_of cells store)

  -- The desk of a member with this lane, whose store restored so many entries. As many as were restored and said to be stored are firm. Until a round fails, the store is at rest, and what was taken is firm or waits.
  pub record IsDeskOf (lane : TableId × TableId) (restored : ℕ) (desk : Desk D) : Type 0 where
    pub lane_is : out_lane desk.lane ≡ lane
    pub restored_is : desk.restored ≡ restored
    pub few : restored ≤ 2 ^ 63
    pub stored : restored + lane_raised desk.lane ≤ desk.store.plan.firm
    pub rests : desk.faulty ≡ false → IsAtRest desk.store.plan desk.store.state
    pub counted : desk.faulty ≡ false → restored + length (lane_taken desk.lane) ≤ desk.store.plan.firm + length desk.store.plan.waiting

  -- There is a desk, at which the workers may work.
  abbrev pub IsReady : Type 0 → (D → Cells) → TableId × TableId → ℕ → Option (Desk D) → Type 0
  IsReady told cells lane restored None = ⊥
  IsReady told cells lane restored (Some desk) = IsDeskOf lane restored desk × MayWork told cells desk.faulty desk.store

module _ {S D : Type 0} (told remembers : Type 0) (cells : D → Cells) (moment : D → ℕ) (left_since : D → ℕ → List ℕ → Type 0) (stops : List ℕ → Bool) (counts : D → ℕ) (m : Meaning S) (opening : Node S) where
  -- The loop of a log has ended: the store is the one before, after some rounds. The loop fails only for a device whose count of failures rose. Unless it gives up, no round has failed, and unless one has, a store whose disks tell their contents stands.
  pub record LogMade (restored : ℕ) (end : LoopEnd) (faulty : Bool) (taken now : List (List ℕ)) (old new : Store D) : Type 0 where
    pub rose : old.plan.firm ≤ new.plan.firm
    pub rounds : RoundsOf told remembers cells moment left_since stops m opening restored faulty taken now old new
    pub whole : gave_up end ≡ false → faulty ≡ false
    pub sound : told → faulty ≡ false → Stands (state_of cells new)
    pub cause : FailsByDisk end counts old.disks new.disks
    pub later : NoneFell counts old.disks new.disks

  -- The workers of a member have worked. No loop fails but that of the log.
  pub record WorkMade (lane : TableId × TableId) (restored : ℕ) (ends : MemberEnds) (old new : Desk D) : Type 0 where
    pub desk : IsDeskOf lane restored new
    pub log : LogMade restored ends.logged new.faulty (lane_taken old.lane) (lane_taken new.lane) old.store new.store
    pub rises : old.checker.last ≤ new.checker.last
    pub checked : ends.checked ≡ Failed → ⊥
    pub delivered : gave_up ends.delivered ≡ false
    pub sent : gave_up ends.sent ≡ false

  -- There was a desk, and there is one.
  abbrev pub IsLeft : TableId × TableId → ℕ → MemberEnds → Option (Desk D) → Option (Desk D) → Type 0
  IsLeft lane restored ends None None = ⊥
  IsLeft lane restored ends None (Some new) = ⊥
  IsLeft lane restored ends (Some old) None = ⊥
  IsLeft lane restored ends (Some old) (Some new) = WorkMade lane restored ends old new
