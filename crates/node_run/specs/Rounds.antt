-- The rounds of a life's log, from the store with which it began to the one that is left.
use Rattle.std.specs.Prelude.{◌≡◌, ◌≤◌, ◌+◌, ℕ, Bool, false, List, [], length}
use Rattle.disk_model.specs.Cells.{Cells}
use Rattle.smart_service.specs.Services.{Meaning}
use Rattle.store_laws.specs.Stops.{is_installed}
use Rattle.durable_store.specs.declared.store.Store.{Store}
use Rattle.node_rules.specs.Nodes.{Node}
use Rattle.trail.specs.declared.event.TrailEvent.{TrailEvent}
use Rattle.trail_rules.specs.Replays.{core_steps, needed, replay}
use Rattle.node_played.specs.Lives.{made_texts}
use Rattle.node_seat.specs.Seats.{IsFirst}
use Rattle.node_endings.specs.Rounds.{RoundsOf}
use Rattle.node_run.specs.Lives.{Life, LifeEnd}
use Rattle.member_opening.specs.Opened.{IsAsOpened}
use Rattle.node_run.specs.declared.status.NodeStatus.{NodeStatus}
use Rattle.node_run.specs.declared.status.NodeStatus.TheVariants as ends

module _ {S D : Type 0} (told remembers : Type 0) (cells : D → Cells) (moment : D → ℕ) (left_since : D → ℕ → List ℕ → Type 0) where
  -- A store as a number of rounds left it, over a life that ended with this status. They took a front of the entries that the replay of the trail made
  -- behind so many restored ones. If the life ended well, they took all of them, and each round went well.
  -- What a message of the trail needed, and what the trail says is firm, are at most the restored entries and those that were taken.
  pub record IsLeftBy (m : Meaning S) (opening : Node S) (trail : List TrailEvent) (restored : ℕ) (status : NodeStatus) (begun now : Store D) : Type 0 where
    -- the entries that were taken, and whether the last round failed
    pub taken : List (List ℕ)
    pub faulty : Bool
    pub front : IsFirst taken (made_texts restored (replay (core_steps m) opening trail).entries)
    pub needs : needed (core_steps m) opening trail ≤ restored + length taken
    pub told_firm : (replay (core_steps m) opening trail).firm ≤ restored + length taken
    pub whole : status ≡ ends.Ok → (faulty ≡ false) × (taken ≡ made_texts restored (replay (core_steps m) opening trail).entries)
    pub rounds : RoundsOf told remembers cells moment left_since is_installed m opening restored faulty [] taken begun now

  -- A life that ended with this status, over a store that was just opened.
  pub record LifeFrom (life : Life S) (restored : ℕ) (opened now : Store D) (status : NodeStatus) : Type 0 where
    pub end : LifeEnd life status
    pub begun : Store D
    pub as_opened : IsAsOpened told opened begun
    pub left_by : IsLeftBy life.meaning life.opening end.lived.trail restored status begun now
