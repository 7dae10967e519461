-- A life that ends before its loops begin.
use Rattle.std.proofs.Common.{◌≡◌, ◌≤◌, ℕ, false, List, [], take, Option, refl, arith}
use Rattle.std.specs.Io.KnownBytes.{Appends}
use Rattle.std.proofs.KnownBytes.{Appends-nil}
use Rattle.faults.specs.declared.Fault.{Fault}
use Rattle.faults.specs.declared.Fault.TheVariants.{Failed, NoMemory}
use Rattle.disk_model.specs.Cells.{Cells}
use Rattle.smart_service.specs.Services.{Meaning}
use Rattle.durable_store.specs.declared.store.Store.{Store}
use Rattle.node_rules.specs.Nodes.{Node}
use Rattle.trail.specs.Trails.{trail_text}
use Rattle.trail.specs.declared.event.TrailEvent.{TrailEvent}
use Rattle.trail_rules.specs.Replays.{core_steps, needed, replay}
use Rattle.node_seat.specs.Seats.{HasWrittenFirst}
use Rattle.node_seat.proofs.Fronts.{wrote-all, wrote-front}
use Rattle.node_run.specs.Lives.{Life, LifeEnd}
use Rattle.member_opening.specs.Opened.{IsAsOpened}
use Rattle.node_run.specs.Rounds.{IsLeftBy, LifeFrom}
use Rattle.node_run.specs.Statuses.{trail_status}
use Rattle.node_run.specs.declared.status.NodeStatus.{NodeStatus}
use Rattle.node_run.specs.declared.status.NodeStatus.TheVariants as ends
use Rattle.node_run.proofs.Living.{idle}

-- a sink that has a front of a text
pub front-told : (a b : Option (List ℕ)) (text : List ℕ) (count : ℕ) → Appends a b (take count text) → HasWrittenFirst a b text
front-told a b text count wrote = wrote-front a a b [] text count (Appends-nil a) wrote

as-it-is : {D : Type 0} (told : Type 0) (store : Store D) → IsAsOpened told store store
as-it-is told store = record { disks = refl; firm = refl; generation = refl; waiting = refl; state = refl; plan = λ told d. refl }

module _ {S D : Type 0} (told remembers : Type 0) (cells : D → Cells) (moment : D → ℕ) (left_since : D → ℕ → List ℕ → Type 0) where
  -- no round was made
  no-rounds : (m : Meaning S) (opening : Node S) (trail : List TrailEvent) (restored : ℕ) (status : NodeStatus) (store : Store D) → (status ≡ ends.Ok → ⊥)
      → needed (core_steps m) opening trail ≤ restored → (replay (core_steps m) opening trail).firm ≤ restored
      → IsLeftBy told remembers cells moment left_since m opening trail restored status store store
  no-rounds m opening trail restored status store failed needs firm = record {
    taken = [];
    faulty = false;
    front = refl;
    needs = omega (arith, needs);
    told_firm = omega (arith, firm);
    whole = λ well. absurd (failed well);
    rounds = record { count = 0; made = (refl, (refl, refl)) };
  }

  module _ (life : Life S) (restored : ℕ) (store : Store D) (few : life.firm ≤ restored) where
    over-store : (status : NodeStatus) → (status ≡ ends.Ok → ⊥) → LifeEnd life status → LifeFrom told remembers cells moment left_since life restored store store status
    over-store status failed end = record {
      end = end;
      begun = store;
      as_opened = as-it-is told store;
      left_by = no-rounds life.meaning life.opening end.lived.trail restored status store failed (omega (arith, end.lived.needs, few)) (omega (arith, end.lived.told_firm, few));
    }

    module _ (unread : life.left_after ≡ life.left_before) (unwritten : life.written_after ≡ life.written_before) (firm : life.opening.firm ≤ life.firm) where
      -- the head of its trail was not written whole
      pub headless : (fault : Fault) → (count : ℕ) × Appends life.told_before life.told_after (take count (trail_text life.head life.entries []))
          → LifeFrom told remembers cells moment left_since life restored store store (trail_status fault)
      headless Failed front = over-store ends.TrailFault (λ well. cc) (record { lived = idle life unread unwritten firm (front-told life.told_before life.told_after (trail_text life.head life.entries []) front.0 front.1); ends = tt })
      headless NoMemory front = over-store ends.NoMemory (λ well. cc) (record { lived = idle life unread unwritten firm (front-told life.told_before life.told_after (trail_text life.head life.entries []) front.0 front.1); ends = tt })

      -- there was no memory for its seat
      pub seatless : Appends life.told_before life.told_after (trail_text life.head life.entries []) → LifeFrom told remembers cells moment left_since life restored store store ends.NoMemory
      seatless wrote = over-store ends.NoMemory (λ well. cc) (record { lived = idle life unread unwritten firm (wrote-all life.told_before life.told_after (trail_text life.head life.entries []) wrote); ends = tt })
