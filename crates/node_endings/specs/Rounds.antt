-- What the loop of a log makes of its worker's store.
use Rattle.std.specs.Prelude.{◌≡◌, ℕ, Bool, List, None, Some}
use Rattle.disk_model.specs.Cells.{Cells}
use Rattle.smart_service.specs.Services.{Meaning}
use Rattle.durable_store.specs.Runs.{no_tail}
use Rattle.durable_store.specs.declared.store.Store.{Store}
use Rattle.log_worker.specs.Rounds.{AllRounds}
use Rattle.node_rules.specs.Nodes.{Node}
use Rattle.node_played.specs.Lives.{IsTailOf, IsWantedOf}
use Rattle.node_seat.specs.Seats.{place_in}

-- the bytes of a replica of a place, to which the node of a life wanted its store to switch
abbrev pub IsReplicaOf : {S : Type 0} → Meaning S → Node S → ℕ → List ℕ → Type 0
IsReplicaOf m opening place bytes = (place_in m bytes ≡ Some place) × IsWantedOf m opening place bytes

-- A worker has made some rounds, one after the other, over a seat that others may change between two calls. Each went well, but the last if this is faulty.
-- A snapshot that was switched to is a replica's of its place, and was wanted in some replay from the opening. The tail is of some replay from there.
pub record RoundsOf {S D : Type 0} (told remembers : Type 0) (cells : D → Cells) (moment : D → ℕ) (left_since : D → ℕ → List ℕ → Type 0) (stops : List ℕ → Bool) (m : Meaning S) (opening : Node S) (restored : ℕ) (faulty : Bool) (taken now : List (List ℕ)) (old new : Store D) : Type 0 where
  pub count : ℕ
  pub made : AllRounds told remembers cells moment left_since stops restored (IsReplicaOf m opening) (IsTailOf m opening) ⊥ None (λ place. no_tail) count faulty taken now old new
