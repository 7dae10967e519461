-- Rounds of a log's worker behind others.
use Rattle.std.proofs.Common.{◌≡◌, ℕ, zero, suc, Bool, false, List, None, sym, subst}
use Rattle.disk_model.specs.Cells.{Cells}
use Rattle.smart_service.specs.Services.{Meaning}
use Rattle.durable_store.specs.Runs.{no_tail}
use Rattle.durable_store.specs.declared.store.Store.{Store}
use Rattle.log_worker.specs.Rounds.{AllRounds}
use Rattle.node_rules.specs.Nodes.{Node}
use Rattle.node_played.specs.Lives.{IsTailOf}
use Rattle.node_endings.specs.Rounds.{IsReplicaOf, RoundsOf}

module _ {S D : Type 0} (told remembers : Type 0) (cells : D → Cells) (moment : D → ℕ) (left_since : D → ℕ → List ℕ → Type 0) (stops : List ℕ → Bool) (m : Meaning S) (opening : Node S) (restored : ℕ) where
  -- so many rounds from one store to another
  abbrev Rounds : ℕ → Bool → List (List ℕ) → List (List ℕ) → Store D → Store D → Type 0
  Rounds n faulty taken now old new = AllRounds told remembers cells moment left_since stops restored (IsReplicaOf m opening) (IsTailOf m opening) ⊥ None (λ place. no_tail) n faulty taken now old new

  more-behind : (n count : ℕ) (faulty : Bool) (first taken now : List (List ℕ)) (begun old new : Store D) → Rounds n false first taken begun old → Rounds count faulty taken now old new
      → (k : ℕ) × Rounds k faulty first now begun new
  more-behind n zero faulty first taken now begun old new before (whole, (same, still)) = (
    n,
    subst (λ (s : Store D). Rounds n faulty first now begun s) (sym still)
        (subst (λ (t : List (List ℕ)). Rounds n faulty first t begun old) (sym same)
        (subst (λ (b : Bool). Rounds n b first taken begun old) (sym whole) before)),
  )
  more-behind n (suc count) faulty first taken now begun old new before (between, (mid, (rounds, last))) =
      let chain = more-behind n count false first taken between begun old mid before rounds in
      (suc chain.0, (between, (mid, (chain.1, last))))

  -- rounds none of which failed, and more behind them
  pub rounds-behind : (was faulty : Bool) (first taken now : List (List ℕ)) (begun old new : Store D) → was ≡ false
      → RoundsOf told remembers cells moment left_since stops m opening restored was first taken begun old
      → RoundsOf told remembers cells moment left_since stops m opening restored faulty taken now old new
      → RoundsOf told remembers cells moment left_since stops m opening restored faulty first now begun new
  rounds-behind was faulty first taken now begun old new whole before behind =
      let chain = more-behind before.count behind.count faulty first taken now begun old new (subst (λ (b : Bool). Rounds before.count b first taken begun old) whole before.made) behind.made in
      record { count = chain.0; made = chain.1 }
