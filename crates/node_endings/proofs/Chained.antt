-- The rounds of a worker, as the loop of a log carries them.
use Rattle.std.proofs.Common.{◌≡◌, ◌⊎◌, ℕ, ◌+◌, ◌-◌, Bool, false, true, List, Option, None, Result, OnOk, OnErr}
use Rattle.disk_model.specs.Cells.{Cells}
use Rattle.queue_ends.specs.Rule.{IsFront}
use Rattle.smart_service.specs.Services.{Meaning}
use Rattle.store_form.specs.declared.ends.LogFault.{LogFault}
use Rattle.store_laws.specs.States.{Devices, greatest, is_due}
use Rattle.store_plan.specs.Plans.{state_with}
use Rattle.durable_store.specs.Runs.{no_tail}
use Rattle.durable_store.specs.declared.store.Store.{Store}
use Rattle.log_worker.specs.Rounds.{PassesOver, GroupMade, HandedMade}
use Rattle.log_worker.proofs.Chains.{none_yet, one_more}
use Rattle.node_rules.specs.Nodes.{Node}
use Rattle.node_played.specs.Lives.{IsTailOf}
use Rattle.node_endings.specs.Rounds.{RoundsOf, IsReplicaOf}

-- no clause names what a seat holds that others may change
abbrev none_handed : Option (ℕ × List ℕ)
none_handed = None

module _ {S D : Type 0} (told remembers : Type 0) (cells : D → Cells) (moment : D → ℕ) (left_since : D → ℕ → List ℕ → Type 0) (stops : List ℕ → Bool) (m : Meaning S) (opening : Node S) (restored : ℕ) where
  -- before the first round
  pub no_rounds : (faulty : Bool) (taken : List (List ℕ)) (store : Store D) → faulty ≡ false
      → RoundsOf told remembers cells moment left_since stops m opening restored faulty taken taken store store
  no_rounds faulty taken store whole =
      let chain = none_yet told remembers cells moment left_since stops restored (IsReplicaOf m opening) (IsTailOf m opening) ⊥ none_handed (λ place. no_tail) faulty taken store whole in
      record { count = chain.0; made = chain.1 }

  -- after one more, which follows no round that failed
  pub more_rounds : (was faulty : Bool) (first heard taken now : List (List ℕ)) (begun old new : Store D) (result : Result ℕ LogFault) → was ≡ false
      → RoundsOf told remembers cells moment left_since stops m opening restored was first taken begun old
      → OnOk result ((HandedMade told remembers cells moment left_since stops restored (IsReplicaOf m opening) (IsTailOf m opening) ⊥ none_handed (λ place. no_tail) result old new
      × ((new.plan.generation ≡ old.plan.generation + 1) × PassesOver (new.plan.firm - restored) heard taken now))
      ⊎ (GroupMade told remembers cells moment left_since stops result taken now old new
      × (IsFront heard now × ((⊥ → (none_handed ≡ None) ⊎ (old.plan.generation ≡ greatest)) × ((d : Devices) → is_due stops (state_with new.plan d) ≡ false)))))
      → OnErr result ((HandedMade told remembers cells moment left_since stops restored (IsReplicaOf m opening) (IsTailOf m opening) ⊥ none_handed (λ place. no_tail) result old new × (now ≡ taken))
      ⊎ GroupMade told remembers cells moment left_since stops result taken now old new)
      → OnOk result (faulty ≡ false) → OnErr result (faulty ≡ true)
      → RoundsOf told remembers cells moment left_since stops m opening restored faulty first now begun new
  more_rounds was faulty first heard taken now begun old new result whole before done failed fine fails =
      let chain = one_more told remembers cells moment left_since stops restored (IsReplicaOf m opening) (IsTailOf m opening) ⊥ none_handed (λ place. no_tail) was faulty first heard taken now begun old new result whole (before.count, before.made) done failed fine fails in
      record { count = chain.0; made = chain.1 }
