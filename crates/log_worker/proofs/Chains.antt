-- A chain of rounds, as a loop carries it.
use Rattle.std.proofs.Common.{◌≡◌, ◌⊎◌, ℕ, suc, ◌+◌, ◌-◌, Bool, true, false, List, Option, None, Result, OnOk, OnErr, refl, subst}
use Rattle.disk_model.specs.Cells.{Cells}
use Rattle.queue_ends.specs.Rule.{IsFront}
use Rattle.store_form.specs.declared.ends.LogFault.{LogFault}
use Rattle.store_laws.specs.States.{Devices, greatest, is_due}
use Rattle.store_laws.specs.declared.job.Tail.{Tail}
use Rattle.store_plan.specs.Plans.{state_with}
use Rattle.durable_store.specs.declared.store.Store.{Store}
use Rattle.log_worker.specs.Rounds.{PassesOver, GroupMade, HandedMade, AllRounds}

module _ {D : Type 0} (told remembers : Type 0) (cells : D → Cells) (moment : D → ℕ) (left_since : D → ℕ → List ℕ → Type 0) (stops : List ℕ → Bool) (restored : ℕ) (is_replica : ℕ → List ℕ → Type 0) (is_tail : ℕ → Tail → Type 0) (alone : Type 0) (hands : Option (ℕ × List ℕ)) (tails : ℕ → Tail) where
  -- before the first round
  pub none_yet : (faulty : Bool) (taken : List (List ℕ)) (store : Store D) → faulty ≡ false
      → (n : ℕ) × AllRounds told remembers cells moment left_since stops restored is_replica is_tail alone hands tails n faulty taken taken store store
  none_yet faulty taken store whole = (0, (whole, (refl, refl)))

  -- After one more round, which follows no round that failed. It takes what a round ensures, as it stands there.
  pub one_more : (was faulty : Bool) (first heard taken now : List (List ℕ)) (begun old new : Store D) (result : Result ℕ LogFault) → was ≡ false
      → ((n : ℕ) × AllRounds told remembers cells moment left_since stops restored is_replica is_tail alone hands tails n was first taken begun old)
      → OnOk result ((HandedMade told remembers cells moment left_since stops restored is_replica is_tail alone hands tails result old new
      × ((new.plan.generation ≡ old.plan.generation + 1) × PassesOver (new.plan.firm - restored) heard taken now))
      ⊎ (GroupMade told remembers cells moment left_since stops result taken now old new
      × (IsFront heard now × ((alone → (hands ≡ None) ⊎ (old.plan.generation ≡ greatest)) × ((d : Devices) → is_due stops (state_with new.plan d) ≡ false)))))
      → OnErr result ((HandedMade told remembers cells moment left_since stops restored is_replica is_tail alone hands tails result old new × (now ≡ taken))
      ⊎ GroupMade told remembers cells moment left_since stops result taken now old new)
      → OnOk result (faulty ≡ false) → OnErr result (faulty ≡ true)
      → (n : ℕ) × AllRounds told remembers cells moment left_since stops restored is_replica is_tail alone hands tails n faulty first now begun new
  one_more was faulty first heard taken now begun old new result whole before done failed fine fails =
      let chain = subst (λ (b : Bool). AllRounds told remembers cells moment left_since stops restored is_replica is_tail alone hands tails before.0 b first taken begun old) whole before.1 in
      (suc before.0, (taken, (old, (chain, (result, ((fine, fails), (heard, record { done = done; failed = failed })))))))
