-- A store holds its book over the rounds of a worker.
use Rattle.std.proofs.Common.{◌≡◌, ◌⊎◌, ℕ, zero, suc, ◌-◌, Bool, List, ◌++◌, length, Option, Some, Result, Ok, Err, inl, inr, sym, ◌∙◌, ap, subst, append_assoc}
use Rattle.disk_model.specs.Cells.{Cells}
use Rattle.store_form.specs.declared.checkpoint.Checkpoint.{Checkpoint}
use Rattle.store_form.specs.declared.ends.LogFault.{LogFault}
use Rattle.store_form.specs.declared.ends.State.TheVariants.{Open}
use Rattle.store_laws.specs.Restored.{switched}
use Rattle.store_laws.specs.Runs.{called_times}
use Rattle.store_laws.specs.Stands.{Aim}
use Rattle.store_laws.specs.States.{Devices, StoreState, given, asked}
use Rattle.store_laws.specs.Tails.{next_of}
use Rattle.store_laws.specs.declared.job.Kept.{Kept}
use Rattle.store_laws.specs.declared.job.Tail.{Tail}
use Rattle.store_plan.specs.Plans.{state_with}
use Rattle.durable_store.specs.BookRuns.{HoldsBook}
use Rattle.durable_store.specs.Disks.{cells_of}
use Rattle.durable_store.specs.Runs.{Ran, no_tail}
use Rattle.durable_store.specs.Stores.{state_of}
use Rattle.durable_store.specs.declared.disks.Disks.{Disks}
use Rattle.durable_store.specs.declared.store.Store.{Store}
use Rattle.durable_store.proofs.Ran.{holds_given, run_holds}
use Rattle.durable_store.proofs.Switched.{book_switched}
use Rattle.log_worker.specs.Rounds.{Gave, Wanted, Switched, GroupRound, GroupRounds}

-- what went well
abbrev IsFine : Result ℕ LogFault → Type 0
IsFine (Ok n) = Unit {0}
IsFine (Err e) = ⊥

module _ {D : Type 0} (told remembers : Type 0) (cells : D → Cells) (moment : D → ℕ) (left_since : D → ℕ → List ℕ → Type 0) (stops : List ℕ → Bool) where
  -- the state of a store that stays open, after a run
  state_after : (tail : Tail) (first : Devices → StoreState) (old : Disks D) (new : Store D) (run : Ran told remembers cells moment left_since stops tail first (λ s. s) old new) → told → new.state ≡ Open
      → state_of cells new ≡ called_times stops tail run.calls (first (cells_of cells old))
  state_after tail first old new run tells is_open =
      ap (λ (d : Devices). state_with new.plan d) (ap (λ (d : Disks D). cells_of cells d) (run.still is_open) ∙ run.contents tells) ∙ run.plan is_open (cells_of cells old)

  module _ (present : Option Checkpoint) (stake : Kept) (gone : ℕ) where
    gave_holds : (book entries : List (List ℕ)) (firm : ℕ) (a : Aim) (old new : Store D) → told → new.state ≡ Open → HoldsBook book present stake gone (state_of cells old) a
        → Gave told remembers cells moment left_since stops {T = ℕ} (Ok firm) entries old new → (b : Aim) × HoldsBook (book ++ entries) present stake gone (state_of cells new) b
    gave_holds book entries firm a old new tells is_open holds gave =
        let run = gave.0 in
        let with_them = holds_given book present stake gone (state_of cells old) a entries holds in
        let after = run_holds stops no_tail (book ++ entries) present stake gone run.calls (given entries (state_of cells old)) a with_them (run.fits (cells_of cells old.disks)) in
        (after.0, subst (λ (s : StoreState). HoldsBook (book ++ entries) present stake gone s after.0) (sym (state_after no_tail (λ d. given entries (state_with old.plan d)) old.disks new run tells is_open)) after.1)

    -- memory was not wanted in a round that went well
    made_gave : (firm : ℕ) (entries : List (List ℕ)) (old new : Store D) → Gave told remembers cells moment left_since stops {T = ℕ} (Ok firm) entries old new ⊎ Wanted told remembers cells moment left_since stops {T = ℕ} (Ok firm) old new
        → Gave told remembers cells moment left_since stops {T = ℕ} (Ok firm) entries old new
    made_gave firm entries old new (inl gave) = gave
    made_gave firm entries old new (inr wanted) = absurd (subst IsFine wanted.1 tt)

    round_holds : (restored : List (List ℕ)) (a : Aim) (taken now : List (List ℕ)) (old new : Store D) → told → HoldsBook (restored ++ taken) present stake gone (state_of cells old) a
        → GroupRound told remembers cells moment left_since stops taken now old new → (b : Aim) × HoldsBook (restored ++ now) present stake gone (state_of cells new) b
    round_holds restored a taken now old new tells holds round =
        let m = round.made in
        let after = gave_holds (restored ++ taken) m.entries round.firm a old new tells round.is_open holds (made_gave round.firm m.entries old new m.made) in
        (after.0, subst (λ (l : List (List ℕ)). HoldsBook l present stake gone (state_of cells new) after.0) (append_assoc restored taken m.entries ∙ ap (λ (l : List (List ℕ)). restored ++ l) (sym m.taken_is)) after.1)

    pub rounds_hold : (restored : List (List ℕ)) (n : ℕ) (a : Aim) (taken now : List (List ℕ)) (old new : Store D) → told → HoldsBook (restored ++ taken) present stake gone (state_of cells old) a
        → GroupRounds told remembers cells moment left_since stops n taken now old new → (b : Aim) × HoldsBook (restored ++ now) present stake gone (state_of cells new) b
    rounds_hold restored zero a taken now old new tells holds same =
        (a, subst (λ (s : Store D). HoldsBook (restored ++ now) present stake gone (state_of cells s) a) (sym same.1) (subst (λ (l : List (List ℕ)). HoldsBook (restored ++ l) present stake gone (state_of cells old) a) (sym same.0) holds))
    rounds_hold restored (suc n) a taken now old new tells holds rounds =
        let before = rounds_hold restored n a taken rounds.0 old rounds.1.0 tells holds rounds.1.1.0 in
        round_holds restored before.0 rounds.0 now rounds.1.0 new tells before.1 rounds.1.1.1

  pub switch_holds : (book : List (List ℕ)) (present : Option Checkpoint) (stake : Kept) (gone firm : ℕ) (a : Aim) (snapshot : List ℕ) (tail : Tail) (old new : Store D) → told → new.state ≡ Open
      → HoldsBook book present stake gone (state_of cells old) a → Switched told remembers cells moment left_since stops {T = ℕ} (Ok firm) snapshot tail old new
      → (b : Aim)
      × HoldsBook (tail.entries ++ new.plan.waiting) (Some (next_of old.plan.generation snapshot)) (switched (next_of old.plan.generation snapshot) tail.entries) (new.plan.firm - length tail.entries) (state_of cells new) b
  switch_holds book present stake gone firm a snapshot tail old new tells is_open holds made =
      let run = made.0 in
      let after = book_switched stops tail book present stake gone run.calls (state_of cells old) a snapshot holds (run.fits (cells_of cells old.disks)) (made.1 (cells_of cells old.disks)) in (
        after.0,
        subst (λ (s : StoreState). HoldsBook (tail.entries ++ s.waiting) (Some (next_of old.plan.generation snapshot)) (switched (next_of old.plan.generation snapshot) tail.entries) (s.firm - length tail.entries) s after.0)
            (sym (state_after tail (λ d. asked snapshot (state_with old.plan d)) old.disks new run tells is_open)) after.1,
      )
