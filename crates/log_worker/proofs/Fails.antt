-- What a store did in a call that failed does not depend on the fault that is told.
use Rattle.std.proofs.Common.{◌≡◌, ℕ, Bool, List, Result, Ok, Err}
use Rattle.disk_model.specs.Cells.{Cells}
use Rattle.store_form.specs.declared.ends.LogFault.{LogFault}
use Rattle.store_laws.specs.declared.job.Tail.{Tail}
use Rattle.durable_store.specs.declared.store.Store.{Store}
use Rattle.log_worker.specs.Rounds.{Gave, Switched}

module _ {D : Type 0} (told remembers : Type 0) (cells : D → Cells) (moment : D → ℕ) (left_since : D → ℕ → List ℕ → Type 0) (stops : List ℕ → Bool) where
  pub gave_err : {T : Type 0} (r : Result T LogFault) (e f : LogFault) (entries : List (List ℕ)) (old new : Store D) → r ≡ Err e → Gave told remembers cells moment left_since stops {T = T} (Err f) entries old new
      → Gave told remembers cells moment left_since stops r entries old new
  gave_err (Ok x) e f entries old new is gave = absurd cc
  gave_err (Err g) e f entries old new is gave = gave

  pub switched_err : {T : Type 0} (r : Result T LogFault) (e f : LogFault) (snapshot : List ℕ) (tail : Tail) (old new : Store D) → r ≡ Err e → Switched told remembers cells moment left_since stops {T = T} (Err f) snapshot tail old new
      → Switched told remembers cells moment left_since stops r snapshot tail old new
  switched_err (Ok x) e f snapshot tail old new is made = absurd cc
  switched_err (Err g) e f snapshot tail old new is made = made
