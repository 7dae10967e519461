-- A store that was never asked to switch: it is at generation 0, and its slots and its odd log hold nothing.
use Rattle.std.specs.Prelude.{◌≡◌, ℕ, Bool, true, false, List, [], ◌∷◌, None}
use Rattle.disk_model.specs.Cells.{settled}
use Rattle.store_laws.specs.States.{StoreState}
use Rattle.store_laws.specs.declared.job.Device.TheVariants.{Log, Slot}
use Rattle.store_laws.specs.declared.job.Gate.TheVariants.{Absent}
use Rattle.store_laws.specs.declared.job.Ending.{Ending}
use Rattle.store_laws.specs.declared.job.Ending.TheVariants.{Closes, Repairs, Adds, Switches}
use Rattle.store_laws.specs.declared.job.StoreCall.{StoreCall}
use Rattle.store_laws.specs.declared.job.StoreCall.TheVariants.{On, WriteTail}
use Rattle.store_laws.specs.declared.job.Tail.{Tail}

-- no entry ends a group
abbrev pub never : List ℕ → Bool
never = λ entry. false

-- a tail of no entry, for calls that write none
abbrev pub no_tail : Tail
no_tail = record { made = 0; entries = [] }

-- calls on the even log alone
abbrev pub OnLog : List StoreCall → Type 0
OnLog [] = Unit {0}
OnLog (On (Log false) call ∷ left) = OnLog left
OnLog (On (Log true) call ∷ left) = ⊥
OnLog (On (Slot odd) call ∷ left) = ⊥
OnLog (WriteTail ∷ left) = ⊥

-- The calls that are left repair the log while the gate after its groups is not sure. They add a group once it is closed.
abbrev pub InTurn : List StoreCall → Ending → Bool → Type 0
InTurn [] ending torn = Unit {0}
InTurn (call ∷ left) (Closes odd) torn = ⊥
InTurn (call ∷ left) Repairs torn = torn ≡ true
InTurn (call ∷ left) (Adds end) torn = torn ≡ false
InTurn (call ∷ left) (Switches end last) torn = ⊥

pub record IsUnswitched (s : StoreState) : Type 0 where
  pub odd_log : s.devices.odd_log ≡ settled []
  pub even_slot : s.devices.even_slot ≡ settled []
  pub odd_slot : s.devices.odd_slot ≡ settled []
  pub even : s.even ≡ Absent
  pub odd : s.odd ≡ Absent
  pub generation : s.generation ≡ 0
  pub asked : s.asked ≡ None
  pub log : OnLog s.running
  pub turn : InTurn s.running s.ending s.torn
