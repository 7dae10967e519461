-- What a gate that is not sure may bring back while a job runs, and what is left of it at the job's end.
use Rattle.std.specs.Prelude.{◌≡◌, ◌⊎◌, ℕ, Bool, true, false, not, List, [], ◌∷◌}
use Rattle.batch_log.specs.Log.{restored}
use Rattle.batch_log.specs.Exact.{end_opened}
use Rattle.store_laws.specs.Restored.{entries_of, opened_at}
use Rattle.store_laws.specs.States.{StoreState, side, is_torn, log_at}
use Rattle.store_laws.specs.Stands.{Aim}
use Rattle.store_laws.specs.declared.job.Kept.{Kept}
use Rattle.store_laws.specs.declared.job.Device.TheVariants.{Log, Slot}
use Rattle.store_laws.specs.declared.job.Ending.{Ending}
use Rattle.store_laws.specs.declared.job.Ending.TheVariants.{Closes, Repairs, Adds, Switches}
use Rattle.store_laws.specs.declared.job.StoreCall.{StoreCall}
use Rattle.store_laws.specs.declared.job.StoreCall.TheVariants.{On, WriteTail}

-- the bytes of the present log
abbrev pub present_log : StoreState → List ℕ
present_log s = (log_at (side s) s.devices).now

-- what a 1 at the gate after the groups of the present log brings back, beside the checkpoint of what is kept
abbrev pub log_brings : StoreState → Kept → Kept
log_brings s kept = record { present = kept.present; entries = entries_of (restored (opened_at (end_opened (present_log s)) (present_log s))) }

-- calls on slots alone
abbrev pub OnSlots : List StoreCall → Type 0
OnSlots [] = Unit {0}
OnSlots (On (Slot odd) call ∷ left) = OnSlots left
OnSlots (On (Log odd) call ∷ left) = ⊥
OnSlots (WriteTail ∷ left) = ⊥

-- no gate of a slot is torn
abbrev pub SlotsCalm : StoreState → Type 0
SlotsCalm s = (is_torn s.even ≡ false) × (is_torn s.odd ≡ false)

-- The gate of a slot is closed: that of the generations that are not present. What is at stake stays so. If the gate of the present log is
-- torn, it is what that gate brings back.
pub record ClosesSlot (odd : Bool) (calls : List StoreCall) (s : StoreState) (a : Aim) : Type 0 where
  pub on_slots : OnSlots calls
  pub beside : odd ≡ not (side s)
  pub then_is : a.then ≡ a.kept
  pub gated_is : a.gated ≡ a.stake
  pub brings : s.torn ≡ true → a.stake ≡ log_brings s a.kept

abbrev pub StakesBy : Ending → List StoreCall → StoreState → Aim → Type 0
StakesBy (Closes odd) calls s a = ClosesSlot odd calls s a
StakesBy Repairs calls s a = SlotsCalm s
StakesBy (Adds end) calls s a = SlotsCalm s
StakesBy (Switches end last) calls s a = SlotsCalm s

-- A store whose running job still makes these calls. No gate of a slot is torn, but while one is closed.
abbrev pub StakesIn : List StoreCall → StoreState → Aim → Type 0
StakesIn [] s a = Unit {0}
StakesIn (call ∷ left) s a = StakesBy s.ending (call ∷ left) s a

abbrev pub Stakes : StoreState → Aim → Type 0
Stakes s a = StakesIn s.running s a

-- What is at stake after the next of these calls, if it is the last one: what is kept then, or, while the gate of the present log is torn,
-- what was at stake before.
abbrev pub LeftBy : List StoreCall → Bool → Kept → Aim → Type 0
LeftBy [] torn stake after = Unit {0}
LeftBy (call ∷ []) torn stake after = (after.stake ≡ after.kept) ⊎ ((torn ≡ true) × (after.stake ≡ stake))
LeftBy (call ∷ (more ∷ left)) torn stake after = Unit {0}
