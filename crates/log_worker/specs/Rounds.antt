-- What the rounds of a log worker keep, and what each makes.
use Rattle.std.specs.Prelude.{◌≡◌, ◌≤◌, ◌⊎◌, ℕ, zero, suc, ◌+◌, ◌-◌, Bool, true, false, List, [], ◌++◌, length, max, Option, None, Some, Result, Ok, OnOk, OnErr, IsErrOf}
use Rattle.atomic_table.specs.Seated.{TableId}
use Rattle.disk_model.specs.Cells.{Cells}
use Rattle.queue_ends.specs.Rule.{IsFront}
use Rattle.store_form.specs.declared.ends.LogFault.{LogFault}
use Rattle.store_form.specs.declared.ends.LogFault.TheVariants.{NoMemory}
use Rattle.store_form.specs.declared.ends.State.{State}
use Rattle.store_form.specs.declared.ends.State.TheVariants.{Open}
use Rattle.store_laws.specs.Runs.{called_times}
use Rattle.store_laws.specs.States.{Devices, greatest, given, asked, is_due}
use Rattle.store_laws.specs.declared.job.Tail.{Tail}
use Rattle.store_plan.specs.Plans.{state_with}
use Rattle.store_plan.specs.declared.plan.Plan.{Plan}
use Rattle.durable_store.specs.Runs.{Ran, EndsWithSwitch, no_tail, taken_by, asked_by}
use Rattle.durable_store.specs.declared.store.Store.{Store}

-- the name of no table
abbrev pub no_table : TableId
no_table = record { words = 0; slots = 0; views_name = 0; atom = 0; block = 0; offset = 0; slot_names = [] }

-- an open store between two jobs: none runs, no group is under way, and no switch waits
abbrev pub IsAtRest : Plan → State → Type 0
IsAtRest p state = (p.running ≡ []) × ((p.adding ≡ []) × ((p.asked ≡ None) × (state ≡ Open)))

-- More was taken, but none beyond this number; and up to this number, or all that was heard to be put.
pub record PassesOver (upto : ℕ) (heard taken now : List (List ℕ)) : Type 0 where
  pub front : IsFront taken now
  pub within : length now ≤ max (length taken) upto
  pub all : (upto ≤ length now) ⊎ IsFront heard now

module _ {D : Type 0} (told remembers : Type 0) (cells : D → Cells) (moment : D → ℕ) (left_since : D → ℕ → List ℕ → Type 0) (stops : List ℕ → Bool) where
  -- A store was given these entries, and made each call that was due, or up to one that failed. With an error they are not among those that wait.
  abbrev pub Gave : {T : Type 0} → Result T LogFault → List (List ℕ) → Store D → Store D → Type 0
  Gave result entries old new =
      (run : Ran told remembers cells moment left_since stops no_tail (λ d. given entries (state_with old.plan d)) (taken_by result old.plan.waiting) old.disks new)
      × OnErr result (new.state ≡ Open → (d : Devices) → (called_times stops no_tail run.calls (given entries (state_with old.plan d))).waiting ≡ old.plan.waiting ++ entries)

  -- A store was asked to switch to this snapshot, with this tail. It made each call up to the end of the switch, or up to one that failed.
  abbrev pub Switched : {T : Type 0} → Result T LogFault → List ℕ → Tail → Store D → Store D → Type 0
  Switched result snapshot tail old new =
      (run : Ran told remembers cells moment left_since stops tail (λ d. asked snapshot (state_with old.plan d)) (asked_by result) old.disks new)
      × OnOk result ((d : Devices) → EndsWithSwitch stops tail run.calls (asked snapshot (state_with old.plan d)))

  -- Memory was wanted before the store was called.
  abbrev pub Wanted : {T : Type 0} → Result T LogFault → Store D → Store D → Type 0
  Wanted result old new = (new ≡ old) × IsErrOf result NoMemory

  -- These entries were taken from the lane, and those the store was given.
  pub record GroupMade {T : Type 0} (result : Result T LogFault) (taken now : List (List ℕ)) (old new : Store D) : Type 0 where
    pub entries : List (List ℕ)
    pub taken_is : now ≡ taken ++ entries
    pub made : Gave result entries old new ⊎ Wanted result old new

  -- The store was asked to switch to this snapshot of a place, with a tail that belongs to the place. It is the seat's, if no one else changes the seat.
  -- After so many restored entries, no entry behind the tail's last one was firm.
  pub record SwitchMade {T : Type 0} (restored : ℕ) (is_tail : ℕ → Tail → Type 0) (alone : Type 0) (tails : ℕ → Tail) (place : ℕ) (snapshot : List ℕ) (result : Result T LogFault) (old new : Store D) : Type 0 where
    pub tail : Tail
    pub of_place : is_tail place tail
    pub tail_is : alone → tail ≡ tails place
    pub covers : old.plan.firm ≤ restored + tail.made
    pub made : Switched result snapshot tail old new

  -- The same of a snapshot that was handed over: the bytes of a replica of its place. It is the seat's, if no one else changes the seat.
  pub record HandedMade {T : Type 0} (restored : ℕ) (is_replica : ℕ → List ℕ → Type 0) (is_tail : ℕ → Tail → Type 0) (alone : Type 0) (hands : Option (ℕ × List ℕ)) (tails : ℕ → Tail) (result : Result T LogFault) (old new : Store D) : Type 0 where
    pub place : ℕ
    pub snapshot : List ℕ
    pub replica : is_replica place snapshot
    pub handed : alone → hands ≡ Some (place, snapshot)
    pub made : SwitchMade restored is_tail alone tails place snapshot result old new ⊎ Wanted result old new

  -- A round went well that wrote a group, and left the store open.
  pub record GroupRound (taken now : List (List ℕ)) (old new : Store D) : Type 0 where
    pub firm : ℕ
    pub made : GroupMade (Ok firm) taken now old new
    pub is_open : new.state ≡ Open

  -- that many such rounds, one after the other
  abbrev pub GroupRounds : ℕ → List (List ℕ) → List (List ℕ) → Store D → Store D → Type 0
  GroupRounds zero taken now old new = (now ≡ taken) × (new ≡ old)
  GroupRounds (suc n) taken now old new = (between : List (List ℕ)) × ((mid : Store D) × (GroupRounds n taken between old mid × GroupRound between now mid new))

  module _ (restored : ℕ) (is_replica : ℕ → List ℕ → Type 0) (is_tail : ℕ → Tail → Type 0) (alone : Type 0) (hands : Option (ℕ × List ℕ)) (tails : ℕ → Tail) where
    -- What one round made, well or not, of a store that had restored so many entries. Well: a switch to a snapshot that was handed over, and no entry of the lane was passed over that is
    -- not firm then. Or a group of all that was heard to be put. Not well: the store was asked for no other switch and no other group.
    pub record RoundMade (result : Result ℕ LogFault) (heard taken now : List (List ℕ)) (old new : Store D) : Type 0 where
      pub done : OnOk result ((HandedMade restored is_replica is_tail alone hands tails result old new × ((new.plan.generation ≡ old.plan.generation + 1) × PassesOver (new.plan.firm - restored) heard taken now))
          ⊎ (GroupMade result taken now old new
          × (IsFront heard now × ((alone → (hands ≡ None) ⊎ (old.plan.generation ≡ greatest)) × ((d : Devices) → is_due stops (state_with new.plan d) ≡ false)))))
      pub failed : OnErr result ((HandedMade restored is_replica is_tail alone hands tails result old new × (now ≡ taken)) ⊎ GroupMade result taken now old new)

    -- That many rounds, one after the other. Each went well, but the last if this is faulty.
    abbrev pub AllRounds : ℕ → Bool → List (List ℕ) → List (List ℕ) → Store D → Store D → Type 0
    AllRounds zero faulty taken now old new = (faulty ≡ false) × ((now ≡ taken) × (new ≡ old))
    AllRounds (suc n) faulty taken now old new = (between : List (List ℕ)) × ((mid : Store D) × (AllRounds n false taken between old mid
        × ((result : Result ℕ LogFault) × ((OnOk result (faulty ≡ false) × OnErr result (faulty ≡ true))
        × ((heard : List (List ℕ)) × RoundMade result heard between now mid new)))))
