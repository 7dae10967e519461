-- The log of a store that may switch: what it holds now, and what it holds once the running switch has ended.
use Rattle.std.specs.Prelude.{◌≡◌, ◌⊎◌, ◌≤◌, ◌+◌, ◌-◌, ℕ, Bool, List, [], ◌∷◌, ◌++◌, length, drop, Option, Some, None}
use Rattle.store_form.specs.declared.checkpoint.Checkpoint.{Checkpoint}
use Rattle.store_laws.specs.Restored.{with}
use Rattle.store_laws.specs.States.{StoreState, firm_by, begun}
use Rattle.store_laws.specs.Stands.{Aim}
use Rattle.store_laws.specs.Firm.{not_firm}
use Rattle.store_laws.specs.Books.{NoTail}
use Rattle.store_laws.specs.Tails.{aimed_at, tail_after, TailLeft, switch_ending}
use Rattle.store_laws.specs.declared.job.Tail.{Tail}
use Rattle.store_laws.specs.declared.job.Ending.{Ending}
use Rattle.store_laws.specs.declared.job.Ending.TheVariants.{Closes, Repairs, Adds, Switches}
use Rattle.store_laws.specs.declared.job.StoreCall.{StoreCall}

-- the log of the present generation: what is kept, what the running group adds, and what waits
abbrev pub log_of : StoreState → Aim → List (List ℕ)
log_of s a = a.kept.entries ++ (s.adding ++ s.waiting)

-- the log of the next generation, once a switch with this tail has ended: the tail, and what waits that is not in it
abbrev pub next_log : Tail → StoreState → List (List ℕ)
next_log tail s = tail.entries ++ drop (firm_by tail.made s - s.firm) s.waiting

-- ---- what a running job makes

-- A job adds nothing to what is kept, and writes no tail.
pub record KeepsAll (calls : List StoreCall) (written : Option Tail) (adding : List (List ℕ)) (a : Aim) : Type 0 where
  pub plain : NoTail calls
  pub unwritten : written ≡ None
  pub none : adding ≡ []
  pub then_is : a.then ≡ a.kept

-- A group adds its entries to what is kept.
pub record AddsAll (calls : List StoreCall) (written : Option Tail) (adding : List (List ℕ)) (a : Aim) : Type 0 where
  pub plain : NoTail calls
  pub unwritten : written ≡ None
  pub then_is : a.then ≡ with a.kept adding
  pub gated_is : a.gated ≡ with a.kept adding
  pub stake_is : (a.stake ≡ a.kept) ⊎ (a.stake ≡ with a.kept adding)

-- A switch aims at the next generation with the tail that it has written, if it has.
pub record AimsAt (calls : List StoreCall) (written : Option Tail) (ending : Ending) (adding : List (List ℕ)) (a : Aim) : Type 0 where
  pub left : TailLeft written calls
  pub ending_is : ending ≡ switch_ending written
  pub none : adding ≡ []
  pub then_is : a.then ≡ aimed_at a.kept a.next written
  pub gated_is : a.gated ≡ aimed_at a.kept a.next written
  pub stake_is : (a.stake ≡ a.kept) ⊎ (a.stake ≡ aimed_at a.kept a.next written)

abbrev pub MakesBy : Ending → List StoreCall → Option Tail → List (List ℕ) → Aim → Type 0
MakesBy (Closes odd) calls written adding a = KeepsAll calls written adding a
MakesBy Repairs calls written adding a = KeepsAll calls written adding a
MakesBy (Adds end) calls written adding a = AddsAll calls written adding a
MakesBy (Switches end last) calls written adding a = AimsAt calls written (Switches end last) adding a

-- the same of a job that still makes these calls; at rest no tail is written, and no entry is added
abbrev pub Makes : List StoreCall → Ending → Option Tail → List (List ℕ) → Aim → Type 0
Makes [] ending written adding a = (written ≡ None) × (adding ≡ [])
Makes (call ∷ left) ending written adding a = MakesBy ending (call ∷ left) written adding a

-- a store of which a running switch has written this tail, if one has
abbrev pub Logs : Option Tail → StoreState → Aim → Type 0
Logs written s a = Makes s.running s.ending written s.adding a

-- ---- the next call

-- the tail that a running switch has written after the next of these calls, of the one that was written before
abbrev pub written_by : Tail → List StoreCall → Option Tail → Option Tail
written_by tail [] written = written
written_by tail (call ∷ []) written = None
written_by tail (call ∷ (more ∷ left)) written = tail_after tail call written

-- the tail of the switch that ends at the next of these calls, if one does
abbrev pub ended_by : Tail → List StoreCall → Option Tail → Option Tail
ended_by tail [] written = None
ended_by tail (call ∷ []) written = tail_after tail call written
ended_by tail (call ∷ (more ∷ left)) written = None

-- both of the next device call of a store
abbrev pub written_then : (List ℕ → Bool) → Tail → StoreState → Option Tail → Option Tail
written_then stops tail s written = written_by tail (begun stops s).running written

abbrev pub ended_then : (List ℕ → Bool) → Tail → StoreState → Option Tail → Option Tail
ended_then stops tail s written = ended_by tail (begun stops s).running written

-- the log after a call, of the store before it: at the end of a switch with this tail the next one, else the same
abbrev pub log_by : Option Tail → StoreState → Aim → List (List ℕ)
log_by None s a = log_of s a
log_by (Some tail) s a = next_log tail s

-- the checkpoint after it
abbrev pub present_by : Option Tail → Aim → Option Checkpoint
present_by None a = a.kept.present
present_by (Some tail) a = Some a.next

-- A call leaves this store, with the tail that is written then. At it a switch with the tail `ended` has ended, or none.
pub record LogGoes (ended written : Option Tail) (old : StoreState) (a : Aim) (new : StoreState) (b : Aim) : Type 0 where
  pub logs : Logs written new b
  pub log : log_of new b ≡ log_by ended old a
  pub present_is : b.kept.present ≡ present_by ended a
  -- while a switch runs, the next log stays as it is
  pub next : (tail : Tail) → written ≡ Some tail → next_log tail new ≡ next_log tail old

-- ---- how many entries are counted

-- of how many entries a store counts: those that are firm, those of its group, and those that wait
abbrev pub counted : StoreState → ℕ
counted s = s.firm + length (not_firm s)

-- the last entry of the tail that is written was counted
abbrev pub TailCounts : Option Tail → StoreState → Type 0
TailCounts None s = Unit {0}
TailCounts (Some tail) s = s.restored + tail.made ≤ counted s
