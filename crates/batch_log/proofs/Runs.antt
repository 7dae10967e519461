-- While a whole group is added.
use Rattle.std.proofs.Common.{◌≡◌, ◌⊎◌, inl, inr, ℕ, ◌<◌, List, [], ◌∷◌, ◌++◌, Some, None, refl, sym, subst, arith}
use Rattle.disk_model.specs.Cells.{Cells, IsImage}
use Rattle.disk_model.specs.Calls.{Elapses, LeavesOnly}
use Rattle.disk_model.proofs.Moments.{started, goes_on}
use Rattle.store_form.specs.Spelling.{Group}
use Rattle.batch_log.specs.declared.job.Job.{Job}
use Rattle.batch_log.specs.declared.job.Job.TheVariants.{Rest, Torn, Close, SyncClose, Body, SyncBody, Gate, SyncGate}
use Rattle.batch_log.specs.Log.{restored}
use Rattle.batch_log.specs.Jobs.{IsBody, Stands, Runs, Adds, Begins, IsIdle, IsUnderWay, LeavesEither, OneOf, at_stake, kept_after, other_after, kept_now, other_now, code, code_after}
use Rattle.batch_log.proofs.Phases.{leaves}

-- it goes on
pub adds_on : (job next : Job) → Adds job → code next ≡ code_after job → Adds next
adds_on job Rest adds is = tt
adds_on job (Close (Some bytes)) adds is = tt
adds_on job (SyncClose (Some bytes)) adds is = tt
adds_on job (Body bytes) adds is = tt
adds_on job (SyncBody n) adds is = tt
adds_on job (Gate n) adds is = tt
adds_on job (SyncGate n) adds is = tt
adds_on Rest next adds is = absurd (omega arith)
adds_on Torn next adds is = absurd adds
adds_on (Close None) next adds is = absurd adds
adds_on (Close (Some bytes)) next adds is = absurd (omega arith)
adds_on (SyncClose None) next adds is = absurd adds
adds_on (SyncClose (Some bytes)) next adds is = absurd (omega arith)
adds_on (Body bytes) next adds is = absurd (omega arith)
adds_on (SyncBody n) next adds is = absurd (omega arith)
adds_on (Gate n) next adds is = absurd (omega arith)
adds_on (SyncGate n) next adds is = absurd (omega arith)

pub stands_on : (new : Cells) (end : ℕ) (job next : Job) (g : Group) (gs other : List Group) → Adds job → code next ≡ code_after job
    → Stands new end next g (kept_after job g (kept_now job g gs)) (other_after job g (kept_now job g gs) (other_now job g gs other)) → Stands new end next g (kept_now next g gs) (other_now next g gs other)
stands_on new end Rest Rest g gs other adds is s = s
stands_on new end (SyncGate n) Rest g gs other adds is s = s
stands_on new end (Gate n) (SyncGate m) g gs other adds is s = s
stands_on new end (SyncBody n) (Gate m) g gs other adds is s = s
stands_on new end (Body bytes) (SyncBody m) g gs other adds is s = s
stands_on new end (SyncClose (Some bytes)) (Body more) g gs other adds is s = s
stands_on new end (Close (Some bytes)) (SyncClose (Some more)) g gs other adds is s = s
stands_on new end Torn next g gs other adds is s = absurd adds
stands_on new end (Close None) next g gs other adds is s = absurd adds
stands_on new end (SyncClose None) next g gs other adds is s = absurd adds
stands_on new end Rest Torn g gs other adds is s = absurd (omega arith)
stands_on new end Rest (Close None) g gs other adds is s = absurd (omega arith)
stands_on new end Rest (Close (Some more)) g gs other adds is s = absurd (omega arith)
stands_on new end Rest (SyncClose None) g gs other adds is s = absurd (omega arith)
stands_on new end Rest (SyncClose (Some more)) g gs other adds is s = absurd (omega arith)
stands_on new end Rest (Body more) g gs other adds is s = absurd (omega arith)
stands_on new end Rest (SyncBody m) g gs other adds is s = absurd (omega arith)
stands_on new end Rest (Gate m) g gs other adds is s = absurd (omega arith)
stands_on new end Rest (SyncGate m) g gs other adds is s = absurd (omega arith)
stands_on new end (SyncGate n) Torn g gs other adds is s = absurd (omega arith)
stands_on new end (SyncGate n) (Close None) g gs other adds is s = absurd (omega arith)
stands_on new end (SyncGate n) (Close (Some more)) g gs other adds is s = absurd (omega arith)
stands_on new end (SyncGate n) (SyncClose None) g gs other adds is s = absurd (omega arith)
stands_on new end (SyncGate n) (SyncClose (Some more)) g gs other adds is s = absurd (omega arith)
stands_on new end (SyncGate n) (Body more) g gs other adds is s = absurd (omega arith)
stands_on new end (SyncGate n) (SyncBody m) g gs other adds is s = absurd (omega arith)
stands_on new end (SyncGate n) (Gate m) g gs other adds is s = absurd (omega arith)
stands_on new end (SyncGate n) (SyncGate m) g gs other adds is s = absurd (omega arith)
stands_on new end (Gate n) Rest g gs other adds is s = absurd (omega arith)
stands_on new end (Gate n) Torn g gs other adds is s = absurd (omega arith)
stands_on new end (Gate n) (Close None) g gs other adds is s = absurd (omega arith)
stands_on new end (Gate n) (Close (Some more)) g gs other adds is s = absurd (omega arith)
stands_on new end (Gate n) (SyncClose None) g gs other adds is s = absurd (omega arith)
stands_on new end (Gate n) (SyncClose (Some more)) g gs other adds is s = absurd (omega arith)
stands_on new end (Gate n) (Body more) g gs other adds is s = absurd (omega arith)
stands_on new end (Gate n) (SyncBody m) g gs other adds is s = absurd (omega arith)
stands_on new end (Gate n) (Gate m) g gs other adds is s = absurd (omega arith)
stands_on new end (SyncBody n) Rest g gs other adds is s = absurd (omega arith)
stands_on new end (SyncBody n) Torn g gs other adds is s = absurd (omega arith)
stands_on new end (SyncBody n) (Close None) g gs other adds is s = absurd (omega arith)
stands_on new end (SyncBody n) (Close (Some more)) g gs other adds is s = absurd (omega arith)
stands_on new end (SyncBody n) (SyncClose None) g gs other adds is s = absurd (omega arith)
stands_on new end (SyncBody n) (SyncClose (Some more)) g gs other adds is s = absurd (omega arith)
stands_on new end (SyncBody n) (Body more) g gs other adds is s = absurd (omega arith)
stands_on new end (SyncBody n) (SyncBody m) g gs other adds is s = absurd (omega arith)
stands_on new end (SyncBody n) (SyncGate m) g gs other adds is s = absurd (omega arith)
stands_on new end (Body bytes) Rest g gs other adds is s = absurd (omega arith)
stands_on new end (Body bytes) Torn g gs other adds is s = absurd (omega arith)
stands_on new end (Body bytes) (Close None) g gs other adds is s = absurd (omega arith)
stands_on new end (Body bytes) (Close (Some more)) g gs other adds is s = absurd (omega arith)
stands_on new end (Body bytes) (SyncClose None) g gs other adds is s = absurd (omega arith)
stands_on new end (Body bytes) (SyncClose (Some more)) g gs other adds is s = absurd (omega arith)
stands_on new end (Body bytes) (Body more) g gs other adds is s = absurd (omega arith)
stands_on new end (Body bytes) (Gate m) g gs other adds is s = absurd (omega arith)
stands_on new end (Body bytes) (SyncGate m) g gs other adds is s = absurd (omega arith)
stands_on new end (SyncClose (Some bytes)) Rest g gs other adds is s = absurd (omega arith)
stands_on new end (SyncClose (Some bytes)) Torn g gs other adds is s = absurd (omega arith)
stands_on new end (SyncClose (Some bytes)) (Close None) g gs other adds is s = absurd (omega arith)
stands_on new end (SyncClose (Some bytes)) (Close (Some more)) g gs other adds is s = absurd (omega arith)
stands_on new end (SyncClose (Some bytes)) (SyncClose None) g gs other adds is s = absurd (omega arith)
stands_on new end (SyncClose (Some bytes)) (SyncClose (Some more)) g gs other adds is s = absurd (omega arith)
stands_on new end (SyncClose (Some bytes)) (SyncBody m) g gs other adds is s = absurd (omega arith)
stands_on new end (SyncClose (Some bytes)) (Gate m) g gs other adds is s = absurd (omega arith)
stands_on new end (SyncClose (Some bytes)) (SyncGate m) g gs other adds is s = absurd (omega arith)
stands_on new end (Close (Some bytes)) Rest g gs other adds is s = absurd (omega arith)
stands_on new end (Close (Some bytes)) Torn g gs other adds is s = absurd (omega arith)
stands_on new end (Close (Some bytes)) (Close None) g gs other adds is s = absurd (omega arith)
stands_on new end (Close (Some bytes)) (Close (Some more)) g gs other adds is s = absurd (omega arith)
stands_on new end (Close (Some bytes)) (SyncClose None) g gs other adds is s = absurd (omega arith)
stands_on new end (Close (Some bytes)) (Body more) g gs other adds is s = absurd (omega arith)
stands_on new end (Close (Some bytes)) (SyncBody m) g gs other adds is s = absurd (omega arith)
stands_on new end (Close (Some bytes)) (Gate m) g gs other adds is s = absurd (omega arith)
stands_on new end (Close (Some bytes)) (SyncGate m) g gs other adds is s = absurd (omega arith)

-- where no job runs, no group is being added
pub idle_any : (cells : Cells) (end : ℕ) (job : Job) (g h : Group) (gs other : List Group) → IsIdle job → Stands cells end job g gs other → Stands cells end job h gs other
idle_any cells end Rest g h gs other idle s = s
idle_any cells end Torn g h gs other idle s = s
idle_any cells end (Close waiting) g h gs other idle s = absurd cc
idle_any cells end (SyncClose waiting) g h gs other idle s = absurd cc
idle_any cells end (Body bytes) g h gs other idle s = absurd cc
idle_any cells end (SyncBody next) g h gs other idle s = absurd cc
idle_any cells end (Gate next) g h gs other idle s = absurd cc
idle_any cells end (SyncGate next) g h gs other idle s = absurd cc

pub underway : (cells : Cells) (end : ℕ) (job : Job) (g : Group) (gs other : List Group) → Runs cells end job g gs other → IsUnderWay cells end job
underway cells end job g gs other r = record { group = g; kept = kept_now job g gs; other = other_now job g gs other; stands = r.1 }

pub rests : (job : Job) → IsIdle job → Adds job → job ≡ Rest
rests Rest idle adds = refl
rests Torn idle adds = absurd adds
rests (Close waiting) idle adds = absurd cc
rests (SyncClose waiting) idle adds = absurd cc
rests (Body bytes) idle adds = absurd cc
rests (SyncBody n) idle adds = absurd cc
rests (Gate n) idle adds = absurd cc
rests (SyncGate n) idle adds = absurd cc

pub falls : (job next : Job) → (IsIdle job → ⊥) → Adds job → code next ≡ code_after job → code next < code job
falls Rest next busy adds is = absurd (busy refl)
falls Torn next busy adds is = absurd adds
falls (Close None) next busy adds is = absurd adds
falls (Close (Some bytes)) next busy adds is = omega arith
falls (SyncClose None) next busy adds is = absurd adds
falls (SyncClose (Some bytes)) next busy adds is = omega arith
falls (Body bytes) next busy adds is = omega arith
falls (SyncBody n) next busy adds is = omega arith
falls (Gate n) next busy adds is = omega arith
falls (SyncGate n) next busy adds is = omega arith

-- ---- what a crash leaves meanwhile

abbrev Three : Group → List Group → List Group → List ℕ → Type 0
Three g gs other c = OneOf (restored c) gs other (gs ++ g ∷ [])

of_two : (g : Group) (gs other a b x : List Group) → OneOf a gs other (gs ++ g ∷ []) → OneOf b gs other (gs ++ g ∷ []) → (x ≡ a) ⊎ (x ≡ b) → OneOf x gs other (gs ++ g ∷ [])
of_two g gs other a b x for_a for_b (inl is) = subst (λ (q : List Group). OneOf q gs other (gs ++ g ∷ [])) (sym is) for_a
of_two g gs other a b x for_a for_b (inr is) = subst (λ (q : List Group). OneOf q gs other (gs ++ g ∷ [])) (sym is) for_b

kept_one : (job : Job) (g : Group) (gs other : List Group) → OneOf (kept_now job g gs) gs other (gs ++ g ∷ [])
kept_one Rest g gs other = inr (inr refl)
kept_one Torn g gs other = inl refl
kept_one (Close waiting) g gs other = inl refl
kept_one (SyncClose waiting) g gs other = inl refl
kept_one (Body bytes) g gs other = inl refl
kept_one (SyncBody n) g gs other = inl refl
kept_one (Gate n) g gs other = inl refl
kept_one (SyncGate n) g gs other = inl refl

other_one : (job : Job) (g : Group) (gs other : List Group) → OneOf (other_now job g gs other) gs other (gs ++ g ∷ [])
other_one Rest g gs other = inr (inr refl)
other_one Torn g gs other = inr (inl refl)
other_one (Close waiting) g gs other = inr (inl refl)
other_one (SyncClose waiting) g gs other = inr (inl refl)
other_one (Body bytes) g gs other = inl refl
other_one (SyncBody n) g gs other = inl refl
other_one (Gate n) g gs other = inl refl
other_one (SyncGate n) g gs other = inr (inr refl)

stake_one : (job : Job) (g : Group) (gs other : List Group) → OneOf (at_stake job g (kept_now job g gs) (other_now job g gs other)) gs other (gs ++ g ∷ [])
stake_one Rest g gs other = inr (inr refl)
stake_one Torn g gs other = inr (inl refl)
stake_one (Close waiting) g gs other = inr (inl refl)
stake_one (SyncClose waiting) g gs other = inr (inl refl)
stake_one (Body bytes) g gs other = inl refl
stake_one (SyncBody n) g gs other = inl refl
stake_one (Gate n) g gs other = inr (inr refl)
stake_one (SyncGate n) g gs other = inr (inr refl)

pub run_leaves : (cells : Cells) (end : ℕ) (job : Job) (g : Group) (gs other : List Group) → Runs cells end job g gs other → (c : List ℕ) → IsImage cells c → Three g gs other c
run_leaves cells end job g gs other r c image =
    of_two g gs other (kept_now job g gs) (other_now job g gs other) (restored c) (kept_one job g gs other) (other_one job g gs other) (leaves cells end job g (kept_now job g gs) (other_now job g gs other) r.1 c image)

pub begin_leaves : (cells : Cells) (end : ℕ) (job : Job) (g : Group) (gs other : List Group) → Stands cells end job g gs other → (c : List ℕ) → IsImage cells c → Three g gs other c
begin_leaves cells end job g gs other s c image =
    of_two g gs other gs other (restored c) (inl refl) (inr (inl refl)) (leaves cells end job g gs other s c image)

pub call_leaves_three : (new : Cells) (job : Job) (g : Group) (gs other : List Group) → LeavesEither new (kept_now job g gs) (at_stake job g (kept_now job g gs) (other_now job g gs other))
    → (c : List ℕ) → IsImage new c → Three g gs other c
call_leaves_three new job g gs other crash c image =
    of_two g gs other (kept_now job g gs) (at_stake job g (kept_now job g gs) (other_now job g gs other)) (restored c) (kept_one job g gs other) (stake_one job g gs other) (crash c image)

module _ {D : Type 0} (moment : D → ℕ) (left_since : D → ℕ → List ℕ → Type 0) (cells : D → Cells) where
  pub begins : (d : D) (end : ℕ) (job : Job) (g : Group) (gs other : List Group) → Stands (cells d) end job g gs other → ((c : List ℕ) → left_since d (moment d) c → IsImage (cells d) c)
      → LeavesOnly moment left_since d d (Three g gs other)
  begins d end job g gs other s only_now = started moment left_since d (Three g gs other) (λ c left. begin_leaves (cells d) end job g gs other s c (only_now c left))

  pub goes_further : (d mid new : D) (job : Job) (g : Group) (gs other : List Group) → LeavesOnly moment left_since d mid (Three g gs other)
      → Elapses (moment mid) (moment new) (left_since mid) (left_since new) (IsImage (cells new)) → LeavesEither (cells new) (kept_now job g gs) (at_stake job g (kept_now job g gs) (other_now job g gs other))
      → LeavesOnly moment left_since d new (Three g gs other)
  goes_further d mid new job g gs other so_far time crash =
      goes_on moment left_since d mid new (Three g gs other) (IsImage (cells new)) so_far time (λ c image. call_leaves_three (cells new) job g gs other crash c image)
