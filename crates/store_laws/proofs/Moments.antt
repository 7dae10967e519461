-- The next device call of a store, and a crash before it or at a moment of it.
use Rattle.std.proofs.Common.{◌≡◌, ◌⊎◌, inl, inr, ℕ, ◌+◌, Bool, true, false, not, cond, List, [], ◌∷◌, refl, sym, ◌∙◌, ap, subst, arith}
use Rattle.store_form.specs.Spelling.{IsGroup, payload, checkpoint_text}
use Rattle.store_laws.specs.Restored.{Images}
use Rattle.store_laws.specs.States.{StoreState, side, slot_gate_of, some, switch_calls, writes_tail, Begun, NoJob, Close, Repair, Switch, AddGroup, due_job, begins, begun, job_called, store_called, MayLeave, devices_during}
use Rattle.store_laws.specs.Lives.{StoreNext, Either}
use Rattle.store_laws.specs.Stands.{Aim, Leaves, StandsBy, OwnRests, AnyRests, StoreStands, IsOwn, aim_begins, HasSpelling}
use Rattle.store_laws.specs.Runs.{CallFits, CallLeaves, aim_begun, aim_first, aim_then}
use Rattle.store_laws.specs.declared.job.Kept.{Kept}
use Rattle.store_laws.specs.declared.job.Tail.{Tail}
use Rattle.store_laws.specs.declared.job.Gate.{Gate}
use Rattle.store_laws.specs.declared.job.Gate.TheVariants.{Absent, Closed, Torn, Open}
use Rattle.store_laws.specs.declared.job.StoreCall.{StoreCall}
use Rattle.store_laws.specs.declared.job.StoreCall.TheVariants.{On, WriteTail}
use Rattle.store_laws.proofs.Restores.{next_restores}
use Rattle.store_laws.proofs.Goes.{own_begins, own_still, goes, crash_during}
use Rattle.store_laws.proofs.Any.{any_still}
use Rattle.store_laws.proofs.AnyGoes.{any_begins}
use Rattle.store_laws.proofs.Given.{no_calls}

-- a tail of no entry, for calls that write none
abbrev no_tail : Tail
no_tail = record { made = 0; entries = [] }

no_tail_fits : IsGroup []
unfolding payload
no_tail_fits = record { few = omega arith; each = tt; small = omega arith }

-- ---- no job begins with the tail

switch_plain : (odd : Bool) (gate : Gate) (text : List ℕ) → writes_tail (switch_calls odd gate text) ≡ false
switch_plain odd Absent text = refl
switch_plain odd Closed text = refl
switch_plain odd Torn text = refl
switch_plain odd Open text = refl

begins_plain : (job : Begun) (s : StoreState) → s.running ≡ [] → writes_tail (begins job s).running ≡ false
begins_plain NoJob s idle = ap writes_tail idle
begins_plain (Close odd) s idle = refl
begins_plain Repair s idle = refl
begins_plain (Switch snapshot) s idle = switch_plain (not (side s)) (slot_gate_of (not (side s)) s) (checkpoint_text (record { generation = s.generation + 1; snapshot = snapshot }))
begins_plain (AddGroup group) s idle = refl

pub begun_fits : (stops : List ℕ → Bool) (tail : Tail) (s : StoreState) → CallFits stops tail s → writes_tail (begun stops s).running ≡ true → IsGroup tail.entries
begun_fits stops tail s fits = by (some s.running) refl
  where
    by : (t : Bool) → some s.running ≡ t → writes_tail (cond t s (begins (due_job stops s) s)).running ≡ true → IsGroup tail.entries
    by true is writes = fits.1 writes
    by false is writes =
        let clash : true ≡ false = sym writes ∙ begins_plain (due_job stops s) s (no_calls s.running is) in
        absurd cc

-- ---- of both kinds of stores

module _ (P : Images → Kept → Kept → Type 0) (R : StoreState → Kept → Kept → Type 0) (still : (s : StoreState) (kept other : Kept) → R s kept other → (images : Images) → MayLeave s.devices images → P images kept other)
    (alone : (images : Images) (kept other : Kept) → P images kept kept → P images kept other) (stops : List ℕ → Bool)
    (starts : (s : StoreState) (a : Aim) → s.running ≡ [] → StandsBy P R s.running s a → HasSpelling (due_job stops s) → StandsBy P R (begins (due_job stops s) s).running (begins (due_job stops s) s) (aim_begins (due_job stops s) s a)) (tail : Tail) where
  leaves : (calls : List StoreCall) (s : StoreState) (a : Aim) → StandsBy P R calls s a → Leaves P s.devices a
  leaves [] s a r = still s a.kept a.stake r
  leaves (call ∷ left) s a runs = runs.0

  -- what the store stands for after the next of these calls, and what a crash then may leave
  abbrev Next : List StoreCall → StoreState → Aim → Images → Type 0
  Next calls s a images =
      (other : Kept) × (StandsBy P R (job_called tail calls s).running (job_called tail calls s) (aim_first tail calls other a) × P images (aim_first tail calls other a).kept (aim_first tail calls other a).stake)

  job_goes : (calls : List StoreCall) (s : StoreState) (a : Aim) → s.running ≡ calls → (writes_tail calls ≡ true → IsGroup tail.entries) → StandsBy P R s.running s a
      → (other : Kept) × StandsBy P R (job_called tail calls s).running (job_called tail calls s) (aim_first tail calls other a)
  job_goes [] s a is fits stands = (a.kept, stands)
  job_goes (WriteTail ∷ left) s a is fits stands = goes P R s a tail WriteTail left (fits refl) (subst (λ (calls : List StoreCall). StandsBy P R calls s a) is stands)
  job_goes (On device call ∷ left) s a is fits stands = goes P R s a no_tail (On device call) left no_tail_fits (subst (λ (calls : List StoreCall). StandsBy P R calls s a) is stands)

  job_during : (calls : List StoreCall) (s : StoreState) (a : Aim) → s.running ≡ calls → (writes_tail calls ≡ true → IsGroup tail.entries) → StandsBy P R s.running s a → (images : Images) → MayLeave (devices_during tail calls s) images
      → P images a.kept a.stake ⊎ Next calls s a images
  job_during [] s a is fits stands images may = inl (leaves s.running s a stands images may)
  job_during (WriteTail ∷ left) s a is fits stands images may =
      crash_during P R still s a tail WriteTail left (fits refl) (subst (λ (calls : List StoreCall). StandsBy P R calls s a) is stands) images may
  job_during (On device call ∷ left) s a is fits stands images may =
      crash_during P R still s a no_tail (On device call) left no_tail_fits (subst (λ (calls : List StoreCall). StandsBy P R calls s a) is stands) images may

  begun_stands : (s : StoreState) (a : Aim) → StandsBy P R s.running s a → CallFits stops tail s → StandsBy P R (begun stops s).running (begun stops s) (aim_begun stops s a)
  begun_stands s a stands fits = by (some s.running) refl
    where
      by : (t : Bool) → some s.running ≡ t → StandsBy P R (cond t s (begins (due_job stops s) s)).running (cond t s (begins (due_job stops s) s)) (cond t a (aim_begins (due_job stops s) s a))
      by true is = stands
      by false is = starts s a (no_calls s.running is) stands (fits.0 is)

  -- what is at stake when a job begins was at stake before
  begins_before : (job : Begun) (s : StoreState) (a : Aim) (images : Images) → P images (aim_begins job s a).kept (aim_begins job s a).stake → P images a.kept a.stake
  begins_before NoJob s a images p = p
  begins_before (Close odd) s a images p = p
  begins_before Repair s a images p = p
  begins_before (Switch snapshot) s a images p = alone images a.kept a.stake p
  begins_before (AddGroup group) s a images p = alone images a.kept a.stake p

  begun_before : (s : StoreState) (a : Aim) (images : Images) → P images (aim_begun stops s a).kept (aim_begun stops s a).stake → P images a.kept a.stake
  begun_before s a images = by (some s.running)
    where
      by : (t : Bool) → P images (cond t a (aim_begins (due_job stops s) s a)).kept (cond t a (aim_begins (due_job stops s) s a)).stake → P images a.kept a.stake
      by true p = p
      by false p = begins_before (due_job stops s) s a images p

  pub call_goes : (s : StoreState) (a : Aim) → StandsBy P R s.running s a → CallFits stops tail s
      → (other : Kept) × StandsBy P R (store_called stops tail s).running (store_called stops tail s) (aim_then stops tail other s a)
  call_goes s a stands fits = job_goes (begun stops s).running (begun stops s) (aim_begun stops s a) refl (begun_fits stops tail s fits) (begun_stands s a stands fits)

  pub call_leaves : (s : StoreState) (a : Aim) → StandsBy P R s.running s a → (images : Images) → CallLeaves stops tail s images
      → P images a.kept a.stake
      ⊎ ((other : Kept)
      × (StandsBy P R (store_called stops tail s).running (store_called stops tail s) (aim_then stops tail other s a) × P images (aim_then stops tail other s a).kept (aim_then stops tail other s a).stake))
  call_leaves s a stands images (inl may) = inl (leaves s.running s a stands images may)
  call_leaves s a stands images (inr moment) =
      by (job_during (begun stops s).running (begun stops s) (aim_begun stops s a) refl (begun_fits stops tail s moment.0) (begun_stands s a stands moment.0) images moment.1)
    where
      by : P images (aim_begun stops s a).kept (aim_begun stops s a).stake ⊎ Next (begun stops s).running (begun stops s) (aim_begun stops s a) images
          → P images a.kept a.stake ⊎ Next (begun stops s).running (begun stops s) (aim_begun stops s a) images
      by (inl before) = inl (begun_before s a images before)
      by (inr then) = inr then

-- ---- of own lives

next_alone : (images : Images) (kept other : Kept) → StoreNext images kept kept → StoreNext images kept other
next_alone images kept other (inl w) = inl w
next_alone images kept other (inr (inl w)) = inl w
next_alone images kept other (inr (inr w)) = inl w

pub own_call_goes : (stops : List ℕ → Bool) (tail : Tail) (s : StoreState) (a : Aim) → IsOwn s a → CallFits stops tail s → (other : Kept) × IsOwn (store_called stops tail s) (aim_then stops tail other s a)
own_call_goes stops tail = call_goes StoreNext OwnRests own_still next_alone stops (own_begins stops) tail

pub own_call_leaves : (stops : List ℕ → Bool) (tail : Tail) (s : StoreState) (a : Aim) → IsOwn s a → (images : Images) → CallLeaves stops tail s images
    → StoreNext images a.kept a.stake
    ⊎ ((other : Kept) × (IsOwn (store_called stops tail s) (aim_then stops tail other s a) × StoreNext images (aim_then stops tail other s a).kept (aim_then stops tail other s a).stake))
own_call_leaves stops tail = call_leaves StoreNext OwnRests own_still next_alone stops (own_begins stops) tail

pub own_call_restores : (stops : List ℕ → Bool) (tail : Tail) (s : StoreState) (a : Aim) → IsOwn s a → (images : Images) → CallLeaves stops tail s images
    → Either images a.kept a.stake
    ⊎ ((other : Kept) × (IsOwn (store_called stops tail s) (aim_then stops tail other s a) × Either images (aim_then stops tail other s a).kept (aim_then stops tail other s a).stake))
own_call_restores stops tail s a own images left = by (own_call_leaves stops tail s a own images left)
  where
    by : StoreNext images a.kept a.stake
        ⊎ ((other : Kept) × (IsOwn (store_called stops tail s) (aim_then stops tail other s a) × StoreNext images (aim_then stops tail other s a).kept (aim_then stops tail other s a).stake))
        → Either images a.kept a.stake
        ⊎ ((other : Kept) × (IsOwn (store_called stops tail s) (aim_then stops tail other s a) × Either images (aim_then stops tail other s a).kept (aim_then stops tail other s a).stake))
    by (inl now) = inl (next_restores images a.kept a.stake now)
    by (inr then) = inr (then.0, (then.1.0, next_restores images (aim_then stops tail then.0 s a).kept (aim_then stops tail then.0 s a).stake then.1.1))

-- ---- over any bytes

either_alone : (images : Images) (kept other : Kept) → Either images kept kept → Either images kept other
either_alone images kept other (inl is) = inl is
either_alone images kept other (inr is) = inl is

pub any_call_goes : (stops : List ℕ → Bool) (tail : Tail) (s : StoreState) (a : Aim) → StoreStands s a → CallFits stops tail s → (other : Kept) × StoreStands (store_called stops tail s) (aim_then stops tail other s a)
any_call_goes stops tail = call_goes Either AnyRests any_still either_alone stops (any_begins stops) tail

pub any_call_leaves : (stops : List ℕ → Bool) (tail : Tail) (s : StoreState) (a : Aim) → StoreStands s a → (images : Images) → CallLeaves stops tail s images
    → Either images a.kept a.stake
    ⊎ ((other : Kept) × (StoreStands (store_called stops tail s) (aim_then stops tail other s a) × Either images (aim_then stops tail other s a).kept (aim_then stops tail other s a).stake))
any_call_leaves stops tail = call_leaves Either AnyRests any_still either_alone stops (any_begins stops) tail
