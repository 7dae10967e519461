-- What a store stands for while it switches, and what becomes firm.
use Rattle.std.proofs.Common.{◌≡◌, inl, inr, ℕ, ◌+◌, ◌≤◌, Bool, true, false, cond, List, [], ◌∷◌, refl, ◌∙◌, ap, arith}
use Rattle.store_form.specs.Spelling.{Group}
use Rattle.store_form.specs.declared.checkpoint.Checkpoint.{Checkpoint}
use Rattle.store_laws.specs.Restored.{Images, restores, switched}
use Rattle.store_laws.specs.States.{StoreState, greatest, Begun, NoJob, Close, Repair, Switch, AddGroup, due_job, begins, begun, some, advanced, ends, job_called, store_called}
use Rattle.store_laws.specs.Lives.{Either}
use Rattle.store_laws.specs.Stands.{Aim, aim_written, aim_left, aim_called, aim_begins, KeptOrNew, Switching}
use Rattle.store_laws.specs.declared.job.Kept.{Kept}
use Rattle.store_laws.specs.declared.job.Tail.{Tail}
use Rattle.store_laws.specs.declared.job.Ending.{Ending}
use Rattle.store_laws.specs.declared.job.Ending.TheVariants.{Closes, Repairs, Adds, Switches}
use Rattle.store_laws.specs.declared.job.StoreCall.{StoreCall}
use Rattle.store_laws.specs.declared.job.StoreCall.TheVariants.{On, WriteTail}

-- ---- a switch

pub switching_begins : (s : StoreState) (a : Aim) (snapshot : List ℕ) → Switching a.kept (record { generation = s.generation + 1; snapshot = snapshot }) (aim_begins (Switch snapshot) s a)
switching_begins s a snapshot = record { kept_is = refl; next_is = refl; stake_is = inl refl; gated_is = inl refl; then_is = inl refl }

new_is : (next is : Checkpoint) (tail : Group) → is ≡ next → switched is tail ≡ switched next tail
new_is next is tail same = ap (λ (x : Checkpoint). switched x tail) same

written : (kept : Kept) (next : Checkpoint) (a : Aim) (tail : Tail) (call : StoreCall) → Switching kept next a → Switching kept next (aim_written tail call a)
written kept next a tail (On device call) w = w
written kept next a tail WriteTail w = record {
  kept_is = w.kept_is;
  next_is = w.next_is;
  stake_is = w.stake_is;
  gated_is = inr (tail.entries, new_is next a.next tail.entries w.next_is);
  then_is = inr (tail.entries, new_is next a.next tail.entries w.next_is);
}

left_by : (kept : Kept) (next : Checkpoint) (a : Aim) (left : List StoreCall) → Switching kept next a → Switching kept next (aim_left left a)
left_by kept next a [] w = w
left_by kept next a (call ∷ []) w = record { kept_is = w.kept_is; next_is = w.next_is; stake_is = w.gated_is; gated_is = w.gated_is; then_is = w.then_is }
left_by kept next a (call ∷ more ∷ left) w = w

pub switching_goes : (kept : Kept) (next : Checkpoint) (a : Aim) (tail : Tail) (call : StoreCall) (left : List StoreCall) → Switching kept next a → Switching kept next (aim_called tail call left a)
switching_goes kept next a tail call left w = left_by kept next (aim_written tail call a) left (written kept next a tail call w)

pub either_new : (kept : Kept) (next : Checkpoint) (a : Aim) (images : Images) → Switching kept next a → Either images a.kept a.stake → KeptOrNew kept next (restores images)
either_new kept next a images w (inl is) = inl (is ∙ w.kept_is)
either_new kept next a images w (inr is) = by w.stake_is
  where
    by : KeptOrNew kept next a.stake → KeptOrNew kept next (restores images)
    by (inl same) = inl (is ∙ same)
    by (inr new) = inr (new.0, is ∙ new.1)

-- ---- what is firm

ends_firm : (ending : Ending) (s : StoreState) → s.firm ≤ greatest → (s.firm ≤ (ends ending s).firm) × ((ends ending s).firm ≤ greatest)
ends_firm (Closes odd) s few = (omega arith, few)
ends_firm Repairs s few = (omega arith, few)
ends_firm (Adds end) s few = (omega (arith, few), omega (arith, few))
ends_firm (Switches end last) s few = (omega (arith, few), omega (arith, few))

job_firm : (tail : Tail) (calls : List StoreCall) (s : StoreState) → s.firm ≤ greatest → (s.firm ≤ (job_called tail calls s).firm) × ((job_called tail calls s).firm ≤ greatest)
job_firm tail [] s few = (omega arith, few)
job_firm tail (call ∷ []) s few = ends_firm (advanced tail call [] s).ending (advanced tail call [] s) few
job_firm tail (call ∷ more ∷ left) s few = (omega arith, few)

pub begins_firm : (job : Begun) (s : StoreState) → (begins job s).firm ≡ s.firm
begins_firm NoJob s = refl
begins_firm (Close odd) s = refl
begins_firm Repair s = refl
begins_firm (Switch snapshot) s = refl
begins_firm (AddGroup group) s = refl

pub begun_firm : (stops : List ℕ → Bool) (s : StoreState) → (begun stops s).firm ≡ s.firm
begun_firm stops s = by (some s.running)
  where
    by : (t : Bool) → (cond t s (begins (due_job stops s) s)).firm ≡ s.firm
    by true = refl
    by false = begins_firm (due_job stops s) s

pub firm_rises : (stops : List ℕ → Bool) (tail : Tail) (s : StoreState) → s.firm ≤ greatest → (s.firm ≤ (store_called stops tail s).firm) × ((store_called stops tail s).firm ≤ greatest)
firm_rises stops tail s few =
    let same = begun_firm stops s in
    let both = job_firm tail (begun stops s).running (begun stops s) (omega (arith, few, same)) in
    (omega (arith, both.0, same), both.1)
