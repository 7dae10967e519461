-- What was read as a group is spelled so.
use Rattle.std.proofs.Common.{◌≡◌, ◌≢◌, ℕ, ◌-◌, ◌<◌, ◌==◌, Bool, true, false, cond, List, [], ◌∷◌, ◌++◌, length, get_or, drop, None, Ok, Err, refl, sym, ◌∙◌, ap, arith, length-append}
use Rattle.std.proofs.lemmas.Bool.{eqb-true}
use Rattle.std.proofs.lemmas.List.{get_or-append-add}
use Rattle.smart_base.specs.Cuts.{Cut, IsBytes}
use Rattle.disk_model.specs.Cells.{Cells, settled}
use Rattle.store_form.specs.Spelling.{Group, group_text, IsGroup}
use Rattle.store_form.specs.Reading.{all_of, group_at}
use Rattle.store_form.specs.Laws.{group_law}
use Rattle.batch_log.specs.Log.{log_bytes, AreGroups, found, first_group, restored}
use Rattle.batch_log.specs.Jobs.{ToClose, Clean}
use Rattle.batch_log.specs.Exact.{end_opened, job_opened}
use Rattle.batch_log.specs.declared.job.Job.TheVariants.{Rest, Torn}
use Rattle.batch_log.proofs.Restored.{log_push, groups_push, restored_is}

pub takes_group : (inner : List ℕ) (g : Group) (d : Cut) → IsBytes inner → group_at (all_of inner) ≡ Ok (g, d) → (1 ∷ inner ≡ 1 ∷ (group_text g ++ d.left)) × IsGroup g
takes_group inner g d bytes read =
    let t = group_law.takes (all_of inner) (g, d) bytes read in
    (ap (λ (l : List ℕ). 1 ∷ l) t.1.left, t.0)

pub front_one : (bytes : List ℕ) → 0 < length bytes → get_or bytes 0 0 ≡ 1 → bytes ≡ 1 ∷ drop 1 bytes
front_one [] long one = absurd (omega arith)
front_one (b ∷ bytes) long one = ap (λ (x : ℕ). x ∷ bytes) one

-- one group more, as the loop pushes it
pub pushed : (groups : List Group) (g : Group) (bytes rest after : List ℕ) → bytes ≡ log_bytes groups ++ rest → AreGroups groups → rest ≡ 1 ∷ (group_text g ++ after) → IsGroup g
    → (bytes ≡ log_bytes (groups ++ g ∷ []) ++ after) × AreGroups (groups ++ g ∷ [])
pushed groups g bytes rest after so_far fit read fits =
    (so_far ∙ ap (λ (l : List ℕ). log_bytes groups ++ l) read ∙ sym (log_push groups g after), groups_push groups g fit fits)

-- ---- a log that is opened again

module _ (cells seen : Cells) (bytes rest : List ℕ) (gs : List Group) (same : seen ≡ cells) (sure : cells ≡ settled cells.now) (read : bytes ≡ cells.now) (parts : bytes ≡ log_bytes gs ++ rest) (fit : AreGroups gs) (nothing : first_group rest ≡ None) where
  pub reads_groups : gs ≡ restored cells.now
  reads_groups = sym (ap restored (sym read ∙ parts) ∙ restored_is gs rest fit nothing)

  are : seen ≡ settled (log_bytes gs ++ rest)
  are = same ∙ sure ∙ ap settled (sym read ∙ parts)

  end_is : (n : ℕ) → n ≡ length bytes - length rest → n ≡ length (log_bytes gs)
  end_is n is = omega (arith, is, ap length parts, length-append (log_bytes gs) rest)

  pub reads_torn : (n : ℕ) → n ≡ length bytes - length rest → get_or rest 0 1 ≢ 0 → (other : List Group) × ToClose seen n gs other
  reads_torn n is torn = (
    restored (log_bytes gs ++ 1 ∷ drop 1 rest),
    record { rest = rest; are = are; torn = record { ends = end_is n is; fit = fit; torn = torn; nothing = nothing; is = refl } },
  )

  pub reads_clean : (n : ℕ) → n ≡ length bytes - length rest → 0 < length rest → get_or rest 0 0 ≡ 0 → (other : List Group) × (Clean seen n gs × (other ≡ gs))
  reads_clean n is some zero_first = (gs, (record { tail = drop 1 rest; are = are ∙ ap (λ (l : List ℕ). settled (log_bytes gs ++ l)) (front_zero rest some zero_first); ends = end_is n is; fit = fit }, refl))
    where
      front_zero : (l : List ℕ) → 0 < length l → get_or l 0 0 ≡ 0 → l ≡ 0 ∷ drop 1 l
      front_zero [] long first = absurd (omega arith)
      front_zero (b ∷ l) long first = ap (λ (x : ℕ). x ∷ l) first

  -- ---- where its groups end, and whether the gate there is closed

  pub reads_end : (n : ℕ) → n ≡ length bytes - length rest → n ≡ end_opened cells.now
  reads_end n is = end_is n is ∙ ap (λ (l : List Group). length (log_bytes l)) reads_groups

  gate_is : get_or cells.now (end_opened cells.now) 1 ≡ get_or rest 0 1
  gate_is =
      ap (λ (n : ℕ). get_or cells.now n 1) (ap (λ (l : List Group). length (log_bytes l)) (sym reads_groups))
      ∙ ap (λ (l : List ℕ). get_or l (length (log_bytes gs)) 1) (sym read ∙ parts) ∙ ap (λ (n : ℕ). get_or (log_bytes gs ++ rest) n 1) (omega arith) ∙ get_or-append-add (log_bytes gs) rest 0 1

  job_is : (x : ℕ) → get_or rest 0 1 ≡ x → job_opened cells.now ≡ cond (x == 0) Rest Torn
  job_is x is = ap (λ (b : ℕ). cond (b == 0) Rest Torn) (gate_is ∙ is)

  pub reads_torn_job : get_or rest 0 1 ≢ 0 → Torn ≡ job_opened cells.now
  reads_torn_job torn = sym (job_is (get_or rest 0 1) refl ∙ by (get_or rest 0 1 == 0) refl)
    where
      by : (t : Bool) → (get_or rest 0 1 == 0) ≡ t → cond t Rest Torn ≡ Torn
      by true is = absurd (torn (eqb-true (get_or rest 0 1) 0 is))
      by false is = refl

  pub reads_clean_job : 0 < length rest → get_or rest 0 0 ≡ 0 → Rest ≡ job_opened cells.now
  reads_clean_job some zero_first = sym (job_is 0 (first_zero rest some zero_first))
    where
      first_zero : (l : List ℕ) → 0 < length l → get_or l 0 0 ≡ 0 → get_or l 0 1 ≡ 0
      first_zero [] long first = absurd (omega arith)
      first_zero (b ∷ l) long first = first

-- a gate that is not closed
pub no_gate : (rest : List ℕ) → length rest ≡ 0 → get_or rest 0 1 ≢ 0
no_gate [] is = λ (e : 1 ≡ 0). omega arith
no_gate (b ∷ rest) is = absurd (omega arith)

pub open_gate : (rest : List ℕ) → get_or rest 0 0 ≢ 0 → get_or rest 0 1 ≢ 0
open_gate [] torn = λ (e : 1 ≡ 0). omega arith
open_gate (b ∷ rest) torn = torn
