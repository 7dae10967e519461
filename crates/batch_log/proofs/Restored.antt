-- What whole groups and an end stand for.
use Rattle.std.proofs.Common.{◌≡◌, ◌≢◌, ℕ, zero, suc, ◌+◌, ◌-◌, ◌≤◌, Bool, true, false, cond, eqb, List, [], ◌∷◌, ◌++◌, length, Option, Some, None, refl, sym, ap, ◌∙◌, append_assoc, arith, length-append}
use Rattle.std.proofs.lemmas.Bool.{eqb-true}
use Rattle.std.proofs.lemmas.List.{append-nil}
use Rattle.smart_base.specs.Cuts.{Cut}
use Rattle.store_form.specs.Spelling.{Group, group_text, IsGroup}
use Rattle.store_form.specs.Reading.{all_of, group_at}
use Rattle.store_form.specs.Laws.{group_law}
use Rattle.batch_log.specs.Log.{log_bytes, AreGroups, found, first_group, joined, restored_by, restored}

pub group_again : (g : Group) (rest : List ℕ) → IsGroup g → first_group (1 ∷ (group_text g ++ rest)) ≡ Some (g, rest)
group_again g rest fits =
    let d : Cut = record { at = 0 + length (group_text g); left = rest } in
    ap found (group_law.again (all_of (group_text g ++ rest)) g d fits (record { left = refl; at = refl }))

pub closed : (gate : ℕ) (rest : List ℕ) → gate ≢ 1 → first_group (gate ∷ rest) ≡ None
closed gate rest shut = by (eqb gate 1) refl
  where
    by : (t : Bool) → eqb gate 1 ≡ t → cond t (found (group_at (all_of rest))) None ≡ None
    by true is = absurd (shut (eqb-true gate 1 is))
    by false is = refl

pub ended : (n : ℕ) (rest : List ℕ) → first_group rest ≡ None → restored_by n rest ≡ []
ended zero rest none = refl
ended (suc n) rest none = ap (λ (x : Option (Group × List ℕ)). joined x (restored_by n)) none

pub length-groups : (gs : List Group) → length gs ≤ length (log_bytes gs)
length-groups [] = omega arith
length-groups (g ∷ gs) = omega (arith, length-groups gs, length-append (group_text g) (log_bytes gs))

-- the first groups of bytes that begin with whole groups
pub groups_by : (gs : List Group) (rest : List ℕ) (n m : ℕ) → AreGroups gs → n ≡ length gs + m → restored_by n (log_bytes gs ++ rest) ≡ gs ++ restored_by m rest
groups_by [] rest n m fit is = let same : n ≡ m = omega arith in ap (λ (k : ℕ). restored_by k rest) same
groups_by (g ∷ gs) rest zero m fit is = absurd (omega arith)
groups_by (g ∷ gs) rest (suc n) m fit is =
    let regrouped : log_bytes (g ∷ gs) ++ rest ≡ 1 ∷ (group_text g ++ (log_bytes gs ++ rest)) = ap (λ (l : List ℕ). 1 ∷ l) (append_assoc (group_text g) (log_bytes gs) rest) in
    let first : first_group (log_bytes (g ∷ gs) ++ rest) ≡ Some (g, log_bytes gs ++ rest) = ap first_group regrouped ∙ group_again g (log_bytes gs ++ rest) fit.0 in
    ap (λ (x : Option (Group × List ℕ)). joined x (restored_by n)) first ∙ ap (λ (l : List Group). g ∷ l) (groups_by gs rest n m fit.1 (omega arith))

-- whole groups, and behind them whatever the rest stands for
pub restored_is : (gs : List Group) (rest : List ℕ) → AreGroups gs → first_group rest ≡ None → restored (log_bytes gs ++ rest) ≡ gs
restored_is gs rest fit none =
    let m = length (log_bytes gs ++ rest) - length gs in
    groups_by gs rest (length (log_bytes gs ++ rest)) m fit (omega (arith, length-groups gs, length-append (log_bytes gs) rest))
    ∙ ap (λ (l : List Group). gs ++ l) (ended m rest none) ∙ append-nil gs

pub log_push : (gs : List Group) (g : Group) (rest : List ℕ) → log_bytes (gs ++ g ∷ []) ++ rest ≡ log_bytes gs ++ 1 ∷ (group_text g ++ rest)
log_push [] g rest = ap (λ (l : List ℕ). 1 ∷ l) (append_assoc (group_text g) [] rest)
log_push (h ∷ gs) g rest =
    ap (λ (l : List ℕ). 1 ∷ l) (append_assoc (group_text h) (log_bytes (gs ++ g ∷ [])) rest ∙ ap (λ (l : List ℕ). group_text h ++ l) (log_push gs g rest) ∙ sym (append_assoc (group_text h) (log_bytes gs) (1 ∷ (group_text g ++ rest))))

pub groups_push : (gs : List Group) (g : Group) → AreGroups gs → IsGroup g → AreGroups (gs ++ g ∷ [])
groups_push [] g fit fits = (fits, tt)
groups_push (h ∷ gs) g fit fits = (fit.0, groups_push gs g fit.1 fits)

pub length-push : (gs : List Group) (g : Group) → length (log_bytes (gs ++ g ∷ [])) ≡ length (log_bytes gs) + 1 + length (group_text g)
length-push [] g = omega (arith, length-append (group_text g) [])
length-push (h ∷ gs) g = omega (arith, length-push gs g, length-append (group_text h) (log_bytes (gs ++ g ∷ [])), length-append (group_text h) (log_bytes gs))
