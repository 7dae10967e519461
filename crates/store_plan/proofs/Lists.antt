-- Lists of entries, and of calls.
use Rattle.std.proofs.Common.{◌≡◌, ℕ, ◌+◌, ◌-◌, ◌≤◌, ◌<◌, Bool, true, false, cond, List, [], ◌∷◌, ◌++◌, length, take, drop, get_or, sym, ◌∙◌, ap, length-drop}
use Rattle.std.proofs.lemmas.List.{take_at, drop_all, drop_more, take_more, append_assoc, append-nil}
use Rattle.store_laws.specs.States.{group_of}
use Rattle.store_laws.specs.declared.job.Ending.{Ending}
use Rattle.store_laws.specs.declared.job.StoreCall.{StoreCall}
use Rattle.store_laws.specs.declared.job.StoreCall.TheVariants.{On, WriteTail}
use Rattle.store_plan.specs.Fit.{CanEnd}

pub forgets_some : (xs : List (List ℕ)) (count : ℕ) → count < length xs → take (length xs - count) (drop count xs ++ take count xs) ≡ drop count xs
forgets_some xs count few = take_at (drop count xs) (take count xs) (length xs - count) (length-drop count xs)

pub forgets_all : (xs : List (List ℕ)) (count : ℕ) → length xs ≤ count → drop count xs ≡ []
forgets_all xs count all = drop_all count xs all

-- ---- a group, entry by entry

pub group_goes : (stops : List ℕ → Bool) (xs : List (List ℕ)) (i : ℕ) (d : List ℕ) → i < length xs → stops (get_or xs i d) ≡ false
    → take i xs ++ group_of stops (drop i xs) ≡ take (i + 1) xs ++ group_of stops (drop (i + 1) xs)
group_goes stops xs i d few goes =
    ap (λ (rest : List (List ℕ)). take i xs ++ group_of stops rest) (drop_more xs i d few)
    ∙ ap (λ (t : Bool). take i xs ++ cond t [] (get_or xs i d ∷ group_of stops (drop (i + 1) xs))) goes
    ∙ sym (append_assoc (take i xs) (get_or xs i d ∷ []) (group_of stops (drop (i + 1) xs)))
    ∙ ap (λ (front : List (List ℕ)). front ++ group_of stops (drop (i + 1) xs)) (sym (take_more xs i d few))

pub group_ends : (stops : List ℕ → Bool) (xs : List (List ℕ)) (i : ℕ) (d : List ℕ) → i < length xs → stops (get_or xs i d) ≡ true → take i xs ++ group_of stops (drop i xs) ≡ take i xs
group_ends stops xs i d few is =
    ap (λ (rest : List (List ℕ)). take i xs ++ group_of stops rest) (drop_more xs i d few)
    ∙ ap (λ (t : Bool). take i xs ++ cond t [] (get_or xs i d ∷ group_of stops (drop (i + 1) xs))) is
    ∙ append-nil (take i xs)

pub group_all : (stops : List ℕ → Bool) (xs : List (List ℕ)) (i : ℕ) → length xs ≤ i → take i xs ++ group_of stops (drop i xs) ≡ take i xs
group_all stops xs i all = ap (λ (rest : List (List ℕ)). take i xs ++ group_of stops rest) (drop_all i xs all) ∙ append-nil (take i xs)

-- ---- calls

-- what is left of a job that can be ended
pub can_end_then : (calls : List StoreCall) (ending : Ending) (generation : ℕ) → CanEnd calls ending generation → CanEnd (drop 1 calls) ending generation
can_end_then [] ending generation can = can
can_end_then (call ∷ []) ending generation can = tt
can_end_then (On device c ∷ more ∷ left) ending generation can = (can.0, can.1)
can_end_then (WriteTail ∷ more ∷ left) ending generation can = (can.0, can.1.1)
