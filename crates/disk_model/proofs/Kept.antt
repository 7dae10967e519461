-- How a disk in memory goes on by one change.
use Rattle.std.proofs.Common.{◌≡◌, ◌⊎◌, inl, inr, ⊎_elim, ℕ, ◌+◌, ◌≤◌, ◌<◌, List, [], ◌∷◌, ◌++◌, length, refl, sym, ◌∙◌, ap, subst, arith, length-append}
use Rattle.std.proofs.lemmas.List.{take-append-le}
use Rattle.disk_model.specs.declared.platter.Change.{Change}
use Rattle.disk_model.specs.Cells.{Cells, IsImage, settled}
use Rattle.disk_model.specs.Calls.{Elapses}
use Rattle.disk_model.specs.Replay.{replay, change_cells, LeftSince}
use Rattle.disk_model.specs.Laws.{only_now}

pub replay-push : (xs : List Change) (x : Change) (s : Cells) → replay (xs ++ x ∷ []) s ≡ change_cells x (replay xs s)
replay-push [] x s = refl
replay-push (y ∷ xs) x s = replay-push xs x (change_cells y s)

module _ (first : List ℕ) (xs : List Change) (x : Change) (s : Cells) (is : replay (xs ++ x ∷ []) (settled first) ≡ s) where
  long : length (xs ++ x ∷ []) ≡ length xs + 1
  long = omega (arith, length-append xs (x ∷ []))

  keeps : (t : ℕ) (c : List ℕ) → LeftSince first xs t c → LeftSince first (xs ++ x ∷ []) t c
  keeps t c had = record {
    at = had.at;
    since = had.since;
    by_now = omega (arith, had.by_now, long);
    left = subst (λ (l : List Change). IsImage (replay l (settled first)) c) (sym (take-append-le had.at xs (x ∷ []) had.by_now)) had.left;
  }

  earlier : (t : ℕ) (c : List ℕ) → (had : LeftSince first (xs ++ x ∷ []) t c) → had.at ≤ length xs → LeftSince first xs t c
  earlier t c had le = record {
    at = had.at;
    since = had.since;
    by_now = le;
    left = subst (λ (l : List Change). IsImage (replay l (settled first)) c) (take-append-le had.at xs (x ∷ []) le) had.left;
  }

  latest : (t : ℕ) (c : List ℕ) → (had : LeftSince first (xs ++ x ∷ []) t c) → length xs < had.at → IsImage s c
  latest t c had lt =
      only_now first (xs ++ x ∷ []) s c is (record { at = had.at; since = omega (arith, lt, long); by_now = had.by_now; left = had.left })

  pub elapses_push : Elapses (length xs) (length (xs ++ x ∷ [])) (LeftSince first xs) (LeftSince first (xs ++ x ∷ [])) (IsImage s)
  elapses_push = record {
    later = omega (arith, long);
    nothing_else = λ t c le had. ⊎_elim (λ (early : had.at ≤ length xs). inl (earlier t c had early)) (λ (late : length xs < had.at). inr (latest t c had late)) (split had.at);
    keeps = λ t c le had. keeps t c had;
  }
    where
      split : (n : ℕ) → (n ≤ length xs) ⊎ (length xs < n)
      split n = grind arith

pub elapses_to : (first : List ℕ) (xs ys : List Change) (x : Change) (s : Cells) → ys ≡ xs ++ x ∷ [] → replay ys (settled first) ≡ s → Elapses (length xs) (length ys) (LeftSince first xs) (LeftSince first ys) (IsImage s)
elapses_to first xs ys x s same is =
    let is_there : replay (xs ++ x ∷ []) (settled first) ≡ s = subst (λ (l : List Change). replay l (settled first) ≡ s) same is in
    subst (λ (l : List Change). Elapses (length xs) (length l) (LeftSince first xs) (LeftSince first l) (IsImage s)) (sym same) (elapses_push first xs x s is_there)

pub keeps_up : (xs ys : List Change) (x : Change) (s q r : Cells) → ys ≡ xs ++ x ∷ [] → replay xs s ≡ q → r ≡ change_cells x q → replay ys s ≡ r
keeps_up xs ys x s q r same is by = ap (λ (l : List Change). replay l s) same ∙ replay-push xs x s ∙ ap (λ (w : Cells). change_cells x w) is ∙ sym by
