-- The views of all passes of a queue, or of all seats of a word, where one of them changes or a new one comes.
use Rattle.std.proofs.Common.{◌≡◌, ◌≢◌, ◌⊎◌, ℕ, zero, suc, true, false, true≢false, List, [], ◌∷◌, ◌++◌, length, set, refl, sym, ap, subst, inl, inr, ⊎_elim}
use mathlib.Core.Option.{some, some-injective, some-ne-none}
use lib.ListN.{get_elem?}
use Rattle.crossbeam_queue.proofs.Lists.{at_set}

pub off : false ≡ true → ⊥
off e = true≢false (sym e)

module _ {A : Type 0} where
  abbrev pub All : (ℕ → A → Type 0) → List A → Type 0
  All F views = (place : ℕ) (v : A) → get_elem? views place ≡ some v → F place v

  pub all-set : (F : ℕ → A → Type 0) (views : List A) (place : ℕ) (w : A) → F place w → ((j : ℕ) (u : A) → j ≢ place → get_elem? views j ≡ some u → F j u) → All F (set views place w)
  all-set F views place w mine others j u e = ⊎_elim (λ (x : (j ≡ place) × (w ≡ u)). subst (λ (y : ℕ × A). F y.0 y.1) (λ i. (sym x.0 i, x.1 i)) mine)
      (λ (x : (j ≢ place) × (get_elem? views j ≡ some u)). others j u x.0 x.1) (at_set views place j w u e)

  at-snoc : (l : List A) (a b : A) (j : ℕ) → get_elem? (l ++ a ∷ []) j ≡ some b → (get_elem? l j ≡ some b) ⊎ ((j ≡ length l) × (a ≡ b))
  at-snoc [] a b zero e = inr (refl, some-injective a b e)
  at-snoc [] a b (suc j) e = absurd (some-ne-none b (sym e))
  at-snoc (x ∷ xs) a b zero e = inl e
  at-snoc (x ∷ xs) a b (suc j) e = ⊎_elim (λ t. inl t) (λ t. inr (ap suc t.0, t.1)) (at-snoc xs a b j e)

  pub all-snoc : (F : ℕ → A → Type 0) (views : List A) (w : A) → All F views → F (length views) w → All F (views ++ w ∷ [])
  all-snoc F views w old new j u e = ⊎_elim (λ (x : get_elem? views j ≡ some u). old j u x)
      (λ (x : (j ≡ length views) × (w ≡ u)). subst (λ (y : ℕ × A). F y.0 y.1) (λ i. (sym x.0 i, x.1 i)) new) (at-snoc views w u j e)

  -- another view than the one that changed
  pub at-other : (views : List A) (place other : ℕ) (w u : A) → ¬ (other ≡ place) → get_elem? (set views place w) other ≡ some u → get_elem? views other ≡ some u
  at-other views place other w u two e = ⊎_elim (λ x. absurd (two x.0)) (λ x. x.1) (at_set views place other w u e)
