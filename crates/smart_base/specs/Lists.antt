-- Words on lists that several layers use.
use Rattle.std.specs.Prelude.{◌≡◌, ℕ, ◌==◌, Bool, true, false, ◌&&◌, List, [], ◌∷◌, Option, Some, None}
use Rattle.std.specs.List.{list_any}

-- the first of two that is there
abbrev pub or_else : {A : Type 0} → Option A → Option A → Option A
or_else None other = other
or_else (Some x) other = Some x

-- lists of the same length whose values are alike one by one
abbrev pub same_list : {A : Type 0} → (A → A → Bool) → List A → List A → Bool
same_list alike [] [] = true
same_list alike [] (y ∷ ys) = false
same_list alike (x ∷ xs) [] = false
same_list alike (x ∷ xs) (y ∷ ys) = alike x y && same_list alike xs ys

abbrev pub same_bytes : List ℕ → List ℕ → Bool
same_bytes a b = same_list (λ x y. x == y) a b

-- what holds of each value of a list
abbrev pub Each : {A : Type 0} → (A → Type 0) → List A → Type 0
Each P [] = Unit {0}
Each P (x ∷ xs) = P x × Each P xs

-- numbers none of which is there twice
abbrev pub Distinct : List ℕ → Type 0
Distinct [] = Unit {0}
Distinct (x ∷ xs) = (list_any (λ y. y == x) xs ≡ false) × Distinct xs
