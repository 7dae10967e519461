-- Which branch of a reading was taken.
use Rattle.std.proofs.Common.{◌≡◌, ℕ, Bool, true, false, cond, eqb, Result, Ok}
use Rattle.std.proofs.lemmas.Bool.{eqb-true}

-- which branch a test took
pub picked : {A P : Type 0} (t : Bool) (k n : ℕ) (x r : Result A ℕ) (y : A) → eqb k n ≡ t → cond t x r ≡ Ok y
    → (k ≡ n → x ≡ Ok y → P) → (eqb k n ≡ false → r ≡ Ok y → P) → P
picked true k n x r y h e f g = f (eqb-true k n h) e
picked false k n x r y h e f g = g h e
