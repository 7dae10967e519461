-- The view in force is the last.
use Rattle.std.proofs.Common.{◌≡◌, ℕ, ◌+◌, List, [], ◌∷◌, length, get_or, zero, suc, refl, arith}
use Rattle.smart_base.specs.Views.{present, View}

pub present-last : (views : List View) (i : ℕ) (d : View) → i + 1 ≡ length views → get_or views i d ≡ present views
present-last [] i d last = absurd (omega arith)
present-last (v ∷ []) zero d last = refl
present-last (v ∷ []) (suc i) d last = absurd (omega arith)
present-last (v ∷ w ∷ views) zero d last = absurd (omega arith)
present-last (v ∷ w ∷ views) (suc i) d last = present-last (w ∷ views) i d (omega arith)
