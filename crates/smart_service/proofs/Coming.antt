-- The states that a service comes to are valid.
use Rattle.std.proofs.Common.{◌≡◌, ℕ, List, Some}
use Rattle.smart_base.specs.Cuts.{IsBytes}
use Rattle.smart_service.specs.Services.{Meaning, Comes, comes_first, comes_next, comes_restored}

-- what holds of the first state, is kept by operations and holds of what is restored, holds of each state that comes
pub comes_valid : {S : Type 0} (m : Meaning S) (valid : S → Type 0) → valid m.first → ((s : S) (op : List ℕ) → valid s → valid (m.next s op))
    → ((s : S) (bytes : List ℕ) → IsBytes bytes → m.restore bytes ≡ Some s → valid s) → (s : S) → Comes m s → valid s
comes_valid m valid first next restored s comes_first = first
comes_valid m valid first next restored s (comes_next t op is) = next t op (comes_valid m valid first next restored t is)
comes_valid m valid first next restored s (comes_restored t bytes are is) = restored t bytes are is
