-- The views in which members of a group decide.
use Rattle.std.specs.Prelude.{◌≡◌, ◌≤◌, ◌⊎◌, ◌+◌, ℕ, length, false}
use Rattle.smart_base.specs.Views.{View}
use Rattle.replica_rules.specs.Replicas.{view_at}
use Rattle.world_rules.specs.Premises.{too_many}
use Rattle.world_rules.specs.Worlds.{World}

-- A view in which members decide: the first, that of a place of the list, and the one in force behind the list, unless too many of its members
-- are faulty. A decision that ends the play by that stands last in the list. In the view that it makes nobody decides.
pub record IsInForce {S : Type 0} (w : World S) (v : View) : Type 0 where
  pub place : ℕ
  pub low : 1 ≤ place
  pub within : (place ≤ length w.chosen) ⊎ ((v ≡ w.view) ⊎ ((too_many v w.faulty ≡ false) × (place ≡ length w.chosen + 1)))
  pub is : view_at w.view w.chosen place ≡ v
