-- Clients that are counted up.
use Rattle.std.proofs.Common.{◌≡◌, ℕ, ◌+◌, ◌-◌, ◌<◌, ◌≤◌, suc, [], ◌∷◌, refl, arith}
use Rattle.smart_base.specs.Views.{View}
use Rattle.client_quorum.specs.Clients.{fresh}
use Rattle.world_rules.specs.Worlds.{clients_from}

-- the first of those left
pub clients_more : (view : View) (count i : ℕ) → i < count → clients_from view (count - i) i ≡ fresh view i ∷ clients_from view (count - (i + 1)) (i + 1)
unfolding clients_from
clients_more view count i lt = let e : count - i ≡ suc (count - (i + 1)) = omega arith in rw e refl

none : (view : View) (i : ℕ) → clients_from view 0 i ≡ []
unfolding clients_from
none view i = refl

-- none are left at the end
pub clients_done : (view : View) (count i : ℕ) → count ≤ i → clients_from view (count - i) i ≡ []
clients_done view count i le = let e : count - i ≡ 0 = omega arith in rw e (none view i)
