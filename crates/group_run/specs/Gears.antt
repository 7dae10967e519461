-- Places for a group that is to run.
use Rattle.std.specs.Prelude.{◌≡◌, ◌≤◌, ℕ, [], vec_capacity}
use Rattle.group_run.specs.declared.run.Gear.{Gear}

module _ {D O : Type 0} where
  -- no place is taken
  pub record IsEmptyGear (g : Gear D O) : Type 0 where
    pub stations : g.made.stations.items ≡ []
    pub heads : g.made.heads.items ≡ []
    pub left : g.left.items ≡ []

  -- there are places for so many members
  pub record HasRoom (members : ℕ) (g : Gear D O) : Type 0 where
    pub stations : members ≤ vec_capacity g.made.stations
    pub heads : members ≤ vec_capacity g.made.heads
    pub left : members ≤ vec_capacity g.left
