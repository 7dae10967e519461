-- A member's store.
use Rattle.std.specs.Prelude.{Bool}
use Rattle.store_laws.specs.States.{StoreState}

-- the state of a member's store; if its member has crashed, that of a store opened over what the devices hold
pub record MemberState : Type 0 where
  pub runs : Bool
  pub state : StoreState
