-- The keys with which a member signs and checks.
use Rattle.std.specs.Prelude.{ℕ, List}

-- a member, and the secret of its group
pub record Keyring : Type 0 where
  pub member : ℕ
  pub secret : List ℕ
