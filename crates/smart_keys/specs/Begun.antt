-- Keyed digests that are begun.
use Rattle.std.specs.Prelude.{ℕ, List}
use Rattle.sha2.specs.Hashers.{Holds256}
use Rattle.sha2.specs.declared.Sha256.{Sha256}
use Rattle.smart_keys.specs.Keys.{block_of, masked}

-- The states of SHA-256 with which a key's digests begin: after the inner and after the outer block of the key.
pub record IsBegun (key : List ℕ) (inner outer : Sha256) : Type 0 where
  pub inside : Holds256 inner (masked 0x36 (block_of key))
  pub outside : Holds256 outer (masked 0x5c (block_of key))
