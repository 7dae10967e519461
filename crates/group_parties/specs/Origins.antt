-- With what the store of a member was opened.
use Rattle.store_laws.specs.Restored.{Images}
use Rattle.store_laws.specs.declared.job.Kept.{Kept}

-- the bytes of its devices, and what it restored of them
pub record Origin : Type 0 where
  pub images : Images
  pub kept : Kept
