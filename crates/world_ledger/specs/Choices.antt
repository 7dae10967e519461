-- What is chosen in a play.
use Rattle.std.specs.Prelude.{List}
use Rattle.smart_base.specs.Views.{View}
use Rattle.smart_statements.specs.Batches.{Batch}

-- the view that a group begins with, and the chosen list of batches
pub record Choices : Type 0 where
  pub first : View
  pub list : List Batch
