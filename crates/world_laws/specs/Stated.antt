-- The requests that have been stated in a world.
use Rattle.std.specs.Prelude.{◌⊎◌}
use Rattle.smart_statements.specs.Forms.{SignedBy}
use Rattle.smart_statements.specs.declared.statement.Request.{Request}
use Rattle.vote_book.specs.Books.{Among}
use Rattle.agreement_laws.specs.Statements.{Asked}
use Rattle.world_laws.specs.Promises.{HasAsked, IsRogue}
use Rattle.world_rules.specs.Stated.{stated}
use Rattle.world_rules.specs.Worlds.{World}

-- a world in which each stated request, in whichever message, was sent by its client, unless the client is rogue
pub record StatedAsked {S : Type 0} (w : World S) : Type 0 where
  pub each : (q : SignedBy Request) → Among (Asked q) (stated w.sent) → IsRogue w.rogue q.statement.client ⊎ HasAsked w.sent q.statement
