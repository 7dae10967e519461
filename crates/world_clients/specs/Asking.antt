-- What a client sends again, by the signed request that waits.
use Rattle.std.specs.Prelude.{ℕ, List, Option, Some, None}
use Rattle.smart_base.specs.declared.party.Party.{Party}
use Rattle.smart_statements.specs.Forms.{SignedBy}
use Rattle.smart_statements.specs.declared.statement.Request.{Request}
use Rattle.smart_messages.specs.declared.message.Message.TheVariants.{Ask}
use Rattle.client_quorum.specs.declared.client.Client.{Client}
use Rattle.world_rules.specs.Worlds.{World, telling, posts, client_repeats}
use Rattle.world_rules.specs.declared.line.OutLine.TheVariants as outs
use Rattle.world_rules.specs.declared.message.Content.TheVariants as contents
use Rattle.world_rules.specs.declared.message.Origin.TheVariants as origins

-- the world after a client sent a signed request to some parties, or was told idle
abbrev pub repeats_by : {S : Type 0} → World S → ℕ → List Party → Option (SignedBy Request) → World S
repeats_by w id to None = telling w (outs.IdleClient id)
repeats_by w id to (Some q) = posts w (record { origin = origins.Client id; to = to; content = contents.Message (Ask q) })

-- the world after a client that is not rogue sent its waiting request again
abbrev pub repeats_found : {S : Type 0} → World S → Option Client → World S
repeats_found w None = w
repeats_found w (Some c) = client_repeats w c c.waiting
