-- What becomes of an arrival before the rules pass.
use Rattle.std.specs.Prelude.{Bool, if◌then◌else◌, Option, Some, None}
use Rattle.smart_messages.specs.declared.message.Message.{Message}
use Rattle.request_pool.specs.declared.pool.Offer.{Offer}
use Rattle.request_pool.specs.declared.pool.Offer.TheVariants as offers
use Rattle.node_rules.specs.Nodes.{Node}
use Rattle.node_rules.specs.Arrivals.{kept}
use Rattle.node_rules.specs.declared.node.Why.{Why}
use Rattle.node_rules.specs.declared.node.Why.TheVariants.{BadTag, Stranger, OldSeq, FarSeq}

-- the reason for which a request is dropped that a pool answers so; an executed request whose reply is kept is not dropped, as the reply is
-- sent again
abbrev pub why_offered : Offer → Bool → Option Why
why_offered offers.Kept gone = None
why_offered offers.Replaced gone = None
why_offered offers.Old gone = if gone then Some OldSeq else None
why_offered offers.Ahead gone = Some FarSeq
why_offered offers.BadTag gone = Some BadTag
why_offered offers.Stranger gone = Some Stranger

-- the node that keeps an arrival, unless the arrival is dropped
abbrev pub kept_unless : {S : Type 0} → Option Why → Node S → Message → Node S
kept_unless None n message = kept n message
kept_unless (Some why) n message = n
