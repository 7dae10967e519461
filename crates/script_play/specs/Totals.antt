-- What a play over a sum comes to, in numbers, and the text of these.
use Rattle.std.specs.Prelude.{ℕ, Bool, true, false, ◌&&◌, List, [], ◌∷◌, ◌++◌, length, codes}
use Rattle.std.specs.List.{count_by}
use Rattle.std.specs.Fmt.{decimal}
use Rattle.smart_messages.specs.declared.message.Message.{Message}
use Rattle.smart_messages.specs.declared.message.Message.TheVariants as messages
use Rattle.replica_rules.specs.Replicas.{state}
use Rattle.app_count.specs.declared.Count.{Count}
use Rattle.app_count.specs.Counts.{counting}
use Rattle.world_rules.specs.declared.message.Origin.{Origin}
use Rattle.world_rules.specs.declared.message.Origin.TheVariants as origins
use Rattle.world_rules.specs.declared.message.Content.{Content}
use Rattle.world_rules.specs.declared.message.Content.TheVariants as contents
use Rattle.world_rules.specs.declared.message.Sent.{Sent}
use Rattle.world_rules.specs.Plays.{Play}
use Rattle.script_play.specs.declared.totals.Totals.{Totals}

-- a client as the origin of a message
abbrev pub is_client : Origin → Bool
is_client (origins.Node id) = false
is_client (origins.Client id) = true
is_client origins.Script = false

-- a request as a message
abbrev pub is_ask : Message → Bool
is_ask (messages.Ask request) = true
is_ask _ = false

-- a request as what a message has
abbrev pub has_ask : Content → Bool
has_ask (contents.Message message) = is_ask message
has_ask (contents.Raw bytes) = false

-- a message in which a client asks
abbrev pub is_asked : Sent → Bool
is_asked s = is_client s.origin && has_ask s.content

-- The totals of a play over a sum. The requests that were asked are the messages in which a client asks. A script that has no line `again`
-- lets a client ask each request once. The sum is that of the service after the whole list.
abbrev pub totals_of : Play Count → Totals
totals_of p = record {
  asks = count_by is_asked p.world.sent;
  accepted = length p.world.accepted;
  places = length p.world.chosen;
  sum = (state counting p.group.view p.world.chosen).service.sum;
  messages = length p.world.sent;
}

-- a line of a name and a number
abbrev pub total_line : List ℕ → ℕ → List ℕ
total_line name number = name ++ (32 ∷ (decimal number ++ (10 ∷ [])))

-- the summary of a load of n asks: six lines
abbrev pub summary_text : ℕ → Totals → List ℕ
summary_text n t =
    ((((total_line (codes "load") n ++ total_line (codes "asks") t.asks) ++ total_line (codes "accepted") t.accepted)
    ++ total_line (codes "places") t.places) ++ total_line (codes "sum") t.sum) ++ total_line (codes "messages") t.messages
