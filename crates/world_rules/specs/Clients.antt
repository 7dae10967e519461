-- What a client of a script's group makes of members' words.
use Rattle.std.specs.Prelude.{Option}
use Rattle.smart_statements.specs.Forms.{SignedBy}
use Rattle.smart_statements.specs.declared.statement.Answer.{Answer}
use Rattle.smart_messages.specs.declared.regency.ViewInfo.{ViewInfo}
use Rattle.client_quorum.specs.Clients as clients
use Rattle.client_quorum.specs.Readings as readings
use Rattle.client_quorum.specs.ViewWords as infos
use Rattle.client_quorum.specs.declared.client.Word.{Word}
use Rattle.client_quorum.specs.declared.client.Client.{Client}
use Rattle.client_quorum.specs.declared.client.Ignored.{Ignored}
use Rattle.client_quorum.specs.declared.client.Heard.{Heard}
use Rattle.world_rules.specs.Secrets.{group_secret}

-- the first reason for which a client ignores a reply, with the group's secret
abbrev pub why_ignored : Client → SignedBy Answer → Option Ignored
why_ignored c a = clients.why_ignored group_secret c a

-- what a client makes of a reply, with the group's secret
abbrev pub heard : Client → SignedBy Answer → Heard
heard c a = clients.heard group_secret c a

-- what a client makes of a statement of a view, with the group's secret
abbrev pub told : Client → SignedBy ViewInfo → Heard
told c i = infos.told group_secret c i

-- what a client makes of a member's word, with the group's secret
abbrev pub heard_word : Client → Word → Heard
heard_word c word = readings.heard_word group_secret c word
