-- The text of transcript lines.
use Rattle.std.specs.Prelude.{ℕ, List, [], ◌∷◌, ◌++◌, codes, nat_lt, nat_le, ◌&&◌, ◌==◌, not, ◌+◌, ◌/◌, ◌%◌, length, if◌then◌else◌}
use Rattle.std.specs.List.{flat_map}
use Rattle.std.specs.Fmt.{decimal}
use Rattle.message_words.specs.Words.{after_space, bound_text, summary_text}
use Rattle.node_rules.specs.declared.node.Why.{Why}
use Rattle.node_rules.specs.declared.node.Why.TheVariants as whys
use Rattle.client_quorum.specs.declared.client.Ignored.{Ignored}
use Rattle.client_quorum.specs.declared.client.Ignored.TheVariants as reasons
use Rattle.world_rules.specs.declared.message.Origin.{Origin}
use Rattle.world_rules.specs.declared.message.Origin.TheVariants as origins
use Rattle.world_rules.specs.declared.line.App.{App}
use Rattle.world_rules.specs.declared.line.App.TheVariants as apps
use Rattle.world_rules.specs.declared.line.Header.{Header}
use Rattle.world_rules.specs.declared.line.OutLine.{OutLine}
use Rattle.world_rules.specs.declared.line.OutLine.TheVariants as outs

abbrev pub why_text : Why → List ℕ
why_text whys.Unread = codes "Unread"
why_text whys.NotMember = codes "NotMember"
why_text whys.BadTag = codes "BadTag"
why_text whys.Stranger = codes "Stranger"
why_text whys.OldView = codes "OldView"
why_text whys.NewView = codes "NewView"
why_text whys.OldPlace = codes "OldPlace"
why_text whys.FarPlace = codes "FarPlace"
why_text whys.OldRegency = codes "OldRegency"
why_text whys.NewRegency = codes "NewRegency"
why_text whys.OldSeq = codes "OldSeq"
why_text whys.FarSeq = codes "FarSeq"
why_text whys.NotLeader = codes "NotLeader"
why_text whys.InvalidBatch = codes "InvalidBatch"
why_text whys.BadProof = codes "BadProof"
why_text whys.Unbound = codes "Unbound"
why_text whys.Unasked = codes "Unasked"
why_text whys.Repeated = codes "Repeated"

abbrev pub ignored_text : Ignored → List ℕ
ignored_text reasons.Unread = codes "Unread"
ignored_text reasons.BadTag = codes "BadTag"
ignored_text reasons.Settled = codes "Settled"
ignored_text reasons.UnknownView = codes "UnknownView"
ignored_text reasons.OldView = codes "OldView"
ignored_text reasons.Stranger = codes "Stranger"
ignored_text reasons.Repeated = codes "Repeated"

abbrev pub origin_text : Origin → List ℕ
origin_text (origins.Node id) = 110 ∷ decimal id
origin_text (origins.Client id) = 99 ∷ decimal id
origin_text origins.Script = codes "x"

abbrev pub app_text : App → List ℕ
app_text apps.Count = codes "count"
app_text apps.Kv = codes "kv"

abbrev pub hex_digit : ℕ → ℕ
hex_digit n = if nat_lt n 10 then 48 + n else 87 + n

-- the text of a reply's byte: itself if it prints and is no backslash, else \x and two digits
abbrev pub shown : ℕ → List ℕ
shown b = if nat_le 32 b && nat_le b 126 && not (b == 92) then b ∷ [] else 92 ∷ 120 ∷ hex_digit (b / 16) ∷ hex_digit (b % 16) ∷ []

abbrev pub words_of : OutLine → List ℕ
words_of (outs.Group n f app period) = codes "group" ++ (after_space n ++ (after_space f ++ (32 ∷ app_text app ++ after_space period)))
words_of (outs.Sent number origin summary) = codes "sent" ++ (after_space number ++ (32 ∷ origin_text origin ++ (32 ∷ summary_text summary)))
words_of (outs.Decided id k) = codes "decided n" ++ (decimal id ++ after_space k)
words_of (outs.Installed id k) = codes "installed n" ++ (decimal id ++ after_space k)
words_of (outs.Delivered id k count) = codes "delivered n" ++ (decimal id ++ (after_space k ++ after_space count))
words_of (outs.View id v) = codes "view n" ++ (decimal id ++ after_space v)
words_of (outs.Promised id v r) = codes "promised n" ++ (decimal id ++ (after_space v ++ after_space r))
words_of (outs.Synced id v r base bound) = codes "synced n" ++ (decimal id ++ (after_space v ++ (after_space r ++ (after_space base ++ bound_text bound))))
words_of (outs.Dropped id why) = codes "dropped n" ++ (decimal id ++ (32 ∷ why_text why))
words_of (outs.Counted id have need) = codes "counted c" ++ (decimal id ++ (after_space have ++ after_space need))
words_of (outs.Accepted id s k i text) = codes "accepted c" ++ (decimal id ++ (after_space s ++ (after_space k ++ (after_space i ++ (32 ∷ flat_map shown text)))))
words_of (outs.Viewed id have need) = codes "viewed c" ++ (decimal id ++ (after_space have ++ after_space need))
words_of (outs.Moved id v) = codes "moved c" ++ (decimal id ++ after_space v)
words_of (outs.Ignored id why) = codes "ignored c" ++ (decimal id ++ (32 ∷ ignored_text why))
words_of (outs.Busy id s) = codes "busy c" ++ (decimal id ++ after_space s)
words_of (outs.Absent id) = codes "absent n" ++ decimal id
words_of (outs.Crashed id) = codes "crashed n" ++ decimal id
words_of (outs.Restarted id k entries) = codes "restarted n" ++ (decimal id ++ (after_space k ++ after_space entries))
words_of (outs.Down id) = codes "down n" ++ decimal id
words_of (outs.Idle id) = codes "idle n" ++ decimal id
words_of (outs.IdleClient id) = codes "idle c" ++ decimal id
words_of (outs.Learned id k) = codes "told c" ++ (decimal id ++ after_space k)
words_of (outs.Stands id k v r) = codes "place n" ++ (decimal id ++ (after_space k ++ (after_space v ++ after_space r)))
words_of (outs.Seen id k) = codes "seen c" ++ (decimal id ++ after_space k)
words_of (outs.End lines messages) = codes "end" ++ (after_space lines ++ after_space messages)

-- the text of a line, which ends with a line feed
abbrev pub line_text : OutLine → List ℕ
line_text line = words_of line ++ 10 ∷ []

-- the text of lines
abbrev pub text_of : List OutLine → List ℕ
text_of lines = flat_map line_text lines

-- the line that tells the header of a script
abbrev pub header_line : Header → App → OutLine
header_line g app = outs.Group (length g.view.members) g.view.f app g.period
