-- The play of a script's lines.
use Rattle.std.specs.Prelude.{ℕ, ◌≡◌, nat_le, Bool, true, false, not, ◌&&◌, List, [], ◌∷◌, ◌++◌, length, None, is_some}
use Rattle.std.specs.List.{list_all}
use Rattle.smart_service.specs.Services.{Meaning}
use Rattle.smart_base.specs.declared.party.Party.{Party}
use Rattle.smart_base.specs.declared.party.Party.TheVariants as parties
use Rattle.world_rules.specs.Worlds.{World, Course, asks, repeats, tells, calls_disk, crashes, crash_all, restart_member, restart_all, settle, settle_all, flows, host_index, at_member, give_number, deliver_each, tick_each, shows, adds_node, declares_faulty, declares_rogue, injects, begun}
use Rattle.world_rules.specs.Repeats.{repeated}
use Rattle.world_rules.specs.Injections.{injected_bytes}
use Rattle.world_rules.specs.declared.line.Header.{Header}
use Rattle.world_rules.specs.declared.line.Line.{Line}
use Rattle.world_rules.specs.declared.line.Line.TheVariants as lines
use Rattle.world_rules.specs.declared.line.OutLine.{OutLine}

-- a member that has a host
abbrev pub has_member : {S : Type 0} → World S → ℕ → Bool
has_member w member = is_some (host_index w.hosts member)

-- a party that is there: a member with a host, or a client
abbrev pub has_party : {S : Type 0} → World S → Party → Bool
has_party w (parties.Member id) = has_member w id
has_party w (parties.Client id) = true

-- a line of which everything that it names is there, and a new node's member has none yet
unfoldable pub is_there : {S : Type 0} → World S → Line → Bool
is_there w lines.Nothing = true
is_there w (lines.Ask client op) = true
is_there w (lines.Change op) = true
is_there w (lines.Again client) = true
is_there w (lines.Tell from to) = true
is_there w (lines.Flow members) = list_all (has_member w) members
is_there w (lines.Give number to) = nat_le 1 number && nat_le number (length w.sent) && list_all (has_party w) to
is_there w (lines.Deliver members) = list_all (has_member w) members
is_there w (lines.Tick members) = list_all (has_member w) members
is_there w (lines.Settle member) = has_member w member
is_there w (lines.Disk member count) = has_member w member
is_there w (lines.Crash member image patches) = has_member w member
is_there w (lines.CrashAll image) = true
is_there w (lines.Restart member) = has_member w member
is_there w lines.RestartAll = true
is_there w lines.SettleAll = true
is_there w lines.Show = true
is_there w (lines.Node member) = not (has_member w member)
is_there w (lines.Faulty member) = has_member w member
is_there w (lines.Rogue client) = true
is_there w (lines.Inject form) = is_some (injected_bytes w.sent form)

-- the world after a line, with the transcript of that line
unfoldable pub line_played : {S : Type 0} → Course S → World S → Line → World S
line_played course w lines.Nothing = w
line_played course w (lines.Ask client op) = asks client op w
line_played course w (lines.Change op) = asks 0 op w
line_played course w (lines.Again client) = repeats client w
line_played course w (lines.Tell from to) = tells from to w
line_played course w (lines.Flow members) = flows course members w
line_played course w (lines.Give number to) = give_number course number to w
line_played course w (lines.Deliver members) = deliver_each course members w
line_played course w (lines.Tick members) = tick_each course members w
line_played course w (lines.Settle member) = at_member (settle course) member w
line_played course w (lines.Disk member count) = at_member (λ i v. repeated (calls_disk course i) count v) member w
line_played course w (lines.Crash member image patches) = at_member (crashes course image patches) member w
line_played course w (lines.CrashAll image) = crash_all course image w
line_played course w (lines.Restart member) = restart_member course member w
line_played course w lines.RestartAll = restart_all course w
line_played course w lines.SettleAll = settle_all course [] w
line_played course w lines.Show = shows w
line_played course w (lines.Node member) = adds_node course member w
line_played course w (lines.Faulty member) = declares_faulty member w
line_played course w (lines.Rogue client) = declares_rogue client w
line_played course w (lines.Inject form) = injects form w

-- the world between two lines: its transcript is empty
abbrev pub rested : {S : Type 0} → World S → World S
rested w = record w { told = [] }

-- the world after lines
abbrev pub world_after : {S : Type 0} → Course S → World S → List Line → World S
world_after course w [] = w
world_after course w (l ∷ ls) = world_after course (rested (line_played course w l)) ls

-- the transcript of lines, in order
abbrev pub lines_told : {S : Type 0} → Course S → World S → List Line → List OutLine
lines_told course w [] = []
lines_told course w (l ∷ ls) = (line_played course w l).told ++ lines_told course (rested (line_played course w l)) ls

-- a play: what the header states of its group, the lines that were played, the world after them, and whether the play is over
pub record Play (S : Type 0) : Type 0 where
  pub group : Header
  pub lines : List Line
  pub world : World S
  pub over : Bool

-- a play that stands for its lines until it is over: its world is the one after them, and nothing has ended it
pub record IsPlay {S : Type 0} (course : Course S) (m : Meaning S) (p : Play S) : Type 0 where
  pub stands : p.over ≡ false → p.world ≡ world_after course (begun m p.group) p.lines
  pub going : p.over ≡ false → p.world.ending ≡ None
