-- The play of a script over the service that its header names.
use Rattle.std.specs.Prelude.{ℕ, Bool, false, List, [], ◌∷◌, ◌++◌, length, if◌then◌else◌, Option, Some, None, Result, Ok, Err}
use Rattle.smart_service.specs.Services.{Meaning}
use Rattle.app_count.specs.declared.Count.{Count}
use Rattle.app_count.specs.Counts.{counting}
use Rattle.app_kv.specs.declared.store.Entry.{Entry}
use Rattle.app_kv.specs.Snapshots.{keeping}
use Rattle.world_rules.specs.Worlds.{Course, World, course_of, core_course, begun}
use Rattle.world_rules.specs.Plays.{Play, is_there, line_played, rested}
use Rattle.world_rules.specs.declared.message.Ending.{Ending}
use Rattle.world_rules.specs.declared.message.Ending.TheVariants as endings
use Rattle.world_rules.specs.declared.line.App.{App}
use Rattle.world_rules.specs.declared.line.App.TheVariants as apps
use Rattle.world_rules.specs.declared.line.Header.{Header}
use Rattle.world_rules.specs.declared.line.Line.{Line}
use Rattle.world_rules.specs.declared.line.OutLine.{OutLine}
use Rattle.world_rules.specs.declared.line.Kind.TheVariants as kinds
use Rattle.script_play.specs.declared.app.AppPlay.{AppPlay}
use Rattle.script_play.specs.declared.app.AppPlay.TheVariants as plays
use Rattle.script_play.specs.declared.status.Refusal.{Refusal}
use Rattle.script_play.specs.declared.status.Refusal.TheVariants as refusals

-- the course of the world of each service
pub record Courses : Type 0 where
  pub count : Course Count
  pub kv : Course (List Entry)

-- the courses of whole nodes, as the definitions state them
abbrev pub node_courses : Courses
node_courses = record { count = course_of counting; kv = course_of keeping }

-- the courses of cores, which keep only what they still need
abbrev pub core_courses : Courses
core_courses = record { count = core_course counting; kv = core_course keeping }

-- the play of one service

-- the play at the end of the header
abbrev pub play_begun : {S : Type 0} → Meaning S → Header → Play S
play_begun m g = record { group = g; lines = []; world = begun m g; over = false }

-- the play after one more line
abbrev pub play_after : {S : Type 0} → Course S → Play S → Line → Play S
play_after course p line = record { group = p.group; lines = p.lines ++ line ∷ []; world = rested (line_played course p.world line); over = false }

-- the reason for which a line is refused that ended the world
abbrev pub refusal_of : Ending → Refusal
refusal_of (endings.Premise which) = refusals.Premise which
refusal_of endings.Limit = refusals.Limit

-- what a line told that led to a world, unless it ended the world
abbrev pub answer_until : {S : Type 0} → World S → Option Ending → Result (List OutLine) Refusal
answer_until w None = Ok w.told
answer_until w (Some ending) = Err (refusal_of ending)

abbrev pub answer_in : {S : Type 0} → World S → Result (List OutLine) Refusal
answer_in w = answer_until w w.ending

-- what a line tells, or why it is refused; it is played only if everything that it names is there
abbrev pub play_answer : {S : Type 0} → Course S → Play S → Line → Result (List OutLine) Refusal
play_answer course p line = if is_there p.world line then answer_in (line_played course p.world line) else Err (refusals.Script kinds.Refer)

-- the play of the service that the header names

-- the play at the end of the header
abbrev pub app_begun : App → Header → AppPlay
app_begun apps.Count g = plays.Count (play_begun counting g)
app_begun apps.Kv g = plays.Kv (play_begun keeping g)

-- the play after one more line
abbrev pub app_after : Courses → AppPlay → Line → AppPlay
app_after courses (plays.Count p) line = plays.Count (play_after courses.count p line)
app_after courses (plays.Kv p) line = plays.Kv (play_after courses.kv p line)

-- what a line tells, or why it is refused
abbrev pub app_answer : Courses → AppPlay → Line → Result (List OutLine) Refusal
app_answer courses (plays.Count p) line = play_answer courses.count p line
app_answer courses (plays.Kv p) line = play_answer courses.kv p line

-- a play that is over
abbrev pub is_over : AppPlay → Bool
is_over (plays.Count p) = p.over
is_over (plays.Kv p) = p.over

-- the number of messages that were sent or injected
abbrev pub sent_count : AppPlay → ℕ
sent_count (plays.Count p) = length p.world.sent
sent_count (plays.Kv p) = length p.world.sent
