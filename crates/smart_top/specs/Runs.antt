-- What a run of `world` has read and written, by its status.
use Rattle.std.specs.Prelude.{◌∷◌, ℕ, ◌≡◌, List, [], ◌++◌, Option, Some, None, take, ◌⊎◌}
use Rattle.std.specs.Io.KnownBytes.{Appends, Consumes, IsAtEnd}
use Rattle.faults.specs.Counts.{Rose}
use Rattle.smart_service.specs.Services.{Meaning}
use Rattle.app_count.specs.Counts.{counting}
use Rattle.app_kv.specs.Snapshots.{keeping}
use Rattle.world_rules.specs.Worlds.{course_of, begun}
use Rattle.world_rules.specs.Plays.{Play, world_after, lines_told}
use Rattle.world_laws.specs.Promises.{OneListThroughout}
use Rattle.world_rules.specs.Texts.{header_line, text_of}
use Rattle.world_rules.specs.declared.line.App.{App}
use Rattle.world_rules.specs.declared.line.App.TheVariants as apps
use Rattle.world_rules.specs.declared.line.OutLine.{OutLine}
use Rattle.script_play.specs.Apps.{node_courses}
use Rattle.script_play.specs.Readings.{unread, whole_lines, script_lines, reading_after, told_after, script_read, end_of, transcript}
use Rattle.script_play.specs.declared.app.AppPlay.{AppPlay}
use Rattle.script_play.specs.declared.app.AppPlay.TheVariants as plays
use Rattle.script_play.specs.declared.status.Status.{Status}
use Rattle.script_play.specs.declared.status.Status.TheVariants as ends

-- an input that is what its source had left, if the source tells it
abbrev pub IsLeft : Option (List ℕ) → List ℕ → Type 0
IsLeft None input = Unit {0}
IsLeft (Some left) input = left ≡ input

-- a play whose world is the one after its lines, and in which one list holds after each line
pub record OneListOf {S : Type 0} (m : Meaning S) (p : Play S) : Type 0 where
  pub stands : p.world ≡ world_after (course_of m) (begun m p.group) p.lines
  pub throughout : OneListThroughout m p.group p.lines

-- a play of either service in which one list holds
abbrev pub OneListIn : AppPlay → Type 0
OneListIn (plays.Count p) = OneListOf counting p
OneListIn (plays.Kv p) = OneListOf keeping p

-- one list holds in what was played, if the header was whole
abbrev pub OneListHolds : Option AppPlay → Type 0
OneListHolds None = Unit {0}
OneListHolds (Some p) = OneListIn p

-- what a play of a service tells: the header's line, then what the played lines tell
abbrev pub play_told : {S : Type 0} → App → Meaning S → Play S → List OutLine
play_told app m p = header_line p.group app ∷ lines_told (course_of m) (begun m p.group) p.lines

-- what a play tells, by its service
abbrev pub app_told : AppPlay → List OutLine
app_told (plays.Count p) = play_told apps.Count counting p
app_told (plays.Kv p) = play_told apps.Kv keeping p

-- what was played tells, if the header was whole
abbrev pub all_told : Option AppPlay → List OutLine
all_told None = []
all_told (Some p) = app_told p

-- script lines that tell what their play tells, and in whose play one list holds
pub record ArePlayed (lines : List (List ℕ)) : Type 0 where
  pub tell : told_after node_courses unread lines ≡ all_told (reading_after node_courses unread lines).play
  pub one_list : OneListHolds (reading_after node_courses unread lines).play

-- a run that its input ended: its status is that of the input, and it has written the input's transcript
pub record Ends (left written written' : Option (List ℕ)) (status : Status) : Type 0 where
  pub input : List ℕ
  pub is_left : IsLeft left input
  pub status_is : status ≡ end_of (script_read node_courses input)
  pub text : Appends written written' (text_of (transcript node_courses input))
  pub played : ArePlayed (script_lines input)

-- a run that has written the transcript of the whole lines that it read, none of which was refused
pub record WroteAllRead (left left' written written' : Option (List ℕ)) : Type 0 where
  pub read : List ℕ
  pub consumed : Consumes left left' read
  pub going : (reading_after node_courses unread (whole_lines [] read)).refused ≡ None
  pub text : Appends written written' (text_of (told_after node_courses unread (whole_lines [] read)))
  pub played : ArePlayed (whole_lines [] read)

-- a run that has written the transcript of the first lines of its input
pub record WroteLines (left written written' : Option (List ℕ)) : Type 0 where
  pub input : List ℕ
  pub is_left : IsLeft left input
  pub front : List (List ℕ)
  pub rest : List (List ℕ)
  pub split : script_lines input ≡ front ++ rest
  pub text : Appends written written' (text_of (told_after node_courses unread front))
  pub played : ArePlayed front

-- a run that has written a prefix of its input's transcript
pub record WroteFront (left written written' : Option (List ℕ)) : Type 0 where
  pub input : List ℕ
  pub is_left : IsLeft left input
  pub count : ℕ
  pub text : Appends written written' (take count (text_of (transcript node_courses input)))
  pub played : ArePlayed (script_lines input)

-- What a run has read and written, by its status. After want of memory it has written whole lines, unless the sink wanted memory.
abbrev pub RunEnd : Option (List ℕ) → Option (List ℕ) → Option (List ℕ) → Option (List ℕ) → ℕ → ℕ → Status → Type 0
RunEnd left left' written written' wants wants' ends.Ok = Ends left written written' ends.Ok × IsAtEnd left'
RunEnd left left' written written' wants wants' ends.Words = ⊥
RunEnd left left' written written' wants wants' (ends.Script line kind) = Ends left written written' (ends.Script line kind)
RunEnd left left' written written' wants wants' (ends.Store entry) = ⊥
RunEnd left left' written written' wants wants' ends.ReadFault = WroteAllRead left left' written written'
RunEnd left left' written written' wants wants' ends.WriteFault = WroteFront left written written'
RunEnd left left' written written' wants wants' ends.TrailFault = ⊥
RunEnd left left' written written' wants wants' ends.DiskFault = ⊥
RunEnd left left' written written' wants wants' (ends.Premise line which) = Ends left written written' (ends.Premise line which)
RunEnd left left' written written' wants wants' (ends.Limit line) = Ends left written written' (ends.Limit line)
RunEnd left left' written written' wants wants' (ends.Differs kind member event) = ⊥
RunEnd left left' written written' wants wants' (ends.GaveUp client polls) = ⊥
RunEnd left left' written written' wants wants' ends.NoMemory = WroteLines left written written' ⊎ (Rose wants wants' × WroteFront left written written')
