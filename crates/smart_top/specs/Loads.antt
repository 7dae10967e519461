-- What a run of `load` has written, by its status.
use Rattle.std.specs.Prelude.{ℕ, ◌≡◌, true, List, [], Option, Some, None, is_some, take, ◌⊎◌}
use Rattle.std.specs.Io.KnownBytes.{Appends}
use Rattle.faults.specs.Counts.{Rose}
use Rattle.load_maker.specs.Loads.{load_script}
use Rattle.app_count.specs.declared.Count.{Count}
use Rattle.world_rules.specs.Plays.{Play}
use Rattle.script_play.specs.Apps.{Courses, node_courses}
use Rattle.script_play.specs.Readings.{Reading, unread, reading_after, end_of}
use Rattle.smart_top.specs.Runs.{ArePlayed}
use Rattle.script_play.specs.Totals.{totals_of, summary_text}
use Rattle.script_play.specs.declared.app.AppPlay.{AppPlay}
use Rattle.script_play.specs.declared.app.AppPlay.TheVariants as plays
use Rattle.script_play.specs.declared.status.Refusal.{Refusal}
use Rattle.script_play.specs.declared.status.Refusal.TheVariants as refusals
use Rattle.script_play.specs.declared.status.Status.{Status}
use Rattle.script_play.specs.declared.status.Status.TheVariants as ends

-- the script of a load of n asks, read to its end or up to a line that is refused
abbrev pub load_read : Courses → ℕ → Reading
load_read courses n = reading_after courses unread (load_script n)

-- a play over a sum
abbrev pub IsCount : Option AppPlay → Type 0
IsCount None = ⊥
IsCount (Some (plays.Count p)) = Unit {0}
IsCount (Some (plays.Kv p)) = ⊥

-- a script whose play is one over a sum
abbrev pub HasCount : Reading → Type 0
HasCount r = IsCount r.play

-- why a line of a load may be refused: its play breaks a premise, or passes a limit
abbrev pub IsOfPlay : Option Refusal → Type 0
IsOfPlay None = Unit {0}
IsOfPlay (Some (refusals.Script kind)) = ⊥
IsOfPlay (Some (refusals.Premise which)) = Unit {0}
IsOfPlay (Some refusals.Limit) = Unit {0}

-- The play of a whole load: its script was read, none of its lines was refused, and this is the play that they lead to. One list holds of it.
pub record IsLoadPlay (n : ℕ) (p : Play Count) : Type 0 where
  pub whole : (load_read node_courses n).refused ≡ None
  pub play_is : (load_read node_courses n).play ≡ Some (plays.Count p)
  pub played : ArePlayed (load_script n)

-- a run of a load that has written the summary of its play
pub record WroteSummary (n : ℕ) (written written' : Option (List ℕ)) : Type 0 where
  pub play : Play Count
  pub is : IsLoadPlay n play
  pub text : Appends written written' (summary_text n (totals_of play))

-- a run of a load that has written a front of that summary
pub record WroteSummaryFront (n : ℕ) (written written' : Option (List ℕ)) : Type 0 where
  pub play : Play Count
  pub is : IsLoadPlay n play
  pub count : ℕ
  pub text : Appends written written' (take count (summary_text n (totals_of play)))

-- A run of a load of which a line was refused: its status is that of the script. It has written nothing.
pub record RefusedLine (n : ℕ) (written written' : Option (List ℕ)) (status : Status) : Type 0 where
  pub refused : is_some (load_read node_courses n).refused ≡ true
  pub status_is : status ≡ end_of (load_read node_courses n)
  pub text : Appends written written' []
  pub played : ArePlayed (load_script n)

-- What a run of a load has written, by its status. It has read nothing. Each line of its script has a meaning, so it never ends with `Script`. After want of memory it has written nothing, unless the sink wanted
-- memory.
abbrev pub LoadEnd : ℕ → Option (List ℕ) → Option (List ℕ) → ℕ → ℕ → Status → Type 0
LoadEnd n written written' wants wants' ends.Ok = WroteSummary n written written'
LoadEnd n written written' wants wants' ends.Words = ⊥
LoadEnd n written written' wants wants' (ends.Script line kind) = ⊥
LoadEnd n written written' wants wants' (ends.Store entry) = ⊥
LoadEnd n written written' wants wants' ends.ReadFault = ⊥
LoadEnd n written written' wants wants' ends.WriteFault = WroteSummaryFront n written written'
LoadEnd n written written' wants wants' ends.TrailFault = ⊥
LoadEnd n written written' wants wants' ends.DiskFault = ⊥
LoadEnd n written written' wants wants' (ends.Premise line which) = RefusedLine n written written' (ends.Premise line which)
LoadEnd n written written' wants wants' (ends.Limit line) = RefusedLine n written written' (ends.Limit line)
LoadEnd n written written' wants wants' (ends.Differs kind member event) = ⊥
LoadEnd n written written' wants wants' (ends.GaveUp client polls) = ⊥
LoadEnd n written written' wants wants' ends.NoMemory = Appends written written' [] ⊎ (Rose wants wants' × WroteSummaryFront n written written')
