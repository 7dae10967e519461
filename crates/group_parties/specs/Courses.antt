-- How the parties of a group have come to their end.
use Rattle.std.specs.Prelude.{Bool, true, false, ◌≡◌, ◌≤◌, ◌++◌, ℕ, List, [], None, is_some}
use Rattle.group_client.specs.Ends.{cuts_line}
use Rattle.group_parties.specs.declared.playing.PlayEnd.{PlayEnd}
use Rattle.group_parties.specs.declared.playing.PlayEnd.TheVariants as plays
use Rattle.group_parties.specs.declared.running.CourseEnd.{CourseEnd}
use Rattle.group_parties.specs.declared.running.CourseEnd.TheVariants.{Done, Still, Over, GaveUp}
use Rattle.faults.specs.Counts.{Rose}
use Rattle.trail.specs.declared.event.TrailEvent.{TrailEvent}
use Rattle.trail.specs.declared.opening.TrailOpening.{TrailOpening}
use Rattle.client_quorum.specs.declared.client.Client.{Client}
use Rattle.client_seat.specs.Asks.{polls_since}
use Rattle.group_client.specs.Amounts.{AsksUpTo}
use Rattle.group_client.specs.Lines.{accepted, IsTold, IsToldFirst, IsToldWhole}
use Rattle.group_client.specs.Loops.{Output}
use Rattle.group_client.specs.declared.asking.ClientFault.TheVariants as faults_of
use Rattle.group_parties.specs.declared.running.CourseEnd.TheVariants as courses

-- the end of a play as one of a course
abbrev pub end_of_play : PlayEnd → CourseEnd
end_of_play plays.Done = Done
end_of_play plays.Still = Still
end_of_play plays.Over = Over
end_of_play (plays.GaveUp fault) = GaveUp fault

-- whether the client does not go on
abbrev pub is_cut_off : CourseEnd → Bool
is_cut_off Done = false
is_cut_off Still = false
is_cut_off Over = false
is_cut_off (GaveUp fault) = true

-- whether the last line may be cut off
abbrev pub is_line_cut : CourseEnd → Bool
is_line_cut Done = false
is_line_cut Still = false
is_line_cut Over = false
is_line_cut (GaveUp fault) = cuts_line fault

-- The parties have come to an end, and this is the client's trail: it asks for the amounts in order, and lines were written of what it accepts. A failure has its
-- cause in a count.
pub record CourseMade (head : TrailOpening) (asks turns : ℕ) (end : CourseEnd) (client : Client) (events : List TrailEvent) (before after : Output) : Type 0 where
  pub up_to : AsksUpTo asks events
  pub done : end ≡ courses.Done → (client.waiting ≡ None) × (client.last ≡ asks)
  pub still : end ≡ courses.Still → (is_some client.waiting ≡ true) × ((front : List TrailEvent) × ((behind : List TrailEvent) × ((events ≡ front ++ behind) × (turns ≤ polls_since 0 front))))
  pub told : is_cut_off end ≡ false → IsTold [] (accepted head events) before.written after.written
  pub told_first : IsToldFirst [] (accepted head events) before.written after.written
  pub lines : is_line_cut end ≡ false → IsToldWhole [] (accepted head events) before.written after.written
  pub output : end ≡ courses.GaveUp faults_of.Output → Rose before.faults after.faults
  pub want : end ≡ courses.GaveUp faults_of.OutputMemory → Rose before.wants after.wants
  pub later : (before.faults ≤ after.faults) × (before.wants ≤ after.wants)
