-- Why the play without threads ended, and what it leaves of a group's client.
use Rattle.std.specs.Prelude.{◌≡◌, ◌≤◌, ◌++◌, ℕ, Bool, true, false, List, Option, None, is_some}
use Rattle.faults.specs.Counts.{Rose}
use Rattle.client_quorum.specs.declared.client.Client.{Client}
use Rattle.trail.specs.declared.event.TrailEvent.{TrailEvent}
use Rattle.trail.specs.declared.opening.TrailOpening.{TrailOpening}
use Rattle.group_ends.specs.Journals.{has_end}
use Rattle.group_client.specs.Amounts.{AsksUpTo}
use Rattle.group_client.specs.Ends.{cuts_line}
use Rattle.group_client.specs.Lines.{accepted, IsTold, IsToldFirst, IsToldWhole}
use Rattle.group_client.specs.Loops.{Output}
use Rattle.group_client.specs.declared.asking.ClientFault.TheVariants as faults
use Rattle.group_parties.specs.declared.playing.PlayEnd.{PlayEnd}
use Rattle.group_parties.specs.declared.playing.PlayEnd.TheVariants.{Done, Still, Over, GaveUp}

-- whether the client does not go on
abbrev pub has_given_up : PlayEnd → Bool
has_given_up Done = false
has_given_up Still = false
has_given_up Over = false
has_given_up (GaveUp fault) = true

-- whether the last line may be cut off
abbrev pub is_line_cut : PlayEnd → Bool
is_line_cut Done = false
is_line_cut Still = false
is_line_cut Over = false
is_line_cut (GaveUp fault) = cuts_line fault

-- The play has ended over a trail of the client. The trail asks for the amounts in order, and lines were written of what it accepts. A failure has its cause in a count.
pub record PlayMade (head : TrailOpening) (asks : ℕ) (end : PlayEnd) (old new : List TrailEvent) (client : Client) (over : Bool) (pending : Option (List ℕ)) (failed : Bool) (before after : Output) : Type 0 where
  pub going : has_given_up end ≡ false → (over ≡ false) × (pending ≡ None)
  pub up_to : AsksUpTo asks new
  pub done : end ≡ Done → (client.waiting ≡ None) × (client.last ≡ asks)
  pub still : end ≡ Still → is_some client.waiting ≡ true
  pub unended : has_end new ≡ false
  pub behind : (more : List TrailEvent) × (new ≡ old ++ more)
  pub told : has_given_up end ≡ false → IsTold (accepted head old) (accepted head new) before.written after.written
  pub told_first : IsToldFirst (accepted head old) (accepted head new) before.written after.written
  pub lines : is_line_cut end ≡ false → IsToldWhole (accepted head old) (accepted head new) before.written after.written
  pub trail : end ≡ GaveUp faults.Trail → failed ≡ true
  pub output : end ≡ GaveUp faults.Output → Rose before.faults after.faults
  pub want : end ≡ GaveUp faults.OutputMemory → Rose before.wants after.wants
  pub later : (before.faults ≤ after.faults) × (before.wants ≤ after.wants)
