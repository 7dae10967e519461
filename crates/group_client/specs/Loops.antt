-- What the loop of a group's client leaves.
use Rattle.std.specs.Prelude.{◌≡◌, ◌≤◌, ℕ, ◌+◌, ◌-◌, ◌^◌, min, Bool, true, false, List, Option, None, is_some}
use Rattle.faults.specs.Counts.{Rose}
use Rattle.client_quorum.specs.declared.client.Client.{Client}
use Rattle.trail.specs.declared.event.TrailEvent.{TrailEvent}
use Rattle.trail.specs.declared.opening.TrailOpening.{TrailOpening}
use Rattle.group_ends.specs.Journals.{has_end}
use Rattle.client_seat.specs.Asks.{polls_since}
use Rattle.group_client.specs.Amounts.{amounts, asked_in, AsksUpTo}
use Rattle.group_client.specs.Ends.{gave_up, is_line_cut}
use Rattle.group_client.specs.Lines.{accepted, IsTold, IsToldFirst, IsToldWhole}
use Rattle.group_client.specs.declared.asking.ClientFault.TheVariants as faults
use Rattle.group_client.specs.declared.turns.ClientEnd.{ClientEnd}
use Rattle.group_client.specs.declared.turns.ClientEnd.TheVariants as ends

-- what was written to an output, and how often it has failed and wanted memory
pub record Output : Type 0 where
  pub written : Option (List ℕ)
  pub faults : ℕ
  pub wants : ℕ

-- The loop has ended over a trail. The trail asks for the amounts in order, and lines were written of what it accepts. A failure has its cause in a count.
pub record LoopMade (head : TrailOpening) (asks turns : ℕ) (end : ClientEnd) (old new : List TrailEvent) (client : Client) (over : Bool) (pending : Option (List ℕ)) (idle : ℕ) (failed : Bool) (before after : Output) : Type 0 where
  pub going : gave_up end ≡ false → (over ≡ false) × (pending ≡ None)
  pub asked : gave_up end ≡ false → (asked_in new ≡ amounts client.last) × (client.last ≤ asks)
  pub up_to : AsksUpTo asks new
  pub done : end ≡ ends.Done → (client.waiting ≡ None) × (client.last ≡ asks)
  pub spent : end ≡ ends.Spent → (is_some client.waiting ≡ true) × (turns ≤ min (polls_since 0 new + idle) (2 ^ 64 - 1))
  pub unended : has_end new ≡ false
  pub told : gave_up end ≡ false → IsTold (accepted head old) (accepted head new) before.written after.written
  pub told_first : IsToldFirst (accepted head old) (accepted head new) before.written after.written
  pub lines : is_line_cut end ≡ false → IsToldWhole (accepted head old) (accepted head new) before.written after.written
  pub trail : end ≡ ends.GaveUp faults.Trail → failed ≡ true
  pub output : end ≡ ends.GaveUp faults.Output → Rose before.faults after.faults
  pub want : end ≡ ends.GaveUp faults.OutputMemory → Rose before.wants after.wants
  pub later : (before.faults ≤ after.faults) × (before.wants ≤ after.wants)
