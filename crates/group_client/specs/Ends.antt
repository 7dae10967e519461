-- Why the loop of a group's client ended.
use Rattle.std.specs.Prelude.{Bool, true, false}
use Rattle.group_client.specs.declared.asking.ClientFault.{ClientFault}
use Rattle.group_client.specs.declared.asking.ClientFault.TheVariants as faults
use Rattle.group_client.specs.declared.turns.ClientEnd.{ClientEnd}
use Rattle.group_client.specs.declared.turns.ClientEnd.TheVariants.{Done, Spent, Over, GaveUp}

-- whether the client does not go on
abbrev pub gave_up : ClientEnd → Bool
gave_up Done = false
gave_up Spent = false
gave_up Over = false
gave_up (GaveUp fault) = true

-- whether a fault may cut a line off: the output has failed, or wants memory
abbrev pub cuts_line : ClientFault → Bool
cuts_line faults.Trail = false
cuts_line faults.Output = true
cuts_line faults.OutputMemory = true
cuts_line faults.NoMemory = false

-- whether the last line may be cut off
abbrev pub is_line_cut : ClientEnd → Bool
is_line_cut Done = false
is_line_cut Spent = false
is_line_cut Over = false
is_line_cut (GaveUp fault) = cuts_line fault
