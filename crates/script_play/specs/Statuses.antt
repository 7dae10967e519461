-- The exit status of a program, by the status of its run.
use Rattle.std.specs.Prelude.{ℕ}
use Rattle.script_play.specs.declared.status.Status.{Status}
use Rattle.script_play.specs.declared.status.Status.TheVariants as ends

-- the exit status: 0 to 11
abbrev pub code_of : Status → ℕ
code_of ends.Ok = 0
code_of ends.Words = 2
code_of (ends.Script line kind) = 3
code_of (ends.Store entry) = 3
code_of ends.ReadFault = 4
code_of ends.WriteFault = 5
code_of ends.TrailFault = 5
code_of ends.DiskFault = 6
code_of (ends.Premise line which) = 7
code_of (ends.Limit line) = 8
code_of (ends.Differs kind member event) = 9
code_of (ends.GaveUp client polls) = 10
code_of ends.NoMemory = 11
