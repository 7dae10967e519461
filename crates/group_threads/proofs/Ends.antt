-- What a loop's answer says of the call that made it.
use Rattle.std.proofs.Common.{◌≤◌, ℕ, arith}
use Rattle.std.proofs.lemmas.Bool.Decides.{nat_tests}
use Rattle.check_worker.specs.Hands.{last_then}

pub last_up : (last place : ℕ) → last ≤ last_then last place
last_up last place = grind (arith, nat_tests)
