use Rattle.std.proofs.Common.{◌≡◌, drop}
use Rattle.smart_base.specs.Decimals.{number_from, number_of}
use Rattle.smart_base.proofs.decimal.number_of.Given as goal

-- going on with the digits left gives the number
abbrev pub invariant-loop-digit : goal.invariant-loop-digit
invariant-loop-digit l = number_from l.n (drop l.digit-index l.digits) ≡ number_of l.digits
