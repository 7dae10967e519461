-- Which requests a script may have proposed.
use Rattle.std.specs.Prelude.{nat_le, Bool, ◌&&◌, length, if◌then◌else◌, Option, Some, None}
use Rattle.std.specs.Option.{option_and_then}
use Rattle.smart_base.specs.declared.limits.TheConstants.{BATCH_BYTES, BATCH_REQUESTS}
use Rattle.smart_statements.specs.Batches.{Batch, batch_text}

-- 1 to 64 requests of at most 262,144 bytes
abbrev pub is_proposable : Batch → Bool
is_proposable batch = nat_le 1 (length batch) && nat_le (length batch) BATCH_REQUESTS && nat_le (length (batch_text batch)) BATCH_BYTES

-- a batch, if it may be proposed
abbrev pub proposable : Option Batch → Option Batch
proposable found = option_and_then (λ batch. if is_proposable batch then Some batch else None) found
