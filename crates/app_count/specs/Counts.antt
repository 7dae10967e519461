-- A service that adds.
use Rattle.std.specs.Prelude.{ℕ, ◌+◌, ◌-◌, ◌^◌, ◌<◌, ◌==◌, min, List, length, if◌then◌else◌, Option, Some, None, codes}
use Rattle.std.specs.Fmt.{decimal}
use Rattle.std.specs.Int.{w64, from_be_bytes}
use Rattle.smart_base.specs.Decimals.{number_of}
use Rattle.smart_base.specs.Spelling.{u64}
use Rattle.smart_service.specs.Services.{Meaning}
use Rattle.app_count.specs.declared.Count.{Count}

-- the sum with an amount, if one is given. It stays at 2 ^ 64 - 1
abbrev pub sum_with : ℕ → Option ℕ → ℕ
sum_with sum None = sum
sum_with sum (Some amount) = min (sum + amount) (2 ^ 64 - 1)

-- the new sum in decimal, and ? to what is no amount
abbrev pub reply_to : ℕ → Option ℕ → List ℕ
reply_to sum None = codes "?"
reply_to sum (Some amount) = decimal (sum_with sum (Some amount))

-- the sums that there are
abbrev pub IsSum : Count → Type 0
IsSum s = s.sum < 2 ^ 64

-- the sum that 8 bytes are
abbrev pub restored : List ℕ → Option Count
restored bytes = if length bytes == 8 then Some (record { sum = from_be_bytes w64 bytes }) else None

abbrev pub counting : Meaning Count
counting =
    record {
      first = record { sum = 0 };
      next = λ s op. record { sum = sum_with s.sum (number_of op) };
      reply = λ s op. reply_to s.sum (number_of op);
      snapshot = λ s. u64 s.sum;
      restore = restored;
    }
