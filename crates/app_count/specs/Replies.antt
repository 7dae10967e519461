-- Replies of the adding service are short, and can be printed.
use Rattle.std.proofs.Common.{ℕ, ◌+◌, ◌-◌, ◌%◌, ◌^◌, ◌<◌, ◌≤◌, min, List, [], ◌∷◌, ◌++◌, length, Option, Some, None, arith}
use Rattle.std.specs.Fmt.{decimal}
use Rattle.std.proofs.lemmas.Fmt.{length-decimal-le, decimal_by_steps}
use Rattle.smart_base.specs.Decimals.{number_of}
use Rattle.smart_base.specs.Lists.{Each}
use Rattle.smart_service.specs.Services.{IsPrintable}
use Rattle.app_count.specs.Counts.{IsSum, reply_to, counting}
use Rattle.app_count.specs.declared.Count.{Count}

brief_number : (n : ℕ) → n < 2 ^ 64 → length (decimal n) ≤ 4096
brief_number n small = omega (arith, length-decimal-le 20 n (omega arith) (omega (arith, small)) small)

brief_reply : (sum : ℕ) (amount : Option ℕ) → length (reply_to sum amount) ≤ 4096
brief_reply sum None = omega arith
brief_reply sum (Some amount) = brief_number (min (sum + amount) (2 ^ 64 - 1)) (omega arith)

-- a reply has at most 4,096 bytes
pub brief_replies : (s : Count) (op : List ℕ) → IsSum s → length (counting.reply s op) ≤ 4096
brief_replies s op h = brief_reply s.sum (number_of op)

-- a digit behind a text
printable_end : (text : List ℕ) (n : ℕ) → Each IsPrintable text → Each IsPrintable (text ++ (48 + n % 10) ∷ [])
printable_end [] n h = ((omega arith, omega arith), tt)
printable_end (byte ∷ text) n h = (h.0, printable_end text n h.1)

printable_number : (n : ℕ) → n < 2 ^ 64 → Each IsPrintable (decimal n)
printable_number n small =
    decimal_by_steps (λ n text. Each IsPrintable text) (λ n digit. ((omega arith, omega (arith, digit)), tt))
    (λ n text more h. printable_end text n h) n small

printable_reply : (sum : ℕ) (amount : Option ℕ) → Each IsPrintable (reply_to sum amount)
printable_reply sum None = ((omega arith, omega arith), tt)
printable_reply sum (Some amount) = printable_number (min (sum + amount) (2 ^ 64 - 1)) (omega arith)

-- a reply can be printed
pub printable_replies : (s : Count) (op : List ℕ) → IsSum s → Each IsPrintable (counting.reply s op)
printable_replies s op h = printable_reply s.sum (number_of op)
